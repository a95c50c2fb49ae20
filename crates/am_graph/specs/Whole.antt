-- What holds of the parts of a graph at all times.
--     authors_of s        the actors, each with its place as its number
--     first_of s a q      the hash that is kept for the author a and the seq q
--     IsWhole s           the parts s belong together
--     IsMarkOf s n mark   the mark is that of a change with the node n, which is about to join
use Rattle.std.specs.Prelude.{ℕ, ◌≡◌, ◌<◌, ◌≤◌, ◌&&◌, ◌==◌, List, [], ◌∷◌, length, slice_index_or, Option, Some, None, IfSome, if◌then◌else◌}
use Rattle.std.specs.BTreeMap.{BTreeMap, get}
use Rattle.std.specs.Ordering.{nat_cmp, ordering_then, is_gt}
use Rattle.std.specs.declared.cmp.Ordering.{Ordering}
use Rattle.am_types.specs.declared.Hash.{Hash}
use Rattle.am_types.specs.declared.Change.{Change}
use Rattle.am_types.specs.Order.{hash_cmp}
use Rattle.am_types.specs.Members.{Member}
use Rattle.am_types.specs.Ancestors.{ancestors}
use Rattle.am_types.specs.Canonical.{depth}
use Rattle.am_graph.specs.declared.node.Node.{Node}
use Rattle.am_graph.specs.declared.parts.Mark.{Mark}
use Rattle.am_graph.specs.declared.parts.Parts.{Parts}
use Rattle.am_graph.specs.Graphs.{node_of, ForSet, IsSound, IsLeast, having}
use Rattle.am_graph.specs.Reaches.{number, IsTableOf}

abbrev pub pair_cmp : ℕ × ℕ → ℕ × ℕ → Ordering
pair_cmp p q = ordering_then (nat_cmp p.0 q.0) (nat_cmp p.1 q.1)

abbrev pub authors_of : Parts → List (List ℕ)
authors_of s = s.authors

abbrev pub first_in : BTreeMap (ℕ × ℕ) Hash → ℕ → ℕ → Option Hash
first_in firsts a q = get pair_cmp firsts (a, q)

-- changes g with their marks, the authors, and the least hash f of each author and seq
pub record WholeOf (g : List (Hash × Node)) (marks : List Mark) (authors : List (List ℕ)) (f : ℕ → ℕ → Option Hash) : Type 0 where
  pub sound : IsSound g
  pub beside : length marks ≡ length g
  pub numbers : (k : ℕ) (d : Mark) (e : Hash × Node) → k < length g → number authors (slice_index_or g k e).1.actor ≡ Some (slice_index_or marks k d).author
  pub depths : ForSet g (λ C. (k : ℕ) (d : Mark) (m : Member) → k < length C → (slice_index_or marks k d).depth ≡ depth C (slice_index_or C k m).change)
  pub shallow : (k : ℕ) (d : Mark) → k < length marks → (slice_index_or marks k d).depth ≤ k
  pub kept : (k : ℕ) (d : Mark) → k < length marks → IfSome (slice_index_or marks k d).kept (λ T.
      (length T.items ≤ length authors)
      × ForSet g (λ C. (m : Member) → k < length C → IsTableOf authors (ancestors C ((slice_index_or C k m).hash ∷ [])) T.items))
  pub firsts : (x : List ℕ) (a q : ℕ) → number authors x ≡ Some a → IsLeast (f a q) (having g x q)
  pub unnamed : (a q : ℕ) → length authors ≤ a → f a q ≡ None

abbrev pub IsWhole : Parts → Type 0
IsWhole s = WholeOf s.held.entries s.marks.items (authors_of s) (first_in s.firsts)

-- the mark of a change with the node n, whose dependencies are among g
pub record MarkOf (g : List (Hash × Node)) (authors : List (List ℕ)) (n : Node) (mark : Mark) : Type 0 where
  pub author : number authors n.actor ≡ Some mark.author
  pub depth : ForSet g (λ C. (c : Change) → node_of c ≡ n → mark.depth ≡ depth C c)
  pub shallow : mark.depth ≤ length g
  pub kept : IfSome mark.kept (λ T.
      (length T.items ≤ length authors)
      × ForSet g (λ C. (m : Member) → node_of m.change ≡ n → IsTableOf authors (m ∷ ancestors C n.deps) T.items))

abbrev pub IsMarkOf : Parts → Node → Mark → Type 0
IsMarkOf s n mark = MarkOf s.held.entries (authors_of s) n mark

-- the lesser of the two hashes
abbrev pub lesser : Option Hash → Hash → Hash
lesser None h = h
lesser (Some k) h = if is_gt (hash_cmp k h) then h else k

-- h was noted for the author a and the seq q
abbrev pub Notes : (ℕ → ℕ → Option Hash) → (ℕ → ℕ → Option Hash) → ℕ → ℕ → Hash → Type 0
Notes old new a q h = (b r : ℕ) → new b r ≡ (if b == a && r == q then Some (lesser (old b r) h) else old b r)

-- nothing is kept any more for the author a and the seq q
abbrev pub Forgets : (ℕ → ℕ → Option Hash) → (ℕ → ℕ → Option Hash) → ℕ → ℕ → Type 0
Forgets old new a q = (b r : ℕ) → new b r ≡ (if b == a && r == q then None else old b r)
