-- A graph is copied change by change, and what is kept beside the changes is cloned.
use Rattle.std.proofs.Common.{ℕ, ◌≡◌, ◌<◌, ◌≤◌, List, [], ◌∷◌, length, get_or, map, take, false, Option, Some, None, option_map, sym, ap, ◌∙◌, subst, inl, inr, arith}
use Rattle.std.specs.Option.{IfSome}
use Rattle.std.proofs.lemmas.Bool.{cases_Bool, both_ways}
use Rattle.std.proofs.lemmas.List.{get_or-map, length-map, length-take, get_or-take}
use Rattle.am_types.specs.declared.Hash.{Hash}
use Rattle.am_types.specs.Same.{same_hash}
use Rattle.am_laws.proofs.Growth.{found_among}
use Rattle.am_types.proofs.Orders.{same_hash_itself}
use Rattle.am_graph.specs.declared.node.Node.{Node}
use Rattle.am_graph.specs.declared.parts.Mark.{Mark}
use Rattle.am_graph.specs.declared.reach.Reach.{Reach}
use Rattle.am_types.specs.Members.{Member}
use Rattle.am_types.specs.Ancestors.{ancestors}
use Rattle.am_graph.specs.Graphs.{is_held, ForSet, IsSound}
use Rattle.am_graph.specs.Reaches.{IsTableOf}
use Rattle.am_graph.specs.Whole.{WholeOf}
use Rattle.am_graph.proofs.Growing.{length_nodes}

-- ---- the changes

-- the next hash isn't among those before it
pub fresh_next : (g : List (Hash × Node)) → IsSound g → (i : ℕ) (e : Hash × Node) → i < length g → get_or g i e ≡ e → is_held (take i g) e.0 ≡ false
fresh_next g sound i e l at = elim (cases_Bool (is_held (take i g) e.0)) [
  | inl t ↦
      let c = found_among (map (λ (e : Hash × Node). e.0) (take i g)) e.0 t in
      let k : ℕ = c.0 in
      let kl : k < length (map (λ (e : Hash × Node). e.0) (take i g)) = c.1 in
      let long = length-map (take i g) (λ (e : Hash × Node). e.0) in
      let taken = length-take i g in
      let below : k < i = omega arith in
      let is : (get_or g k e).0 ≡ e.0 = sym (get_or-map (λ (e : Hash × Node). e.0) (take i g) k e e.0 (omega arith) ∙ ap (λ q. q.0) (get_or-take i g k e below)) ∙ c.2 in
      absurd (both_ways _ (sound.distinct k i e below l) ((λ t. same_hash (is t) (at t).0) ∙ same_hash_itself e.0))
  | inr f ↦ f
]

-- ---- what is kept beside them

abbrev pub table_of : Mark → Option (List Reach)
table_of m = option_map (λ v. v.items) m.kept

-- the marks say the same
pub record IsAlike (m n : Mark) : Type 0 where
  pub author : n.author ≡ m.author
  pub depth : n.depth ≡ m.depth
  pub kept : table_of n ≡ table_of m

to_mapped : {V X : Type 0} (f : V → X) (P : X → Type 0) (o : Option V) → IfSome o (λ v. P (f v)) → IfSome (option_map f o) P
to_mapped f P None h = h
to_mapped f P (Some v) h = h

from_mapped : {V X : Type 0} (f : V → X) (P : X → Type 0) (o : Option V) → IfSome (option_map f o) P → IfSome o (λ v. P (f v))
from_mapped f P None h = h
from_mapped f P (Some v) h = h

kept_alike : (m n : Mark) (P : List Reach → Type 0) → table_of n ≡ table_of m → IfSome m.kept (λ T. P T.items) → IfSome n.kept (λ T. P T.items)
kept_alike m n P e h = from_mapped (λ v. v.items) P n.kept (subst (λ o. IfSome o P) (sym e) (to_mapped (λ v. v.items) P m.kept h))

module _ (g : List (Hash × Node)) (ms ns : List Mark) (authors : List (List ℕ)) (f : ℕ → ℕ → Option Hash)
    (long : length ns ≡ length ms) (alike : (k : ℕ) (d : Mark) → k < length ms → IsAlike (get_or ms k d) (get_or ns k d)) where
  pub whole_alike : WholeOf g ms authors f → WholeOf g ns authors f
  whole_alike whole = let beside = whole.beside in record {
    sound = whole.sound;
    beside = long ∙ whole.beside;
    numbers = λ k d e l. let b : k < length ms = omega arith in whole.numbers k d e l ∙ ap Some (sym (alike k d b).author);
    depths = λ C is k d m l. let n = length_nodes C in let z = ap length is in let b : k < length ms = omega arith in
        (alike k d b).depth ∙ whole.depths C is k d m l;
    shallow = λ k d l. let b : k < length ms = omega arith in subst (λ n. n ≤ k) (sym (alike k d b).depth) (whole.shallow k d b);
    kept = λ k d l. let b : k < length ms = omega arith in
        kept_alike (get_or ms k d) (get_or ns k d) (λ T. (length T ≤ length authors) × ForSet g (λ C. (m : Member) → k < length C → IsTableOf authors (ancestors C ((get_or C k m).hash ∷ [])) T))
        (alike k d b).kept (whole.kept k d b);
    firsts = whole.firsts;
    unnamed = whole.unnamed;
  }
