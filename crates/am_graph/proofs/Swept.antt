-- A sweep from the last change to the first: what is wanted passes on to dependencies. W is the set so far.
use Rattle.std.proofs.Common.{ℕ, zero, suc, ◌≡◌, ◌<◌, ◌≤◌, List, [], ◌∷◌, length, get_or, Bool, true, refl, sym, ap, ◌∙◌, subst, inl, inr, ◌⊎◌, All, Contains, arith}
use Rattle.std.proofs.lemmas.List.{get_or_default}
use Rattle.std.proofs.lemmas.List.Elements.{All-contains, Contains-get_or}
use Rattle.am_types.specs.declared.Hash.{Hash}
use Rattle.am_types.specs.Order.{same}
use Rattle.am_types.specs.Members.{Member}
use Rattle.am_types.specs.Ancestors.{is_named, ancestor_hashes, ancestors}
use Rattle.am_laws.proofs.Ancestry.{ancestors_closed, ancestors_least, Contains-from_filter}
use Rattle.am_laws.proofs.Growth.{among_at, found_among, same_answers}
use Rattle.am_graph.specs.declared.node.Node.{Node}
use Rattle.am_graph.specs.Graphs.{nodes, node_of, ForSet, TellsAncestors}

-- what is wanted is an ancestor
abbrev pub Within : List (Hash × Node) → List Hash → (Hash → Bool) → Type 0
Within g hs W = ForSet g (λ C. (m : Member) → Contains C m → W m.hash ≡ true → Contains (ancestors C hs) m)

-- the dependencies of what is wanted at place i or later are wanted
abbrev pub DoneFrom : List (Hash × Node) → (Hash → Bool) → ℕ → Type 0
DoneFrom g W i = (k : ℕ) (d : Hash × Node) → i ≤ k → k < length g → W (get_or g k d).0 ≡ true → All (λ h. W h ≡ true) (get_or g k d).1.deps

-- the members of a graph by their places
entry_at : (C : List Member) (k : ℕ) (d : Member) → k < length C → get_or (nodes C) k (d.hash, node_of d.change) ≡ ((get_or C k d).hash, node_of (get_or C k d).change)
entry_at [] k d l = absurd (omega arith)
entry_at (m ∷ C) zero d l = refl
entry_at (m ∷ C) (suc k) d l = entry_at C k d (omega arith)

length_nodes : (C : List Member) → length (nodes C) ≡ length C
length_nodes [] = refl
length_nodes (m ∷ C) = ap suc (length_nodes C)

-- the sweep is done
pub swept : (g : List (Hash × Node)) (hs : List Hash) (W : Hash → Bool) → Within g hs W → All (λ h. W h ≡ true) hs → DoneFrom g W 0 → TellsAncestors g hs W
unfolding ancestors
swept g hs W within named done C e m cm =
    let back : All (λ h. W h ≡ true) (ancestor_hashes C hs) = ancestors_least C (λ h. W h ≡ true)
    (λ n cn w.
    let place : n ≡ n = refl in
    let l : cn.0 < length (nodes C) = (let z = length_nodes C in let y = cn.1 in omega arith) in
    let at : get_or (nodes C) cn.0 (n.hash, node_of n.change) ≡ (n.hash, node_of n.change) = entry_at C cn.0 n cn.1 ∙ ap (λ q. (q.hash, node_of q.change)) cn.2 in
    let d : DoneFrom (nodes C) W 0 = subst (λ g. DoneFrom g W 0) e done in
    subst (λ q. All (λ h. W h ≡ true) q.1.deps) at (d cn.0 (n.hash, node_of n.change) (omega arith) l (ap (λ q. W q.0) at ∙ w)))
    hs named in
    same_answers (W m.hash) (is_named (ancestor_hashes C hs) m)
    (λ w. (Contains-from_filter (is_named (ancestor_hashes C hs)) C m (within C e m cm w)).1)
    (λ t. All-contains (λ h. W h ≡ true) (ancestor_hashes C hs) m.hash back (found_among (ancestor_hashes C hs) m.hash t))

-- a dependency of what is wanted joins
pub within_more : (g : List (Hash × Node)) (hs : List Hash) (V W : Hash → Bool) (dep : Hash) (e : Hash × Node) → Contains g e → V e.0 ≡ true → Contains e.1.deps dep
    → ((h : Hash) → W h ≡ true → (dep ≡ h) ⊎ (V h ≡ true)) → Within g hs V → Within g hs W
within_more g hs V W dep e ce ve cd more within C is m cm w =
    elim (more m.hash w) [
      | inr v ↦ within C is m cm v
      | inl same ↦
          let ce' : Contains (nodes C) e = subst (λ g. Contains g e) is ce in
          let l : ce'.0 < length C = (let z = length_nodes C in let y = ce'.1 in omega arith) in
          let n : Member = get_or C ce'.0 m in
          let at : (n.hash, node_of n.change) ≡ e = sym (entry_at C ce'.0 m l) ∙ get_or_default' C ce'.0 (m.hash, node_of m.change) e ce'.1 ∙ ce'.2 in
          let cn : Contains C n = Contains-get_or C ce'.0 m l in
          let an : Contains (ancestors C hs) n = within C is n cn (ap (λ q. V q.0) at ∙ ve) in
          let there : Contains n.change.deps dep = subst (λ q. Contains q.1.deps dep) (sym at) cd in
          ancestors_closed C hs n m an (among_at n.change.deps m.hash dep there.0 there.1 (sym same ∙ sym there.2)) cm
    ]
  where
    get_or_default' : (C : List Member) (k : ℕ) (a b : Hash × Node) → k < length (nodes C) → get_or (nodes C) k a ≡ get_or (nodes C) k b
    get_or_default' C k a b l = get_or_default (nodes C) k a b l
