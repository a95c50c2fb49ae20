-- A look-up by hash finds the member with that hash.
use Rattle.std.proofs.Common.{ℕ, suc, ◌≡◌, ◌+◌, ◌-◌, List, [], ◌∷◌, get_or, filter, ◌&&◌, ◌==◌, Bool, true, false, Option, Some, None, option_map, refl, sym, ap, ◌∙◌, subst, inl, inr, All}
use Rattle.std.specs.List.{position}
use Rattle.std.specs.Map.{lookup, keys_of}
use Rattle.std.proofs.lemmas.Bool.{cases_Bool}
use Rattle.std.proofs.lemmas.Cmp.{nat_list_eq_equiv}
use Rattle.std.proofs.lemmas.List.Elements.{All-head, All-tail}
use Rattle.std.proofs.lemmas.Map.Text.{is_eq-slice_cmp}
use Rattle.am_types.specs.contracts.hash.HashPartialEq.TheImpl as equality
use Rattle.am_types.specs.declared.Hash.{Hash}
use Rattle.am_types.specs.Members.{Member, hashes, member}
use Rattle.am_types.specs.Operations.{max}
use Rattle.am_types.specs.Same.{same_bytes, same_hash}
use Rattle.am_types.specs.Verdicts.{has_seq}
use Rattle.am_graph.specs.declared.node.Node.{Node}
use Rattle.am_graph.specs.Graphs.{node_of, nodes, ForSet, IsLeast, having}
use Rattle.am_graph.proofs.Naming.{place, place_is}
use Rattle.am_graph.proofs.Visiting.{no_member}

pub lookup-nodes : (C : List Member) (h : Hash) → lookup (equality.eq-value.it h) (nodes C) ≡ option_map (λ m. node_of m.change) (member C h)
lookup-nodes [] h = refl
lookup-nodes (m ∷ C) h =
    let again : lookup (equality.eq-value.it h) (nodes C) ≡ option_map (λ m. node_of m.change) (member C h) = lookup-nodes C h in
    let both : same_hash h m.hash ≡ equality.eq-value.it h m.hash = is_eq-slice_cmp h.0 m.hash.0 in
    elim (cases_Bool (same_hash h m.hash)) [
      | inl e ↦ let f : equality.eq-value.it h m.hash ≡ true = sym both ∙ e in simp (e, f) refl
      | inr e ↦ let f : equality.eq-value.it h m.hash ≡ false = sym both ∙ e in simp (e, f) again
    ]

-- what holds of each holds of what is found
pub lookup_all : (P : Node → Type 0) (t : Hash → Bool) (g : List (Hash × Node)) (v : Node) → All (λ e. P e.1) g → lookup t g ≡ Some v → P v
lookup_all P t [] v all e = absurd (clash e)
  where
    clash : None ≡ Some v → ⊥
    clash e = cc
lookup_all P t (x ∷ g) v all e =
    let again : lookup t g ≡ Some v → P v = lookup_all P t g v (All-tail (λ e. P e.1) x g all) in
    elim (cases_Bool (t x.0)) [
      | inl f ↦ let s : Some x.1 ≡ Some v = simp f at e in let r : x.1 ≡ v = cc in subst P r (All-head (λ e. P e.1) x g all)
      | inr f ↦ again (simp f at e)
    ]

-- the last counter, by the node
pub max-member : (C : List Member) (h : Hash) (o : Option Node) → option_map (λ m. node_of m.change) (member C h) ≡ o → option_map (λ (n : Node). n.start + n.count - 1) o ≡ option_map (λ m. max m.change) (member C h)
max-member C h o e = ap (option_map (λ (n : Node). n.start + n.count - 1)) (sym e) ∙ go (member C h)
  where
    go : (o : Option Member) → option_map (λ (n : Node). n.start + n.count - 1) (option_map (λ m. node_of m.change) o) ≡ option_map (λ m. max m.change) o
    go None = refl
    go (Some m) = refl

-- by its place
pub member_at : (C : List Member) (h : Hash) → member C h ≡ option_map (λ i. get_or C i no_member) (position (equality.eq-value.it h) (keys_of (nodes C)))
unfolding place
member_at C h = go C ∙ ap (option_map (λ i. get_or C i no_member)) (sym (place_is (equality.eq-value.it h) (keys_of (nodes C))))
  where
    shift : (m : Member) (C : List Member) (o : Option ℕ) → option_map (λ i. get_or C i no_member) o ≡ option_map (λ i. get_or (m ∷ C) i no_member) (option_map suc o)
    shift m C None = refl
    shift m C (Some i) = refl

    go : (C : List Member) → member C h ≡ option_map (λ i. get_or C i no_member) (place (equality.eq-value.it h) (keys_of (nodes C)))
    go [] = refl
    go (m ∷ C) =
        let again : member C h ≡ option_map (λ i. get_or C i no_member) (place (equality.eq-value.it h) (keys_of (nodes C))) = go C in
        let both : same_hash h m.hash ≡ equality.eq-value.it h m.hash = is_eq-slice_cmp h.0 m.hash.0 in
        elim (cases_Bool (same_hash h m.hash)) [
          | inl e ↦ let f : equality.eq-value.it h m.hash ≡ true = sym both ∙ e in simp (e, f) refl
          | inr e ↦ let f : equality.eq-value.it h m.hash ≡ false = sym both ∙ e in simp (e, f) (again ∙ shift m C (place (equality.eq-value.it h) (keys_of (nodes C))))
        ]

-- ---- the changes with an actor and a seq

having-nodes : (C : List Member) (x : List ℕ) (q : ℕ) → having (nodes C) x q ≡ hashes (filter (has_seq x q) C)
having-nodes [] x q = refl
having-nodes (m ∷ C) x q =
    let again : having (nodes C) x q ≡ hashes (filter (has_seq x q) C) = having-nodes C x q in
    let turned : has_seq x q m ≡ (same_bytes x m.change.actor && m.change.seq == q) = ap (λ b. b && m.change.seq == q) (nat_list_eq_equiv.symm m.change.actor x) in
    elim (cases_Bool (same_bytes x m.change.actor && m.change.seq == q)) [
      | inl e ↦ let f : has_seq x q m ≡ true = turned ∙ e in simp (e, f) (ap (λ l. m.hash ∷ l) again)
      | inr e ↦ let f : has_seq x q m ≡ false = turned ∙ e in simp (e, f) again
    ]

pub least_of_set : (g : List (Hash × Node)) (o : Option Hash) (x : List ℕ) (q : ℕ) → IsLeast o (having g x q) → ForSet g (λ C. IsLeast o (hashes (filter (has_seq x q) C)))
least_of_set g o x q l C e = subst (IsLeast o) (ap (λ g. having g x q) e ∙ having-nodes C x q) l
