-- A hash that stands at the guess is found there.
use Rattle.std.proofs.Common.{ℕ, zero, suc, ◌≡◌, ◌<◌, List, [], ◌∷◌, length, get_or, Bool, true, false, Some, option_map, slice_get, refl, sym, ap, ◌∙◌, arith}
use Rattle.std.specs.Map.{lookup, keys_of}
use Rattle.std.proofs.lemmas.Cmp.{eq_by_cmp_equiv}
use Rattle.std.proofs.lemmas.Map.Text.{is_eq-slice_cmp}
use Rattle.std.proofs.lemmas.Option.{get_or_from_slice_get}
use Rattle.am_types.specs.contracts.hash.HashPartialEq.TheImpl as equality
use Rattle.am_types.specs.declared.Hash.{Hash}
use Rattle.am_types.specs.Same.{same_hash}
use Rattle.am_types.proofs.Orders.{hash_total, same_hash-true, same_hash_itself}
use Rattle.am_graph.specs.declared.node.Node.{Node}
use Rattle.am_graph.specs.Graphs.{IsSound, place_in, is_held}
use Rattle.am_graph.proofs.Held.{is_some-held}
use Rattle.am_graph.proofs.Naming.{place, place_is}

first_at : (t : Hash → Bool) (g : List (Hash × Node)) (i : ℕ) (d : Hash × Node) → i < length g → t (get_or g i d).0 ≡ true → ((j : ℕ) → j < i → t (get_or g j d).0 ≡ false) → place t (keys_of g) ≡ Some i
unfolding place
first_at t [] i d l e f = absurd (omega arith)
first_at t (x ∷ g) zero d l e f = simp e refl
first_at t (x ∷ g) (suc i) d l e f =
    let none : t x.0 ≡ false = f 0 (omega arith) in
    let again : place t (keys_of g) ≡ Some i = first_at t g i d (omega arith) e (λ j b. f (suc j) (omega arith)) in
    simp none (ap (option_map suc) again)

module _ (g : List (Hash × Node)) (h : Hash) (e : Hash × Node) (alike : equality.eq-value.it e.0 h ≡ true) where
  same : e.0 ≡ h
  same = same_hash-true e.0 h (is_eq-slice_cmp e.0.0 h.0 ∙ alike)

  pub guessed_place : IsSound g → (i : ℕ) → i < length g → slice_get g i ≡ Some e → Some i ≡ place_in g h
  guessed_place sound i l at =
      let here : get_or g i e ≡ e = get_or_from_slice_get g i e e at in
      sym (place_is (equality.eq-value.it h) (keys_of g)
      ∙ first_at (equality.eq-value.it h) g i e l
      (ap (λ x. equality.eq-value.it h x.0) here ∙ ap (equality.eq-value.it h) same ∙ sym (is_eq-slice_cmp h.0 h.0) ∙ same_hash_itself h)
      (λ j b.
      let k : Hash = (get_or g j e).0 in
      sym (is_eq-slice_cmp h.0 k.0) ∙ (eq_by_cmp_equiv hash_total).symm h k
      ∙ ap (same_hash k) (sym same ∙ ap (λ x. x.0) (sym here)) ∙ sound.distinct j i e b l))

  pub guessed_held : (v : Node) → lookup (equality.eq-value.it e.0) g ≡ Some v → true ≡ is_held g h
  guessed_held v found = sym (ap Rattle.std.specs.Option.is_some (ap (λ k. lookup (equality.eq-value.it k) g) (sym same) ∙ found)) ∙ is_some-held h g
