-- The changes of a set, put at their places in its listing.
use Rattle.std.proofs.Common.{ℕ, zero, suc, ◌≡◌, List, [], ◌∷◌, ◌++◌, length, map, set, true, false, cond, Option, Some, None, Contains, refl, sym, ap, ◌∙◌, subst, arith}
use Rattle.std.specs.Prelude.{◌||◌}
use Rattle.std.specs.List.{slice_get}
use Rattle.std.proofs.lemmas.Bool.{both_ways, or_parts, false_from_ne_true}
use Rattle.std.proofs.lemmas.List.{length-map}
use Rattle.std.proofs.lemmas.List.Elements.{Contains-append_right}
use Rattle.std.proofs.lemmas.List.Sorted.{Contains-permutation, IsPermutation-sym, length_permutation}
use Rattle.am_types.specs.declared.Hash.{Hash}
use Rattle.am_types.specs.declared.Change.{Change}
use Rattle.am_types.specs.Order.{hash_cmp, same}
use Rattle.am_types.specs.Members.{Member, member, holds}
use Rattle.am_types.proofs.Orders.{same_hash-true, same_hash_itself}
use Rattle.am_graph.specs.declared.Node.{Node}
use Rattle.am_delivery.specs.Waiting.{member_of, members_of}
use Rattle.am_delivery.proofs.Lists.{Contains-here, Contains-later, Contains-map}
use Rattle.am_delivery.proofs.Members.{Distinct, unique, holds_it}
use Rattle.am_delivery.proofs.Deliveries.{distinct_from_pairs}
use Rattle.am_store.specs.Listed.{IsListed, placed, standing}
use Rattle.am_store.proofs.Picking.{member_is}

abbrev entry_of : Member → Hash × Change
entry_of m = (m.hash, m.change)

not_same : (g h : Hash) → same hash_cmp g h ≡ false → same hash_cmp h g ≡ false
not_same g h f = false_from_ne_true _ (λ t. both_ways (same hash_cmp g h) f (subst (λ k. same hash_cmp g k ≡ true) (sym (same_hash-true h g t)) (same_hash_itself g)))

-- ---- one more entry

module _ (ys : List (Hash × Change)) (x : Hash × Change) where
  abbrev more : List (Hash × Change)
  more = ys ++ x ∷ []

  holds_last : holds (members_of more) x.0 ≡ true
  holds_last = holds_it (members_of more) (member_of x) (Contains-map member_of more x (Contains-append_right ys (x ∷ []) x (Contains-here x [])))

  placed_last : placed more (member_of x) ≡ Some x
  placed_last = ap (λ b. cond b (Some x) None) holds_last

holds_others : (ys : List (Hash × Change)) (x : Hash × Change) (h : Hash) → same hash_cmp h x.0 ≡ false → holds (members_of (ys ++ x ∷ [])) h ≡ holds (members_of ys) h
holds_others [] x h f = simp f refl
holds_others (y ∷ ys) x h f = ap (λ b. same hash_cmp h y.0 || b) (holds_others ys x h f)

placed_others : (ys : List (Hash × Change)) (x : Hash × Change) (m : Member) → same hash_cmp m.hash x.0 ≡ false → placed (ys ++ x ∷ []) m ≡ placed ys m
placed_others ys x m f = ap (λ b. cond b (Some (entry_of m)) None) (holds_others ys x m.hash f)

others_stay : (ys : List (Hash × Change)) (x : Hash × Change) (D : List Member) → holds D x.0 ≡ false → map (placed (ys ++ x ∷ [])) D ≡ map (placed ys) D
others_stay ys x [] f = refl
others_stay ys x (m ∷ D) f =
    let p = or_parts (same hash_cmp x.0 m.hash) (holds D x.0) f in
    let here = placed_others ys x m (not_same x.0 m.hash p.0) in
    let others = others_stay ys x D p.1 in
    λ i. here i ∷ others i

first_is : (m n : Member) (D : List Member) → slice_get (m ∷ D) zero ≡ Some n → m ≡ n
first_is m n D e = cc

there : (C : List Member) (p : ℕ) (m : Member) → slice_get C p ≡ Some m → Contains C m
there [] p m e = cc
there (n ∷ D) zero m e = subst (Contains (n ∷ D)) (first_is n m D e) (Contains-here n D)
there (n ∷ D) (suc p) m e = Contains-later n D m (there D p m e)

set_placed : (ys : List (Hash × Change)) (x : Hash × Change) (C : List Member) → Distinct C → (p : ℕ) → slice_get C p ≡ Some (member_of x) → set (map (placed ys) C) p (Some x) ≡ map (placed (ys ++ x ∷ [])) C
set_placed ys x [] d p e = cc
set_placed ys x (m ∷ D) d zero e =
    let is : m ≡ member_of x = first_is m (member_of x) D e in
    let here : placed (ys ++ x ∷ []) m ≡ Some x = ap (placed (ys ++ x ∷ [])) is ∙ placed_last ys x in
    let others = others_stay ys x D (subst (λ (n : Member). holds D n.hash ≡ false) is d.0) in
    λ i. sym here i ∷ sym others i
set_placed ys x (m ∷ D) d (suc p) e =
    let again : set (map (placed ys) D) p (Some x) ≡ map (placed (ys ++ x ∷ [])) D = set_placed ys x D d.1 p e in
    let held : holds D x.0 ≡ true = holds_it D (member_of x) (there D p (member_of x) e) in
    let apart : same hash_cmp m.hash x.0 ≡ false = false_from_ne_true _ (λ t. both_ways (holds D m.hash) d.0 (subst (λ h. holds D h ≡ true) (sym (same_hash-true m.hash x.0 t)) held)) in
    let here = placed_others ys x m apart in
    λ i. sym here i ∷ again i

-- ---- all entries

nothing_placed : (es : List (Hash × Change)) (C : List Member) → length es ≡ length C → map (λ e. None) es ≡ map (placed []) C
nothing_placed [] [] e = refl
nothing_placed [] (m ∷ C) e = absurd (omega arith)
nothing_placed (x ∷ es) [] e = absurd (omega arith)
nothing_placed (x ∷ es) (m ∷ C) e = ap (λ l. None ∷ l) (nothing_placed es C (omega arith))

each_placed : (es : List (Hash × Change)) (D : List Member) → ((m : Member) → Contains D m → holds (members_of es) m.hash ≡ true) → map (placed es) D ≡ map (λ m. Some (entry_of m)) D
each_placed es [] held = refl
each_placed es (m ∷ D) held =
    let here : placed es m ≡ Some (entry_of m) = ap (λ b. cond b (Some (entry_of m)) None) (held m (Contains-here m D)) in
    let others = each_placed es D (λ n c. held n (Contains-later m D n c)) in
    λ i. here i ∷ others i

standing_all : (C : List Member) → members_of (standing (map (λ m. Some (entry_of m)) C)) ≡ C
standing_all [] = refl
standing_all (m ∷ C) = ap (λ l. m ∷ l) (standing_all C)

-- one more place
pub more_standing : (os : List (Option (Hash × Change))) (o : Option (Hash × Change)) → standing (os ++ o ∷ []) ≡ standing os ++ standing (o ∷ [])
more_standing [] o = refl
more_standing (None ∷ os) o = more_standing os o
more_standing (Some e ∷ os) o = ap (λ l. e ∷ l) (more_standing os o)

module _ (C : List Member) (g : List (Hash × Node)) (es : List (Hash × Change)) (is : IsListed C g es) where
  pub begins_placed : (places : List (Option (Hash × Change))) → places ≡ map (λ e. None) es → places ≡ map (placed []) C
  begins_placed places e =
      let a = length-map es member_of in
      let b = length_permutation C (members_of es) is.same in
      e ∙ nothing_placed es C (omega arith)

  -- the next entry is a member's
  its_member : (ys rest : List (Hash × Change)) (x : Hash × Change) → ys ++ x ∷ rest ≡ es → Contains C (member_of x)
  its_member ys rest x whole =
      let within : Contains (members_of es) (member_of x) = Contains-map member_of es x (subst (λ l. Contains l x) whole (Contains-append_right ys (x ∷ rest) x (Contains-here x rest))) in
      Contains-permutation (members_of es) C (member_of x) (IsPermutation-sym C (members_of es) is.same) within

  pub it_is_held : (ys rest : List (Hash × Change)) (x : Hash × Change) → ys ++ x ∷ rest ≡ es → holds C x.0 ≡ true
  it_is_held ys rest x whole = holds_it C (member_of x) (its_member ys rest x whole)

  pub one_placed : (ys rest : List (Hash × Change)) (x : Hash × Change) → ys ++ x ∷ rest ≡ es → (p : ℕ) → member C x.0 ≡ slice_get C p
      → (old new : List (Option (Hash × Change))) → old ≡ map (placed ys) C → new ≡ set old p (Some x) → new ≡ map (placed (ys ++ x ∷ [])) C
  one_placed ys rest x whole p at old new had e =
      let d = distinct_from_pairs C is.distinct in
      let found = sym at ∙ member_is C (unique C d) (member_of x) (its_member ys rest x whole) in
      e ∙ ap (λ l. set l p (Some x)) had ∙ set_placed ys x C d p found

  pub all_standing : (places : List (Option (Hash × Change))) → places ≡ map (placed es) C → (entries : List (Hash × Change)) → entries ≡ standing places → members_of entries ≡ C
  all_standing places e entries s =
      let all = each_placed es C (λ m c. holds_it (members_of es) m (Contains-permutation C (members_of es) m is.same c)) in
      ap members_of (s ∙ ap standing (e ∙ all)) ∙ standing_all C
