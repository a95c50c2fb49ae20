-- Generated operations name what is there.
use Rattle.std.proofs.Common.{◌≡◌, ◌≢◌, ◌≤◌, ◌<◌, ◌+◌, ◌-◌, ◌*◌, ◌%◌, ◌==◌, ◌&&◌, not, ℕ, zero, suc, List, [], ◌∷◌, ◌++◌, Bool, true, false, None, option_map, refl, ap, Contains, arith}
use Rattle.std.specs.Prelude.{if◌then◌else◌}
use Rattle.std.specs.List.{list_any, list_all}
use Rattle.std.proofs.lemmas.Bool.{and_from, eqb-true, eqb-false, ne_eqb}
use Rattle.std.proofs.lemmas.List.Elements.{Contains-append_left}
use Rattle.am_types.specs.Actions as actions
use Rattle.am_types.specs.declared.Hash.{Hash}
use Rattle.am_types.specs.declared.OpId.{OpId}
use Rattle.am_types.specs.declared.ObjId.TheVariants.{Root}
use Rattle.am_types.specs.declared.Key.{Key}
use Rattle.am_types.specs.declared.Key.TheVariants.{Head, Elem}
use Rattle.am_types.specs.declared.Op.{Op}
use Rattle.am_types.specs.Same.{same_id, same_object, same_key}
use Rattle.am_types.specs.Operations.{Operation, operations, slot}
use Rattle.am_types.specs.References.{takes, element_known, object_takes, pred_known, has_good_references, first_bad}
use Rattle.am_types.proofs.Orders.{same_id_itself}
use Rattle.am_genlaws.proofs.Tests.{any_from}
use Rattle.am_gen.specs.Made.{id, makes_text, sets_counter, the_text, last, inserts, counts, set_in, set_before, sets, deletes, ends, in_round}

abbrev pub at : OpId → Op → Operation
at i x = record { id = i; op = x }

-- what the operations of the actor j in the round r name
pub record HasNamed (r j : ℕ) (known : List Operation) : Type 0 where
  pub text : Contains known (at (id 1 0) makes_text)
  pub counter : Contains known (at (id 2 0) sets_counter)
  pub letter : 2 ≤ r → Contains known (at (last r j) (inserts (r - 1) j))
  pub keys : (q i : ℕ) → 1 ≤ q → q < r → (q % 3 == 0) ≡ false → i ≤ 2 → Contains known (at (id (3 * q + 2) i) (sets q))

named_more : (r j : ℕ) (known : List Operation) (x : Operation) → HasNamed r j known → HasNamed r j (known ++ x ∷ [])
named_more r j known x named =
    let more : (y : Operation) → Contains known y → Contains (known ++ x ∷ []) y = λ y c. Contains-append_left known (x ∷ []) y c in record {
      text = more _ named.text;
      counter = more _ named.counter;
      letter = λ later. more _ (named.letter later);
      keys = λ q i some before third few. more _ (named.keys q i some before third few);
    }

later_round : (r : ℕ) → 1 ≤ r → (r == 1) ≡ false → 2 ≤ r
later_round zero some e = absurd (omega arith)
later_round (suc zero) some e = cc
later_round (suc (suc r)) some e = omega arith

third_round : (r : ℕ) → 1 ≤ r → (r % 3 == 0) ≡ true → 2 ≤ r
third_round zero some e = absurd (omega arith)
third_round (suc zero) some e = cc
third_round (suc (suc r)) some e = omega arith

module _ (r j : ℕ) (some : 1 ≤ r) (known : List Operation) (named : HasNamed r j known) where
  letter_known : 2 ≤ r → list_any (λ x. same_id x.id (last r j) && x.op.insert && same_object x.op.obj the_text) known ≡ true
  letter_known later =
      any_from (λ x. same_id x.id (last r j) && x.op.insert && same_object x.op.obj the_text) known (at (last r j) (inserts (r - 1) j)) (named.letter later)
      (and_from _ _ (and_from _ _ (same_id_itself (last r j)) refl) refl)

  -- ---- the letter

  text_takes : (k : Key) → takes actions.make_text k ≡ true → object_takes known the_text k ≡ true
  text_takes k e = any_from (λ x. same_id x.id (id 1 0) && takes x.op.action k) known (at (id 1 0) makes_text) named.text (and_from _ _ (same_id_itself (id 1 0)) e)

  takes_place : (b : Bool) (i : OpId) → takes actions.make_text (if b then Head else Elem i) ≡ true
  takes_place true i = refl
  takes_place false i = refl

  place_known : element_known known the_text (if r == 1 then Head else Elem (last r j)) ≡ true
  place_known = go (r == 1) refl
    where
      go : (b : Bool) → (r == 1) ≡ b → element_known known the_text (if b then Head else Elem (last r j)) ≡ true
      go true e = refl
      go false e = letter_known (later_round r some e)

  pub good_letter : (i : OpId) → has_good_references known (at i (inserts r j)) ≡ true
  good_letter i = and_from _ _ (and_from _ _ (text_takes _ (takes_place (r == 1) (last r j))) place_known) refl

  -- ---- the counter

  counter_known : (i : OpId) → pred_known known (at i counts) (id 2 0) ≡ true
  counter_known i =
      any_from (λ y. same_id y.id (id 2 0) && not (y.op.action == actions.del) && same_object y.op.obj Root && same_key (slot y) (slot (at i counts))) known (at (id 2 0) sets_counter) named.counter
      (and_from _ _ (and_from _ _ (and_from _ _ (same_id_itself (id 2 0)) refl) refl) refl)

  pub good_counts : (i : OpId) → has_good_references known (at i counts) ≡ true
  good_counts i = and_from _ _ refl (and_from _ _ (counter_known i) refl)

  -- ---- the key

  key_known : (i : OpId) (q a : ℕ) → 1 ≤ q → q < r → (q % 3 == 0) ≡ false → a ≤ 2 → pred_known known (at i (sets r)) (id (3 * q + 2) a) ≡ true
  key_known i q a low high third few =
      any_from (λ y. same_id y.id (id (3 * q + 2) a) && not (y.op.action == actions.del) && same_object y.op.obj Root && same_key (slot y) (slot (at i (sets r)))) known (at (id (3 * q + 2) a) (sets q))
      (named.keys q a low high third few) (and_from _ _ (and_from _ _ (and_from _ _ (same_id_itself (id (3 * q + 2) a)) refl) refl) refl)

  round_known : (i : OpId) (q : ℕ) → 1 ≤ q → q < r → (q % 3 == 0) ≡ false → list_all (pred_known known (at i (sets r))) (set_in q) ≡ true
  round_known i q low high third =
      let is : (a : ℕ) → a ≤ 2 → pred_known known (at i (sets r)) (id (3 * q + 2) a) ≡ true = λ a few. key_known i q a low high third few in
      and_from _ _ (is 0 (omega arith)) (and_from _ _ (is 1 (omega arith)) (and_from _ _ (is 2 (omega arith)) refl))

  no_third : (q m : ℕ) → q % 3 ≡ suc m → (q % 3 == 0) ≡ false
  no_third q m e = ne_eqb (q % 3) 0 (λ z. absurd (omega arith))

  keys_known : (i : OpId) → (r % 3 == 0) ≡ false → list_all (pred_known known (at i (sets r))) (set_before r) ≡ true
  keys_known i third = go (r == 1) refl ((r - 1) % 3 == 0) refl
    where
      not_third : r % 3 ≢ 0
      not_third = eqb-false (r % 3) 0 third

      go : (a : Bool) → (r == 1) ≡ a → (b : Bool) → ((r - 1) % 3 == 0) ≡ b → list_all (pred_known known (at i (sets r))) (if a then [] else (if b then set_in (r - 2) else set_in (r - 1))) ≡ true
      go true e b f = refl
      go false e true f =
          let later = later_round r some e in
          let zero_mod = eqb-true ((r - 1) % 3) 0 f in
          let low : 1 ≤ r - 2 = omega arith in
          let is : (r - 2) % 3 ≡ 2 = omega arith in
          round_known i (r - 2) low (omega arith) (no_third (r - 2) 1 is)
      go false e false f =
          let later = later_round r some e in
          round_known i (r - 1) (omega arith) (omega arith) f

  pub good_sets : (i : OpId) → (r % 3 == 0) ≡ false → has_good_references known (at i (sets r)) ≡ true
  good_sets i third = and_from _ _ refl (keys_known i third)

  -- ---- the deletion

  pub good_deletes : (i : OpId) → 2 ≤ r → has_good_references known (at i (deletes r j)) ≡ true
  good_deletes i later =
      let pred : pred_known known (at i (deletes r j)) (last r j) ≡ true =
      any_from (λ y. same_id y.id (last r j) && not (y.op.action == actions.del) && same_object y.op.obj the_text && same_key (slot y) (Elem (last r j))) known (at (last r j) (inserts (r - 1) j)) (named.letter later)
      (and_from _ _ (and_from _ _ (and_from _ _ (same_id_itself (last r j)) refl) refl) (same_id_itself (last r j))) in
      and_from _ _ (and_from _ _ (text_takes (Elem (last r j)) refl) (letter_known later)) (and_from _ _ pred refl)

  pub good_end : (i : OpId) → has_good_references known (at i (ends r j)) ≡ true
  good_end i = go (r % 3 == 0) refl
    where
      go : (b : Bool) → (r % 3 == 0) ≡ b → has_good_references known (at i (if b then deletes r j else sets r)) ≡ true
      go true e = good_deletes i (third_round r some e)
      go false e = good_sets i e

good_then : (known : List Operation) (x : Operation) (xs : List Operation) → has_good_references known x ≡ true → first_bad (known ++ x ∷ []) xs ≡ None → first_bad known (x ∷ xs) ≡ None
good_then known x xs good rest = rw good (ap (option_map (λ i. i + 1)) rest)

pub none_bad : (r j : ℕ) (deps : List Hash) (known : List Operation) → 1 ≤ r → HasNamed r j known → first_bad known (operations (in_round r j deps)) ≡ None
none_bad r j deps known some named =
    let x = at (id (3 * r) j) (inserts r j) in
    let y = at (id (3 * r + 1) j) counts in
    let z = at (id (3 * r + 1 + 1) j) (ends r j) in
    let K : List Operation = known ++ x ∷ [] in
    let L : List Operation = K ++ y ∷ [] in
    let with_x = named_more r j known x named in
    let with_y = named_more r j K y with_x in
    good_then known x (y ∷ z ∷ []) (good_letter r j some known named (id (3 * r) j))
    (good_then K y (z ∷ []) (good_counts r j some K with_x (id (3 * r + 1) j))
    (good_then L z [] (good_end r j some L with_y (id (3 * r + 1 + 1) j)) refl))
