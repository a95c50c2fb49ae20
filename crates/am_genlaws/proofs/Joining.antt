-- Each generated change joins those before it.
use Rattle.std.proofs.Common.{◌≡◌, ◌≤◌, ◌<◌, ◌+◌, ◌-◌, ◌*◌, ◌%◌, ◌==◌, ◌&&◌, not, nat_lt, nat_le, ℕ, List, ◌++◌, Bool, true, false, None, option_map, length, get_or, refl, sym, ap, ◌∙◌, subst, All, Contains, arith}
use Rattle.std.specs.Prelude.{if◌then◌else◌}
use Rattle.std.specs.Bool.{then_some}
use Rattle.std.specs.List.{list_any}
use Rattle.std.proofs.lemmas.Bool.{and_from, ltb-true, ltb-false, eq-eqb, false_from_ne_true, leb-true}
use Rattle.std.proofs.lemmas.List.Elements.{All-append, All-weaker}
use Rattle.std.proofs.lemmas.List.Folds.{list_any_none}
use Rattle.std.proofs.lemmas.List.Sums.{list_all-from_AllPass}
use Rattle.am_types.specs.declared.Hash.{Hash}
use Rattle.am_types.specs.declared.Verdict.TheVariants.{SeqClash, SeqGap, StartLow, BadReference}
use Rattle.am_types.specs.Order.{hash_cmp, same}
use Rattle.am_types.specs.Same.{same_bytes}
use Rattle.am_types.specs.Operations.{Operation, operations, all_operations, max}
use Rattle.am_types.specs.Members.{Member, changes, holds, holds_deps}
use Rattle.am_types.specs.Ancestors.{is_named, ancestor_hashes, ancestors}
use Rattle.am_types.specs.Verdicts.{has_seq, seq_clash, seq_gap, start_low, bad_reference}
use Rattle.am_types.specs.ValidSets.{Joins}
use Rattle.am_types.proofs.Lists.{all_of}
use Rattle.am_laws.proofs.Ancestry.{Contains-from_filter}
use Rattle.am_laws.proofs.Growth.{ancestors_stay}
use Rattle.am_laws.proofs.Sums.{Contains-flat_map}
use Rattle.am_laws.proofs.VerdictLaws.{fits_from}
use Rattle.am_change.specs.Hashes.{own_hash, with_hash}
use Rattle.am_gen.specs.Made.{actor, id, first, makes_text, sets_counter, inserts, deletes, sets, ends, last, in_round}
use Rattle.am_gen.proofs.Fineness.{fine_in_round}
use Rattle.am_gen.proofs.Rounds.{ascend}
use Rattle.am_genlaws.proofs.Digests.{hash_is}
use Rattle.am_genlaws.proofs.Shapes.{member_in, seq_in, IsOlder, IsSmall, small_round, each_actor}
use Rattle.am_genlaws.proofs.Limits.{not_full}
use Rattle.am_genlaws.proofs.References.{at, HasNamed, none_bad}
use Rattle.am_genlaws.proofs.Tests.{any_from, find_false, filter_true, holds_more, Contains-changes}
use Rattle.am_genlaws.proofs.Past.{Past, Made}

-- ---- what the rounds before give

module _ (r : ℕ) (before : List Hash) (P : List Member) (past : Past r before P) where
  reached : All (λ m. is_named (ancestor_hashes P before) m ≡ true) P
  unfolding ancestors
  reached = all_of (λ m. is_named (ancestor_hashes P before) m ≡ true) P (λ m c. (Contains-from_filter (is_named (ancestor_hashes P before)) P m (past.reaches m c)).1)

  pub all_ancestors : ancestors P before ≡ P
  unfolding ancestors
  all_ancestors = filter_true (is_named (ancestor_hashes P before)) P reached

  operation_is : (m : Member) (x : Operation) → Contains P m → Contains (operations m.change) x → Contains (all_operations (changes P)) x
  operation_is m x c d = Contains-flat_map operations (changes P) m.change x (Contains-changes P m c) d

  letter_is : (j : ℕ) → j ≤ 2 → 2 ≤ r → Contains (all_operations (changes P)) (at (last r j) (inserts (r - 1) j))
  letter_is j few later =
      let made = past.rounds (r - 1) j (omega arith) (omega arith) few in
      let e : 3 * (r - 1) ≡ 3 * r - 3 = omega arith in
      subst (λ n. Contains (all_operations (changes P)) (at (id n j) (inserts (r - 1) j))) e
      (operation_is (member_in (r - 1) j made.deps) (at (id (3 * (r - 1)) j) (inserts (r - 1) j)) made.is (0, omega arith, refl))

  key_is : (q j : ℕ) → 1 ≤ q → q < r → (q % 3 == 0) ≡ false → j ≤ 2 → Contains (all_operations (changes P)) (at (id (3 * q + 2) j) (sets q))
  key_is q j low high third few =
      let made = past.rounds q j low high few in
      let e : 3 * q + 1 + 1 ≡ 3 * q + 2 = omega arith in
      let there = operation_is (member_in q j made.deps) (at (id (3 * q + 1 + 1) j) (ends q j)) made.is (2, omega arith, refl) in
      subst (λ n. Contains (all_operations (changes P)) (at (id n j) (sets q))) e
      (subst (λ b. Contains (all_operations (changes P)) (at (id (3 * q + 1 + 1) j) (if b then deletes q j else sets q))) third there)

  pub names : (j : ℕ) → j ≤ 2 → HasNamed r j (all_operations (changes P))
  names j few = record {
    text = operation_is (with_hash first) (at (id 1 0) makes_text) past.first_is (0, omega arith, refl);
    counter = operation_is (with_hash first) (at (id 2 0) sets_counter) past.first_is (1, omega arith, refl);
    letter = letter_is j few;
    keys = key_is;
  }

  -- ---- the seq before

  no_gap : (a b : Bool) → (a ≡ true → b ≡ true) → then_some (a && not b) SeqGap ≡ None
  no_gap true true h = refl
  no_gap true false h = let e = h refl in cc
  no_gap false b h = refl

  first_seq : r ≡ 1 → list_any (has_seq (actor 0) (r + 1 - 1)) P ≡ true
  first_seq one = any_from (has_seq (actor 0) (r + 1 - 1)) P (with_hash first) past.first_is (eq-eqb 1 (r + 1 - 1) (omega arith))

  zero_seq : list_any (has_seq (actor 0) (r + 1 - 1)) P ≡ true
  zero_seq = go (nat_lt 1 r) refl
    where
      go : (b : Bool) → nat_lt 1 r ≡ b → list_any (has_seq (actor 0) (r + 1 - 1)) P ≡ true
      go true e =
          let later = ltb-true 1 r e in
          let made = past.rounds (r - 1) 0 (omega arith) (omega arith) (omega arith) in
          any_from (has_seq (actor 0) (r + 1 - 1)) P (member_in (r - 1) 0 made.deps) made.is (eq-eqb (r - 1 + 1) (r + 1 - 1) (omega arith))
      go false e = let some = past.some in let l = ltb-false 1 r e in first_seq (omega arith)

  other_seq : (j : ℕ) → same_bytes (actor j) (actor j) ≡ true → (made : Made (r - 1) j P) → (in_round (r - 1) j made.deps).seq ≡ r - 1 → list_any (has_seq (actor j) (r - 1)) P ≡ true
  other_seq j is made e = any_from (has_seq (actor j) (r - 1)) P (member_in (r - 1) j made.deps) made.is (and_from _ _ is (eq-eqb _ (r - 1) e))

  gap_none : (j : ℕ) → j ≤ 2 → seq_gap P (in_round r j before) ≡ None
  gap_none = each_actor (λ j. seq_gap P (in_round r j before) ≡ None)
      (no_gap (nat_lt 1 (r + 1)) (list_any (has_seq (actor 0) (r + 1 - 1)) P) (λ e. zero_seq))
      (no_gap (nat_lt 1 r) (list_any (has_seq (actor 1) (r - 1)) P) (λ e. let l = ltb-true 1 r e in other_seq 1 refl (past.rounds (r - 1) 1 (omega arith) (omega arith) (omega arith)) refl))
      (no_gap (nat_lt 1 r) (list_any (has_seq (actor 2) (r - 1)) P) (λ e. let l = ltb-true 1 r e in other_seq 2 refl (past.rounds (r - 1) 2 (omega arith) (omega arith) (omega arith)) refl))

  -- ---- the starts

  no_start : (a b : Bool) → b ≡ false → (a && b) ≡ false
  no_start true b e = e
  no_start false b e = refl

  low_test : (m : Member) → max m.change < 3 * r → nat_le (3 * r) (max m.change) ≡ false
  low_test m l = false_from_ne_true _ (λ t. let g = leb-true (3 * r) (max m.change) t in absurd (omega arith))

  low_none : (j : ℕ) → start_low P (in_round r j before) ≡ None
  low_none j =
      let test : Hash → Member → Bool = λ h m. same hash_cmp m.hash h && nat_le (3 * r) (max m.change) in
      let none : (h : Hash) → list_any (test h) P ≡ false = λ h. list_any_none (test h) P (All-weaker (λ (m : Member). max m.change < 3 * r) (λ m. test h m ≡ false) (λ m l. no_start (same hash_cmp m.hash h) _ (low_test m l)) P past.low) in
      ap (option_map StartLow) (find_false (λ h. list_any (test h) P) before (λ k d l. none (get_or before k d)))

  -- ---- the change joins

  module _ (j : ℕ) (few : j ≤ 2) (H : List Member)
      (apart : All (λ m. holds P m.hash ≡ false) H)
      (mates : All (λ m. has_seq (actor j) (seq_in r j) m ≡ false) H)
      (small : All IsSmall H)
      (count : length (P ++ H) < 100000)
      (rounds_few : r ≤ 100000)
      (fresh : holds (P ++ H) (own_hash (in_round r j before)) ≡ false) where
    sees : ancestors (P ++ H) before ≡ P
    sees = ancestors_stay P H before past.closed past.held apart ∙ all_ancestors

    clash_none : seq_clash (P ++ H) (in_round r j before) ≡ None
    clash_none =
        let some = past.some in
        ap (option_map (λ (m : Member). SeqClash m.hash)) (find_false (has_seq (actor j) (seq_in r j)) (P ++ H)
        (All-append (λ m. has_seq (actor j) (seq_in r j) m ≡ false) P H (All-weaker (IsOlder r) (λ m. has_seq (actor j) (seq_in r j) m ≡ false) (λ m o. o r j (omega arith) few) P past.older) mates))

    held_here : holds_deps (P ++ H) (in_round r j before) ≡ true
    held_here = list_all-from_AllPass (holds (P ++ H)) before (All-weaker (λ h. holds P h ≡ true) (λ h. holds (P ++ H) h ≡ true)
        (holds_more P H) before past.held)

    pub joins : Joins (P ++ H) (member_in r j before)
    joins = record {
      hash = hash_is (in_round r j before);
      fresh = fresh;
      deps = held_here;
      fine = fine_in_round r j before past.some rounds_few past.before_are (ascend before past.sorted) past.short;
      fits = fits_from (P ++ H) (in_round r j before) (record {
        clash = clash_none;
        gap = subst (λ A. seq_gap A (in_round r j before) ≡ None) (sym sees) (gap_none j few);
        low = subst (λ A. start_low A (in_round r j before) ≡ None) (sym sees) (low_none j);
        references = subst (λ A. bad_reference A (in_round r j before) ≡ None) (sym sees) (ap (option_map BadReference) (none_bad r j before (all_operations (changes P)) past.some (names j few)));
        limits = not_full (P ++ H) (member_in r j before) (All-append IsSmall P H past.small small) (small_round r j before past.short) count;
      });
    }
