-- The generated changes, one after another.
use Rattle.std.proofs.Common.{◌≡◌, ◌≢◌, ◌≤◌, ◌+◌, ◌||◌, ℕ, zero, suc, List, [], ◌∷◌, ◌++◌, false, length, refl, sym, ap, ◌∙◌, subst, All, arith}
use Rattle.std.specs.Bool.{⊤}
use Rattle.std.proofs.lemmas.Bool.{both_ways, false_from_ne_true}
use Rattle.std.proofs.lemmas.List.{append_assoc, append-nil, length-append}
use Rattle.std.proofs.lemmas.List.Elements.{All-nil, All-cons, Contains-append_right}
use Rattle.std.proofs.lemmas.List.Sorted.{IsPermutation-refl}
use Rattle.am_types.specs.declared.Hash.{Hash}
use Rattle.am_types.specs.declared.Change.{Change}
use Rattle.am_types.specs.Bytes.{IsHash}
use Rattle.am_types.specs.Order.{hash_cmp, same}
use Rattle.am_types.specs.Fine.{Fine}
use Rattle.am_types.specs.Members.{Member, holds, DistinctHashes}
use Rattle.am_types.specs.Ancestors.{ancestors}
use Rattle.am_types.specs.Verdicts.{has_seq, verdict}
use Rattle.am_types.specs.ValidSets.{Joins, JoinInTurn, Valid}
use Rattle.am_types.proofs.Lists.{Contains-head}
use Rattle.am_types.proofs.Orders.{same_hash-true}
use Rattle.am_change.specs.Hashes.{own_hash, with_hash, with_hashes}
use Rattle.am_gen.specs.Made.{actor, first, in_round, made_from, made}
use Rattle.am_gen.proofs.Fineness.{fine_first, fine_in_round}
use Rattle.am_gen.proofs.Rounds.{Sorted, one_sorted, ascend}
use Rattle.am_genlaws.proofs.Digests.{hash_is}
use Rattle.am_genlaws.proofs.Shapes.{member_in, seq_in, IsSmall, small_round}
use Rattle.am_genlaws.proofs.Tests.{holds_more}
use Rattle.am_genlaws.proofs.RoundHashes.{hashes_of, hashes_are, hashes_sorted, hashes_short}
use Rattle.am_genlaws.proofs.Past.{Past, round_of, past_first, past_round}
use Rattle.am_genlaws.proofs.Joining.{joins}

-- ---- each is fine

fine_from : (n r : ℕ) (before : List Hash) → 1 ≤ r → r + n ≤ 100001 → All IsHash before → Sorted before → length before ≤ 3 → All Fine (made_from r 0 before [] n)
unfolding made_from
fine_from zero r before some few are sorted short = All-nil Fine
fine_from (suc zero) r before some few are sorted short = All-cons Fine (in_round r 0 before) [] (fine_in_round r 0 before some (omega arith) are (ascend before sorted) short) (All-nil Fine)
fine_from (suc (suc zero)) r before some few are sorted short =
    All-cons Fine (in_round r 0 before) (in_round r 1 before ∷ []) (fine_in_round r 0 before some (omega arith) are (ascend before sorted) short)
    (All-cons Fine (in_round r 1 before) [] (fine_in_round r 1 before some (omega arith) are (ascend before sorted) short) (All-nil Fine))
fine_from (suc (suc (suc n))) r before some few are sorted short =
    let rest : List Change = made_from (r + 1) 0 (hashes_of r before) [] n in
    let again : All Fine (made_from (r + 1) 0 (hashes_of r before) [] n) = fine_from n (r + 1) (hashes_of r before) (omega arith) (omega arith) (hashes_are r before) (hashes_sorted r before) (hashes_short r before) in
    All-cons Fine (in_round r 0 before) (in_round r 1 before ∷ in_round r 2 before ∷ rest) (fine_in_round r 0 before some (omega arith) are (ascend before sorted) short)
    (All-cons Fine (in_round r 1 before) (in_round r 2 before ∷ rest) (fine_in_round r 1 before some (omega arith) are (ascend before sorted) short)
    (All-cons Fine (in_round r 2 before) rest (fine_in_round r 2 before some (omega arith) are (ascend before sorted) short) again))

pub made_are_fine : (n : ℕ) → n ≤ 100000 → All Fine (made n)
made_are_fine zero few = All-nil Fine
made_are_fine (suc n) few =
    All-cons Fine first (made_from 1 0 (own_hash first ∷ []) [] n) fine_first
    (fine_from n 1 (own_hash first ∷ []) (omega arith) (omega arith) (All-cons IsHash (own_hash first) [] (hash_is first) (All-nil IsHash)) (one_sorted (own_hash first)) (omega arith))

-- ---- distinct hashes

-- the hash of each of the rest isn't that of one before it
abbrev FreshInTurn : List Member → List Member → Type 0
FreshInTurn before [] = ⊤
FreshInTurn before (m ∷ rest) = (holds before m.hash ≡ false) × FreshInTurn (before ++ m ∷ []) rest

not_held : (xs : List Member) (m : Member) (ys : List Member) → DistinctHashes (xs ++ m ∷ ys) → holds xs m.hash ≡ false
not_held [] m ys apart = refl
not_held (x ∷ xs) m ys apart =
    let there = Contains-append_right xs (m ∷ ys) m (Contains-head m ys) in
    let other : x.hash ≢ m.hash = subst (λ (n : Member). x.hash ≢ n.hash) there.2 (apart 0 (suc there.0) m (omega arith) (let l = there.1 in omega arith)) in
    let here : same hash_cmp m.hash x.hash ≡ false = false_from_ne_true _ (λ t. other (sym (same_hash-true m.hash x.hash t))) in
    let again : holds xs m.hash ≡ false = not_held xs m ys (λ i j d p q. apart (suc i) (suc j) d (omega arith) (omega arith)) in
    λ i. here i || again i

fresh_in_turn : (xs ys : List Member) → DistinctHashes (xs ++ ys) → FreshInTurn xs ys
fresh_in_turn xs [] apart = tt
fresh_in_turn xs (m ∷ ys) apart = (not_held xs m ys apart, fresh_in_turn (xs ++ m ∷ []) ys (subst DistinctHashes (sym (append_assoc xs (m ∷ []) ys)) apart))

-- what a longer list doesn't hold
less : (P H : List Member) (h : Hash) → holds (P ++ H) h ≡ false → holds P h ≡ false
less P H h e = false_from_ne_true _ (λ t. both_ways (holds (P ++ H) h) e (holds_more P H h t))

-- ---- one round

module _ (r : ℕ) (before : List Hash) (P : List Member) (past : Past r before P) where
  abbrev a : Member
  a = member_in r 0 before

  abbrev b : Member
  b = member_in r 1 before

  abbrev c : Member
  c = member_in r 2 before

  small : (j : ℕ) → IsSmall (member_in r j before)
  small j = small_round r j before past.short

  first_joins : length P + 1 ≤ 100000 → holds P a.hash ≡ false → Joins P a
  first_joins few fresh =
      let count = past.count in
      let whole = append-nil P in
      subst (λ Q. Joins Q a) whole
      (joins r before P past 0 (omega arith) [] (All-nil (λ m. holds P m.hash ≡ false)) (All-nil (λ m. has_seq (actor 0) (seq_in r 0) m ≡ false)) (All-nil IsSmall)
      (let long = ap length whole in omega arith) (omega arith) (subst (λ Q. holds Q a.hash ≡ false) (sym whole) fresh))

  second_joins : length P + 2 ≤ 100000 → holds P a.hash ≡ false → holds (P ++ a ∷ []) b.hash ≡ false → Joins (P ++ a ∷ []) b
  second_joins few apart fresh =
      let count = past.count in
      joins r before P past 1 (omega arith) (a ∷ [])
      (All-cons (λ m. holds P m.hash ≡ false) a [] apart (All-nil (λ m. holds P m.hash ≡ false)))
      (All-cons (λ m. has_seq (actor 1) (seq_in r 1) m ≡ false) a [] refl (All-nil (λ m. has_seq (actor 1) (seq_in r 1) m ≡ false)))
      (All-cons IsSmall a [] (small 0) (All-nil IsSmall))
      (let long = length-append P (a ∷ []) in omega arith) (omega arith) fresh

  third_joins : length P + 3 ≤ 100000 → holds P a.hash ≡ false → holds (P ++ a ∷ []) b.hash ≡ false → holds ((P ++ a ∷ []) ++ b ∷ []) c.hash ≡ false → Joins ((P ++ a ∷ []) ++ b ∷ []) c
  third_joins few one two fresh =
      let count = past.count in
      let whole : (P ++ a ∷ []) ++ b ∷ [] ≡ P ++ (a ∷ b ∷ []) = append_assoc P (a ∷ []) (b ∷ []) in
      subst (λ Q. Joins Q c) (sym whole)
      (joins r before P past 2 (omega arith) (a ∷ b ∷ [])
      (All-cons (λ m. holds P m.hash ≡ false) a (b ∷ []) one (All-cons (λ m. holds P m.hash ≡ false) b [] (less P (a ∷ []) b.hash two) (All-nil (λ m. holds P m.hash ≡ false))))
      (All-cons (λ m. has_seq (actor 2) (seq_in r 2) m ≡ false) a (b ∷ []) refl (All-cons (λ m. has_seq (actor 2) (seq_in r 2) m ≡ false) b [] refl (All-nil (λ m. has_seq (actor 2) (seq_in r 2) m ≡ false))))
      (All-cons IsSmall a (b ∷ []) (small 0) (All-cons IsSmall b [] (small 1) (All-nil IsSmall)))
      (let long = length-append P (a ∷ b ∷ []) in omega arith) (omega arith) (subst (λ Q. holds Q c.hash ≡ false) whole fresh))

  three_more : ((P ++ a ∷ []) ++ b ∷ []) ++ c ∷ [] ≡ P ++ round_of r before
  three_more = ap (λ l. l ++ c ∷ []) (append_assoc P (a ∷ []) (b ∷ [])) ∙ append_assoc P (a ∷ b ∷ []) (c ∷ [])

-- ---- all rounds

rounds_join : (n r : ℕ) (before : List Hash) (P : List Member) → Past r before P → length P + n ≤ 100000 → FreshInTurn P (with_hashes (made_from r 0 before [] n)) → JoinInTurn P (with_hashes (made_from r 0 before [] n))
unfolding made_from
rounds_join zero r before P past few fresh = tt
rounds_join (suc zero) r before P past few fresh = (first_joins r before P past (omega arith) fresh.0, tt)
rounds_join (suc (suc zero)) r before P past few fresh = (first_joins r before P past (omega arith) fresh.0, (second_joins r before P past (omega arith) fresh.0 fresh.1.0, tt))
rounds_join (suc (suc (suc n))) r before P past few fresh =
    let rest : List Member = with_hashes (made_from (r + 1) 0 (hashes_of r before) [] n) in
    let whole = three_more r before P past in
    let again : FreshInTurn (P ++ round_of r before) (with_hashes (made_from (r + 1) 0 (hashes_of r before) [] n)) → JoinInTurn (P ++ round_of r before) (with_hashes (made_from (r + 1) 0 (hashes_of r before) [] n)) =
    rounds_join n (r + 1) (hashes_of r before) (P ++ round_of r before) (past_round r before P past) (let long = length-append P (round_of r before) in omega arith) in (
      first_joins r before P past (omega arith) fresh.0,
      (
        second_joins r before P past (omega arith) fresh.0 fresh.1.0,
        (
          third_joins r before P past (omega arith) fresh.0 fresh.1.0 fresh.1.1.0,
          subst (λ Q. JoinInTurn Q rest) (sym whole) (again (subst (λ Q. FreshInTurn Q rest) whole fresh.1.1.1)),
        ),
      ),
    )

first_of_all : Joins [] (with_hash first)
unfolding verdict ancestors
first_of_all = record { hash = hash_is first; fresh = refl; deps = refl; fine = fine_first; fits = refl }

pub made_join : (n : ℕ) → n ≤ 100000 → FreshInTurn [] (with_hashes (made n)) → JoinInTurn [] (with_hashes (made n))
made_join zero few fresh = tt
made_join (suc n) few fresh = (first_of_all, rounds_join n 1 (own_hash first ∷ []) (with_hash first ∷ []) past_first (omega arith) fresh.1)

pub made_are_valid : (n : ℕ) → n ≤ 100000 → DistinctHashes (with_hashes (made n)) → Valid (with_hashes (made n))
made_are_valid n few apart = record {
  listing = with_hashes (made n);
  same = IsPermutation-refl (with_hashes (made n));
  in_turn = made_join n few (fresh_in_turn [] (with_hashes (made n)) apart);
}
