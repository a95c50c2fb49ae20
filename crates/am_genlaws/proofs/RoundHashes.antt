-- The hashes of the changes of a round, each at its place.
use Rattle.std.proofs.Common.{◌≡◌, ◌≤◌, ◌||◌, ℕ, List, [], ◌∷◌, Bool, true, false, length, refl, ap, All, arith}
use Rattle.std.specs.BTreeSet.{insert_key}
use Rattle.std.specs.Ordering.{match_ordering, is_eq}
use Rattle.std.specs.declared.cmp.Ordering.{Ordering}
use Rattle.std.specs.declared.cmp.Ordering.TheVariants.{Less, Equal, Greater}
use Rattle.std.proofs.lemmas.Bool.{or_left, or_right}
use Rattle.std.proofs.lemmas.List.Elements.{All-nil}
use Rattle.std.proofs.lemmas.Map.Views.{All-insert_key}
use Rattle.am_types.specs.declared.Hash.{Hash}
use Rattle.am_types.specs.Bytes.{IsHash}
use Rattle.am_types.specs.Order.{hash_cmp, same, among}
use Rattle.am_types.proofs.Orders.{same_hash_itself}
use Rattle.am_change.specs.Hashes.{own_hash}
use Rattle.am_gen.specs.Made.{in_round}
use Rattle.am_gen.proofs.Rounds.{Sorted, none_sorted, insert_sorted, insert_short}
use Rattle.am_genlaws.proofs.Digests.{hash_is}
use Rattle.am_genlaws.proofs.Shapes.{each_actor}

insert_has : (k : Hash) (hs : List Hash) → among hash_cmp (insert_key hash_cmp hs k) k ≡ true
insert_has k [] = or_left _ _ (same_hash_itself k)
insert_has k (x ∷ xs) = go (insert_has k xs) (hash_cmp k x) refl
  where
    go : among hash_cmp (insert_key hash_cmp xs k) k ≡ true → (o : Ordering) → hash_cmp k x ≡ o → among hash_cmp (match_ordering o (k ∷ x ∷ xs) (x ∷ xs) (x ∷ insert_key hash_cmp xs k)) k ≡ true
    go again Less e = or_left _ _ (same_hash_itself k)
    go again Equal e = or_left (same hash_cmp k x) (among hash_cmp xs k) (ap is_eq e)
    go again Greater e = or_right (same hash_cmp k x) (among hash_cmp (insert_key hash_cmp xs k) k) again

or_more : (a b c : Bool) → (a || b) ≡ true → (b ≡ true → c ≡ true) → (a || c) ≡ true
or_more true b c e f = refl
or_more false b c e f = f e

insert_keeps : (k h : Hash) (hs : List Hash) → among hash_cmp hs h ≡ true → among hash_cmp (insert_key hash_cmp hs k) h ≡ true
insert_keeps k h [] e = cc
insert_keeps k h (x ∷ xs) e = go (insert_keeps k h xs) (hash_cmp k x)
  where
    go : (among hash_cmp xs h ≡ true → among hash_cmp (insert_key hash_cmp xs k) h ≡ true) → (o : Ordering) → among hash_cmp (match_ordering o (k ∷ x ∷ xs) (x ∷ xs) (x ∷ insert_key hash_cmp xs k)) h ≡ true
    go again Less = or_right (same hash_cmp h k) (among hash_cmp (x ∷ xs) h) e
    go again Equal = e
    go again Greater = or_more (same hash_cmp h x) (among hash_cmp xs h) (among hash_cmp (insert_key hash_cmp xs k) h) e again

-- ---- a round

abbrev pub with_first : ℕ → List Hash → List Hash
with_first r before = insert_key hash_cmp [] (own_hash (in_round r 0 before))

abbrev pub with_second : ℕ → List Hash → List Hash
with_second r before = insert_key hash_cmp (with_first r before) (own_hash (in_round r 1 before))

-- the hashes of the changes of a round
abbrev pub hashes_of : ℕ → List Hash → List Hash
hashes_of r before = insert_key hash_cmp (with_second r before) (own_hash (in_round r 2 before))

module _ (r : ℕ) (before : List Hash) where
  pub inserted : (Q : Hash → Type 0) → ((j : ℕ) → j ≤ 2 → Q (own_hash (in_round r j before))) → All Q (hashes_of r before)
  inserted Q q =
      All-insert_key hash_cmp _ Q (with_second r before)
      (All-insert_key hash_cmp _ Q (with_first r before)
      (All-insert_key hash_cmp _ Q [] (All-nil Q) (q 0 (omega arith))) (q 1 (omega arith))) (q 2 (omega arith))

  pub named : (j : ℕ) → j ≤ 2 → among hash_cmp (hashes_of r before) (own_hash (in_round r j before)) ≡ true
  named = each_actor (λ j. among hash_cmp (hashes_of r before) (own_hash (in_round r j before)) ≡ true)
      (let h = own_hash (in_round r 0 before) in insert_keeps (own_hash (in_round r 2 before)) h (with_second r before) (insert_keeps (own_hash (in_round r 1 before)) h (with_first r before) (insert_has h [])))
      (let h = own_hash (in_round r 1 before) in insert_keeps (own_hash (in_round r 2 before)) h (with_second r before) (insert_has h (with_first r before)))
      (insert_has (own_hash (in_round r 2 before)) (with_second r before))

  pub hashes_are : All IsHash (hashes_of r before)
  hashes_are = inserted IsHash (λ j few. hash_is (in_round r j before))

  pub hashes_sorted : Sorted (hashes_of r before)
  hashes_sorted = insert_sorted _ (with_second r before) (insert_sorted _ (with_first r before) (insert_sorted _ [] none_sorted))

  pub hashes_short : length (hashes_of r before) ≤ 3
  hashes_short =
      let a = insert_short (own_hash (in_round r 0 before)) [] in
      let b = insert_short (own_hash (in_round r 1 before)) (with_first r before) in
      let c = insert_short (own_hash (in_round r 2 before)) (with_second r before) in
      omega arith
