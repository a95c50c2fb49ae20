-- The generated changes before a round.
use Rattle.std.proofs.Common.{◌≡◌, ◌≤◌, ◌<◌, ◌+◌, ◌*◌, nat_lt, ℕ, zero, suc, List, [], ◌∷◌, ◌++◌, Bool, true, false, length, get_or, refl, subst, inl, inr, All, Contains, arith}
use Rattle.std.proofs.lemmas.Bool.{ltb-true, ltb-false}
use Rattle.std.proofs.lemmas.List.{length-append}
use Rattle.std.proofs.lemmas.List.Elements.{All-nil, All-cons, All-append, All-contains, All-weaker, Contains-append_left, Contains-append_right, Contains-append_cases}
use Rattle.am_types.specs.declared.Hash.{Hash}
use Rattle.am_types.specs.Bytes.{IsHash}
use Rattle.am_types.specs.Order.{hash_cmp, among}
use Rattle.am_types.specs.Operations.{max}
use Rattle.am_types.specs.Members.{Member, holds}
use Rattle.am_types.specs.Ancestors.{is_named, ancestor_hashes, ancestors}
use Rattle.am_types.proofs.Lists.{Contains-head, Contains-tail}
use Rattle.am_laws.proofs.Ancestry.{ancestors_closed, ancestors_named, ancestors_least, Contains-from_filter}
use Rattle.am_laws.proofs.Growth.{among_at, found_among}
use Rattle.am_laws.proofs.Listed.{holds_own}
use Rattle.am_change.specs.Hashes.{own_hash, with_hash}
use Rattle.am_gen.specs.Made.{first}
use Rattle.am_gen.proofs.Rounds.{Sorted, one_sorted}
use Rattle.am_genlaws.proofs.Digests.{hash_is}
use Rattle.am_genlaws.proofs.Tests.{holds_more}
use Rattle.am_genlaws.proofs.RoundHashes.{hashes_of, inserted, named, hashes_are, hashes_sorted, hashes_short}
use Rattle.am_genlaws.proofs.Shapes.{member_in, IsOlder, older_first, older_round, IsSmall, small_first, small_round, low_round, each_actor}

-- all members are ancestors of these
abbrev pub Reaches : List Hash → List Member → Type 0
Reaches hs P = (m : Member) → Contains P m → Contains (ancestors P hs) m

-- the change of the actor j in the round r is a member
pub record Made (r j : ℕ) (P : List Member) : Type 0 where
  pub deps : List Hash
  pub is : Contains P (member_in r j deps)

-- P are the first change and those of the rounds before r, and before the hashes of the last of these rounds
pub record Past (r : ℕ) (before : List Hash) (P : List Member) : Type 0 where
  pub some : 1 ≤ r
  pub count : 3 * r ≤ length P + 2
  pub before_are : All IsHash before
  pub sorted : Sorted before
  pub short : length before ≤ 3
  pub closed : (m : Member) → Contains P m → All (λ h. holds P h ≡ true) m.change.deps
  pub held : All (λ h. holds P h ≡ true) before
  pub reaches : Reaches before P
  pub low : All (λ m. max m.change < 3 * r) P
  pub older : All (IsOlder r) P
  pub small : All IsSmall P
  pub first_is : Contains P (with_hash first)
  pub rounds : (q j : ℕ) → 1 ≤ q → q < r → j ≤ 2 → Made q j P

only_one : {X : Type 0} (x y : X) → Contains (x ∷ []) y → x ≡ y
only_one x y c = go c.0 c.1 c.2
  where
    go : (k : ℕ) → k < 1 → get_or (x ∷ []) k y ≡ y → x ≡ y
    go zero l e = e
    go (suc k) l e = absurd (omega arith)

pub past_first : Past 1 (own_hash first ∷ []) (with_hash first ∷ [])
past_first =
    let a : Member = with_hash first in
    let P : List Member = a ∷ [] in
    let here : Contains P a = Contains-head a [] in
    let only : (m : Member) → Contains P m → a ≡ m = λ m c. only_one a m c in record {
      some = omega arith;
      count = omega arith;
      before_are = All-cons IsHash (own_hash first) [] (hash_is first) (All-nil IsHash);
      sorted = one_sorted (own_hash first);
      short = omega arith;
      closed = λ m c. subst (λ (m : Member). All (λ h. holds P h ≡ true) m.change.deps) (only m c) (All-nil (λ h. holds P h ≡ true));
      held = All-cons (λ h. holds P h ≡ true) (own_hash first) [] (holds_own P a here) (All-nil (λ h. holds P h ≡ true));
      reaches = λ m c. ancestors_named P (own_hash first ∷ []) m c (subst (λ (m : Member). among hash_cmp (own_hash first ∷ []) m.hash ≡ true) (only m c) (holds_own P a here));
      low = All-cons (λ m. max m.change < 3) a [] (omega arith) (All-nil (λ m. max m.change < 3));
      older = All-cons (IsOlder 1) a [] older_first (All-nil (IsOlder 1));
      small = All-cons IsSmall a [] small_first (All-nil IsSmall);
      first_is = here;
      rounds = λ q j some before few. absurd (omega arith);
    }

-- ---- one round more

abbrev pub round_of : ℕ → List Hash → List Member
round_of r before = member_in r 0 before ∷ member_in r 1 before ∷ member_in r 2 before ∷ []

module _ (r : ℕ) (before : List Hash) (P : List Member) (past : Past r before P) where
  has : (j : ℕ) → j ≤ 2 → Contains (round_of r before) (member_in r j before)
  has = each_actor (λ j. Contains (round_of r before) (member_in r j before))
      (Contains-head (member_in r 0 before) (member_in r 1 before ∷ member_in r 2 before ∷ []))
      (Contains-tail (member_in r 0 before) (member_in r 1 before ∷ member_in r 2 before ∷ []) (member_in r 1 before) (Contains-head (member_in r 1 before) (member_in r 2 before ∷ [])))
      (Contains-tail (member_in r 0 before) (member_in r 1 before ∷ member_in r 2 before ∷ []) (member_in r 2 before) (Contains-tail (member_in r 1 before) (member_in r 2 before ∷ []) (member_in r 2 before) (Contains-head (member_in r 2 before) [])))

  in_new : (j : ℕ) → j ≤ 2 → Contains (P ++ round_of r before) (member_in r j before)
  in_new j few = Contains-append_right P (round_of r before) (member_in r j before) (has j few)

  in_old : (m : Member) → Contains P m → Contains (P ++ round_of r before) m
  in_old m c = Contains-append_left P (round_of r before) m c

  three : (Q : Member → Type 0) → ((j : ℕ) → j ≤ 2 → Q (member_in r j before)) → All Q (round_of r before)
  three Q q =
      All-cons Q (member_in r 0 before) (member_in r 1 before ∷ member_in r 2 before ∷ []) (q 0 (omega arith))
      (All-cons Q (member_in r 1 before) (member_in r 2 before ∷ []) (q 1 (omega arith)) (All-cons Q (member_in r 2 before) [] (q 2 (omega arith)) (All-nil Q)))

  by : (Q : Member → Type 0) → ((m : Member) → Contains P m → Q m) → ((j : ℕ) → j ≤ 2 → Q (member_in r j before)) → (m : Member) → Contains (P ++ round_of r before) m → Q m
  by Q old new m c = elim (Contains-append_cases P (round_of r before) m c) [
    | inl d ↦ old m d
    | inr d ↦ All-contains Q (round_of r before) m (three Q new) d
  ]

  all_held : (hs : List Hash) → All (λ h. holds P h ≡ true) hs → All (λ h. holds (P ++ round_of r before) h ≡ true) hs
  all_held hs all = All-weaker (λ h. holds P h ≡ true) (λ h. holds (P ++ round_of r before) h ≡ true) (holds_more P (round_of r before)) hs all

  reached : (j : ℕ) → j ≤ 2 → Contains (ancestors (P ++ round_of r before) (hashes_of r before)) (member_in r j before)
  reached j few = ancestors_named (P ++ round_of r before) (hashes_of r before) (member_in r j before) (in_new j few) (named r before j few)

  -- the members of P with this hash are ancestors
  abbrev Reached : Hash → Type 0
  Reached h = (n : Member) → Contains P n → n.hash ≡ h → Contains (ancestors (P ++ round_of r before) (hashes_of r before)) n

  before_reached : All Reached before
  before_reached k d l n c e = ancestors_closed (P ++ round_of r before) (hashes_of r before) (member_in r 0 before) n (reached 0 (omega arith)) (among_at before n.hash d k l e) (in_old n c)

  old_reached : All Reached (ancestor_hashes P before)
  old_reached =
      ancestors_least P Reached
      (λ m cm q k d l n c e. ancestors_closed (P ++ round_of r before) (hashes_of r before) m n (q m cm refl) (among_at m.change.deps n.hash d k l e) (in_old n c))
      before before_reached

  reaches_old : (m : Member) → Contains P m → Contains (ancestors (P ++ round_of r before) (hashes_of r before)) m
  unfolding ancestors
  reaches_old m c =
      let is = Contains-from_filter (is_named (ancestor_hashes P before)) P m (past.reaches m c) in
      All-contains Reached (ancestor_hashes P before) m.hash old_reached (found_among (ancestor_hashes P before) m.hash is.1) m c refl

  rounds_more : (q j : ℕ) → 1 ≤ q → q < r + 1 → j ≤ 2 → Made q j (P ++ round_of r before)
  rounds_more q j low high few = go (nat_lt q r) refl
    where
      go : (b : Bool) → nat_lt q r ≡ b → Made q j (P ++ round_of r before)
      go true e = let had = past.rounds q j low (ltb-true q r e) few in record { deps = had.deps; is = in_old _ had.is }
      go false e =
          let l = ltb-false q r e in
          let is : r ≡ q = omega arith in
          subst (λ q. Made q j (P ++ round_of r before)) is (record { deps = before; is = in_new j few })

  pub past_round : Past (r + 1) (hashes_of r before) (P ++ round_of r before)
  past_round =
      let long = length-append P (round_of r before) in
      let had = past.count in record {
        some = omega arith;
        count = omega arith;
        before_are = hashes_are r before;
        sorted = hashes_sorted r before;
        short = hashes_short r before;
        closed = by (λ m. All (λ h. holds (P ++ round_of r before) h ≡ true) m.change.deps) (λ m c. all_held m.change.deps (past.closed m c)) (λ j few. all_held before past.held);
        held = inserted r before (λ h. holds (P ++ round_of r before) h ≡ true) (λ j few. holds_own (P ++ round_of r before) (member_in r j before) (in_new j few));
        reaches = by (Contains (ancestors (P ++ round_of r before) (hashes_of r before))) reaches_old reached;
        low = All-append (λ m. max m.change < 3 * (r + 1)) P (round_of r before) (All-weaker (λ (m : Member). max m.change < 3 * r) (λ m. max m.change < 3 * (r + 1)) (λ m l. omega arith) P past.low) (three (λ m. max m.change < 3 * (r + 1)) (λ j few. low_round r j before));
        older = All-append (IsOlder (r + 1)) P (round_of r before) (All-weaker (IsOlder r) (IsOlder (r + 1)) (λ m o q j later few. o q j (omega arith) few) P past.older) (three (IsOlder (r + 1)) (λ j few. older_round r j before few));
        small = All-append IsSmall P (round_of r before) past.small (three IsSmall (λ j few. small_round r j before past.short));
        first_is = in_old (with_hash first) past.first_is;
        rounds = rounds_more;
      }
