-- What tells generated changes apart, and how much they hold.
use Rattle.std.proofs.Common.{◌≡◌, ◌≢◌, ◌≤◌, ◌<◌, ◌+◌, ◌-◌, ◌*◌, ◌%◌, ◌==◌, ◌&&◌, ℕ, zero, suc, List, [], Bool, true, false, length, refl, arith}
use Rattle.std.specs.Prelude.{if◌then◌else◌}
use Rattle.std.proofs.lemmas.Bool.{ne_eqb}
use Rattle.am_types.specs.declared.Hash.{Hash}
use Rattle.am_types.specs.declared.OpId.{OpId}
use Rattle.am_types.specs.declared.Op.{Op}
use Rattle.am_types.specs.Fine.{pred_count}
use Rattle.am_types.specs.Same.{same_bytes}
use Rattle.am_types.specs.Operations.{max}
use Rattle.am_types.specs.Members.{Member}
use Rattle.am_types.specs.Verdicts.{has_seq}
use Rattle.am_change.specs.Hashes.{with_hash}
use Rattle.am_gen.specs.Made.{actor, first, in_round, deletes, sets, set_in, set_before}

-- ---- the three of a round

-- the change of the actor j in the round r, beside its hash
abbrev pub member_in : ℕ → ℕ → List Hash → Member
member_in r j deps = with_hash (in_round r j deps)

abbrev pub seq_in : ℕ → ℕ → ℕ
seq_in r j = if j == 0 then r + 1 else r

-- there are three actors
pub each_actor : (P : ℕ → Type 0) → P 0 → P 1 → P 2 → (j : ℕ) → j ≤ 2 → P j
each_actor P a b c zero few = a
each_actor P a b c (suc zero) few = b
each_actor P a b c (suc (suc zero)) few = c
each_actor P a b c (suc (suc (suc j))) few = absurd (omega arith)

-- ---- actors and seqs

differs : (a : Bool) (m n : ℕ) → m ≢ n → (a && m == n) ≡ false
differs true m n d = ne_eqb m n d
differs false m n d = refl

-- no change of the round r or a later one has the actor and the seq of m
abbrev pub IsOlder : ℕ → Member → Type 0
IsOlder r m = (q j : ℕ) → r ≤ q → j ≤ 2 → has_seq (actor j) (seq_in q j) m ≡ false

pub older_first : IsOlder 1 (with_hash first)
older_first q j later few = each_actor (λ j. has_seq (actor j) (seq_in q j) (with_hash first) ≡ false) (differs (same_bytes (actor 0) (actor 0)) 1 (q + 1) (λ e. absurd (omega arith))) refl refl j few

pub older_round : (r i : ℕ) (deps : List Hash) → i ≤ 2 → IsOlder (r + 1) (member_in r i deps)
older_round r i deps fewer q j later few =
    let Apart : ℕ → ℕ → Type 0 = λ i j. has_seq (actor j) (seq_in q j) (member_in r i deps) ≡ false in
    each_actor (λ i. Apart i j)
    (each_actor (Apart 0) (differs (same_bytes (actor 0) (actor 0)) (r + 1) (q + 1) (λ e. absurd (omega arith))) refl refl j few)
    (each_actor (Apart 1) refl (differs (same_bytes (actor 1) (actor 1)) r q (λ e. absurd (omega arith))) refl j few)
    (each_actor (Apart 2) refl refl (differs (same_bytes (actor 2) (actor 2)) r q (λ e. absurd (omega arith))) j few)
    i fewer

-- ---- sizes

pub record IsSmall (m : Member) : Type 0 where
  pub ops : length m.change.ops ≤ 4
  pub preds : pred_count m.change.ops ≤ 4
  pub links : length m.change.deps ≤ 4

pub small_first : IsSmall (with_hash first)
small_first = record { ops = omega arith; preds = omega arith; links = omega arith }

few_before : (a b : Bool) (x y : List OpId) → length x ≤ 3 → length y ≤ 3 → length (if a then [] else (if b then x else y)) ≤ 3
few_before true b x y k l = omega arith
few_before false true x y k l = k
few_before false false x y k l = l

few_set : (r : ℕ) → length (set_before r) ≤ 3
few_set r = few_before (r == 1) ((r - 1) % 3 == 0) (set_in (r - 2)) (set_in (r - 1)) (omega arith) (omega arith)

few_end : (b : Bool) (x y : Op) → length x.preds ≤ 3 → length y.preds ≤ 3 → length (if b then x else y).preds ≤ 3
few_end true x y k l = k
few_end false x y k l = l

pub small_round : (r j : ℕ) (deps : List Hash) → length deps ≤ 3 → IsSmall (member_in r j deps)
small_round r j deps short = record {
  ops = omega arith;
  preds = (let few = few_end (r % 3 == 0) (deletes r j) (sets r) (omega arith) (few_set r) in omega arith);
  links = omega arith;
}

pub low_round : (r j : ℕ) (deps : List Hash) → max (in_round r j deps) < 3 * (r + 1)
low_round r j deps = omega arith
