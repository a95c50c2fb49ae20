-- More of the entry that the pending run has.
use Rattle.std.proofs.Common.{◌≡◌, ℕ, suc, zero, ◌+◌, ◌-◌, ◌^◌, ◌≤◌, List, [], ◌∷◌, ◌++◌, length, Bool, false, cond, Option, Some, None, refl, sym, ap, ◌∙◌, subst, arith, append_assoc, length-append}
use Rattle.std.specs.Prelude.{replicate}
use Rattle.std.specs.Option.{IfSome, IfNone}
use Rattle.std.proofs.lemmas.List.{append-nil, length-replicate}
use Rattle.am_runs.specs.declared.pending.PendingKind.{PendingKind}
use Rattle.am_runs.specs.declared.pending.PendingKind.TheVariants as pending
use Rattle.am_runs.specs.Items.{ReadsItems}
use Rattle.am_runs.specs.Pending.{Holds, written_so_far, IsWriting, IsAlike}
use Rattle.am_runs.proofs.Arms.{null_more_at, repeat_more_at}
use Rattle.am_runs.proofs.Finishing.{shown, open_writing, in_value, count_le}

one_more : (end : List ℕ → Option ℕ) (done : List ℕ) (kind : PendingKind) (count : ℕ) (front last : List ℕ) (entry : Option (List ℕ)) (list : List (Option (List ℕ))) → IsAlike kind last entry → Holds end done kind count front last list → Holds end done kind (count + 1) front last (list ++ entry ∷ [])
one_more end done pending.Nothing count front last entry list a h = absurd a
one_more end done pending.Nulls count front last entry list a h = subst (λ e. Holds end done pending.Nulls (count + 1) front last (list ++ e ∷ [])) (sym a) (null_more_at end done pending.Nulls count front last list refl h)
one_more end done pending.Repeat count front last entry list a h = subst (λ e. Holds end done pending.Repeat (count + 1) front last (list ++ e ∷ [])) (sym a) (repeat_more_at end done pending.Repeat count front last last list refl refl h)
one_more end done pending.Literal count front last entry list a h = absurd a

more : (end : List ℕ → Option ℕ) (done : List ℕ) (kind : PendingKind) (front last : List ℕ) (entry : Option (List ℕ)) → IsAlike kind last entry → (k count : ℕ) (list : List (Option (List ℕ))) → Holds end done kind count front last list → Holds end done kind (count + k) front last (list ++ replicate k entry)
more end done kind front last entry a zero count list h =
    subst (λ l. Holds end done kind (count + 0) front last l) (sym (append-nil list)) (subst (λ n. Holds end done kind n front last list) (let e : count ≡ count + 0 = omega arith in e) h)
more end done kind front last entry a (suc k) count list h =
    let again = more end done kind front last entry a k (count + 1) (list ++ entry ∷ []) (one_more end done kind count front last entry list a h) in
    subst (λ n. Holds end done kind n front last (list ++ entry ∷ replicate k entry)) (let e : (count + 1) + k ≡ count + suc k = omega arith in e)
    (subst (λ l. Holds end done kind ((count + 1) + k) front last l) (append_assoc list (entry ∷ []) (replicate k entry)) again)

-- there is room
pub room_for : (end : List ℕ → Option ℕ) (failed : Bool) (total : ℕ) (done : List ℕ) (kind : PendingKind) (count : ℕ) (front last : List ℕ) (value : Option (List (Option (List ℕ)))) (k : ℕ) → failed ≡ false → IsWriting end failed total done kind count front last → cond failed None (Some (written_so_far end total done kind count front last)) ≡ value → IfSome value (λ list. length list + k ≤ 2 ^ 32) → (count + k ≤ 2 ^ 32) × (total + k ≤ 2 ^ 32)
room_for end failed total done kind count front last value k f w e r =
    let o = open_writing end failed total done kind count front last f w in
    let l : length (written_so_far end total done kind count front last) + k ≤ 2 ^ 32 = subst (λ v. IfSome v (λ list. length list + k ≤ 2 ^ 32)) (sym (in_value failed _ value f e)) r in
    (omega (arith, l, count_le end done kind count front last _ o.1), omega (arith, l, o.0))

-- the state of the writer with so many more
pub more_writing : (end : List ℕ → Option ℕ) → ReadsItems end → (failed : Bool) (total : ℕ) (done : List ℕ) (kind : PendingKind) (count : ℕ) (front last : List ℕ) (value : Option (List (Option (List ℕ)))) (x : Option (List ℕ)) (k : ℕ) → failed ≡ false → IsWriting end failed total done kind count front last → cond failed None (Some (written_so_far end total done kind count front last)) ≡ value → IfSome value (λ list. length list + k ≤ 2 ^ 32) → IsAlike kind last x
    → IsWriting end failed (total + k) done kind (count + k) front last × IfSome value (λ list. cond failed None (Some (written_so_far end (total + k) done kind (count + k) front last)) ≡ Some (list ++ replicate k x))
more_writing end reads failed total done kind count front last value x k f w e r a =
    let o = open_writing end failed total done kind count front last f w in
    let list = written_so_far end total done kind count front last in
    let room = room_for end failed total done kind count front last value k f w e r in
    let size : length (list ++ replicate k x) ≡ total + k = omega (arith, o.0, length-append list (replicate k x), length-replicate k x) in
    let h = more end done kind front last x a k count list o.1 in
    let s : written_so_far end (total + k) done kind (count + k) front last ≡ list ++ replicate k x = shown end reads done kind (count + k) front last (list ++ replicate k x) (total + k) (omega (arith, size, room.1)) (sym size) h in
    let next : IsWriting end false (total + k) done kind (count + k) front last = (ap length s ∙ size, subst (λ l. Holds end done kind (count + k) front last l) (sym s) h, omega (arith, room.1)) in (
      subst (λ b. IsWriting end b (total + k) done kind (count + k) front last) (sym f) next,
      subst (λ b. IfSome value (λ l. cond b None (Some (written_so_far end (total + k) done kind (count + k) front last)) ≡ Some (l ++ replicate k x))) (sym f)
          (subst (λ v. IfSome v (λ l. Some (written_so_far end (total + k) done kind (count + k) front last) ≡ Some (l ++ replicate k x))) (in_value failed list value f e) (ap Some s)),
    )

-- ---- for the loops

replicate_both : (a k n : ℕ) (x : Option (List ℕ)) → a + k ≡ n → replicate a x ++ replicate k x ≡ replicate n x
replicate_both zero k n x e = ap (λ m. replicate m x) (let q : k ≡ n = omega arith in q)
replicate_both (suc a) k zero x e = absurd (omega arith)
replicate_both (suc a) k (suc n) x e = ap (λ l. x ∷ l) (replicate_both a k n x (omega arith))

pub pushed_more : (value self new : Option (List (Option (List ℕ)))) (count left k : ℕ) (x : Option (List ℕ)) → k ≤ left → left ≤ count → IfSome value (λ list. self ≡ Some (list ++ replicate (count - left) x)) → IfSome self (λ list. new ≡ Some (list ++ replicate k x)) → IfSome value (λ list. new ≡ Some (list ++ replicate (count - (left - k)) x))
pushed_more None self new count left k x kl l h m = tt
pushed_more (Some list) self new count left k x kl l h m =
    subst (λ v. IfSome v (λ l. new ≡ Some (l ++ replicate k x))) h m
    ∙ ap Some (append_assoc list (replicate (count - left) x) (replicate k x) ∙ ap (λ r. list ++ r) (replicate_both (count - left) k (count - (left - k)) x (omega arith)))

pub none_goes : (value self new : Option (List (Option (List ℕ)))) (P : Type 0) → IfNone value (self ≡ None) → IfNone self ((new ≡ None) × P) → IfNone value (new ≡ None)
none_goes None self new P h m = (subst (λ v. IfNone v ((new ≡ None) × P)) h m).0
none_goes (Some list) self new P h m = tt
