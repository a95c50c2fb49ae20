-- What a verdict says.
use Rattle.std.proofs.Common.{ℕ, ◌≡◌, ◌≢◌, ◌↔◌, List, Bool, true, false, Option, Some, None, unwrap_or, option_map, refl, sym, ap}
use Rattle.std.specs.Option.{option_or}
use Rattle.std.specs.Bool.{then_some}
use Rattle.am_laws.specs.Records.{Hash, Change, Limit, Verdict, Fits, SeqClash, SeqGap, StartLow, BadReference, Full}
use Rattle.am_types.specs.Members.{Member}
use Rattle.am_types.specs.Ancestors.{ancestors}
use Rattle.am_types.specs.Verdicts.{NoReasonApplies, verdict, seq_clash, seq_gap, start_low, bad_reference, full}
use Rattle.am_laws.specs.Laws.{AnswersFirst}

-- the verdict v is not given
abbrev Never : Verdict → Option Verdict → Type 0
Never v o = (w : Verdict) → o ≡ Some w → w ≢ v

mapped_never : {X : Type 0} (f : X → Verdict) (v : Verdict) → ((x : X) → f x ≢ v) → (o : Option X) → Never v (option_map f o)
mapped_never f v h None w e = λ _. cc
mapped_never f v h (Some x) w e = λ g. h x (cc)

gap_never : (v : Verdict) → SeqGap ≢ v → (b : Bool) → Never v (then_some b SeqGap)
gap_never v h true w e = λ g. h (cc)
gap_never v h false w e = λ g. cc

-- neither of two
neither : (v : Verdict) (o r : Option Verdict) → Never v o → Never v r → Never v (option_or o r)
neither v None r m n = n
neither v (Some x) r m n = m

none_never : (v : Verdict) → Never v None
none_never v w e = λ g. cc

-- what is answered isn't the first, so it is the answer of the rest
rest_is : (v : Verdict) (o r : Option Verdict) → Never v o → unwrap_or (option_or o r) Fits ≡ v → (o ≡ None) × (unwrap_or r Fits ≡ v)
rest_is v None r n e = (refl, e)
rest_is v (Some w) r n e = absurd (n w refl e)

-- what is answered isn't of the rest, so it is the first
first_is : (v : Verdict) (o r : Option Verdict) → v ≢ Fits → Never v r → unwrap_or (option_or o r) Fits ≡ v → o ≡ Some v
first_is v (Some w) r some n e = ap Some e
first_is v None None some n e = absurd (some (sym e))
first_is v None (Some w) some n e = absurd (n w refl e)

module _ (C : List Member) (c : Change) (v : Verdict) where
  abbrev A : List Member
  A = ancestors C c.deps

  clash_never : ((h : Hash) → SeqClash h ≢ v) → Never v (seq_clash C c)
  clash_never n = mapped_never (λ (m : Member). SeqClash m.hash) v (λ m. n m.hash) _

  low_never : ((h : Hash) → StartLow h ≢ v) → Never v (start_low A c)
  low_never n = mapped_never StartLow v n _

  bad_never : ((i : ℕ) → BadReference i ≢ v) → Never v (bad_reference A c)
  bad_never n = mapped_never BadReference v n _

  full_never : ((limit : Limit) → Full limit ≢ v) → Never v (full C c)
  full_never n = mapped_never Full v n _

pub fits_by : (C : List Member) (c : Change) → verdict C c ≡ Fits → NoReasonApplies C c
unfolding verdict
fits_by C c e =
    let A = ancestors C c.deps in
    let one = rest_is Fits (seq_clash C c) _ (clash_never C c Fits (λ h. λ g. cc)) e in
    let two = rest_is Fits (seq_gap A c) _ (gap_never Fits (λ g. cc) _) one.1 in
    let three = rest_is Fits (start_low A c) _ (low_never C c Fits (λ h. λ g. cc)) two.1 in
    let four = rest_is Fits (bad_reference A c) _ (bad_never C c Fits (λ i. λ g. cc)) three.1 in
    let five = rest_is Fits (full C c) None (full_never C c Fits (λ l. λ g. cc)) four.1 in
    record { clash = one.0; gap = two.0; low = three.0; references = four.0; limits = five.0 }

pub fits_from : (C : List Member) (c : Change) → NoReasonApplies C c → verdict C c ≡ Fits
unfolding verdict
fits_from C c h = rw (h.clash, h.gap, h.low, h.references, h.limits) refl

-- ---- the first reason

clash_first : (C : List Member) (c : Change) (h : Hash) → (verdict C c ≡ SeqClash h) ↔ (seq_clash C c ≡ Some (SeqClash h))
unfolding verdict
clash_first C c h =
    let A = ancestors C c.deps in
    let v = SeqClash h in (
      λ e.
          let four = neither v (bad_reference A c) _ (bad_never C c v (λ i. λ g. cc)) (neither v (full C c) None (full_never C c v (λ l. λ g. cc)) (none_never v)) in
          let rest = neither v (seq_gap A c) _ (gap_never v (λ g. cc) _) (neither v (start_low A c) _ (low_never C c v (λ h. λ g. cc)) four) in
          first_is v (seq_clash C c) _ (λ g. cc) rest e,
      λ e. rw e refl,
    )

gap_first : (C : List Member) (c : Change) → (verdict C c ≡ SeqGap) ↔ ((seq_clash C c ≡ None) × (seq_gap (ancestors C c.deps) c ≡ Some SeqGap))
unfolding verdict
gap_first C c =
    let A = ancestors C c.deps in
    let v : Verdict = SeqGap in (
      λ e.
          let one = rest_is v (seq_clash C c) _ (clash_never C c v (λ h. λ g. cc)) e in
          let four = neither v (bad_reference A c) _ (bad_never C c v (λ i. λ g. cc)) (neither v (full C c) None (full_never C c v (λ l. λ g. cc)) (none_never v)) in
          (one.0, first_is v (seq_gap A c) _ (λ g. cc) (neither v (start_low A c) _ (low_never C c v (λ h. λ g. cc)) four) one.1),
      λ e. rw (e.0, e.1) refl,
    )

low_first : (C : List Member) (c : Change) (h : Hash) → (verdict C c ≡ StartLow h) ↔ ((seq_clash C c ≡ None) × (seq_gap (ancestors C c.deps) c ≡ None) × (start_low (ancestors C c.deps) c ≡ Some (StartLow h)))
unfolding verdict
low_first C c h =
    let A = ancestors C c.deps in
    let v = StartLow h in (
      λ e.
          let one = rest_is v (seq_clash C c) _ (clash_never C c v (λ h. λ g. cc)) e in
          let two = rest_is v (seq_gap A c) _ (gap_never v (λ g. cc) _) one.1 in
          let rest = neither v (bad_reference A c) _ (bad_never C c v (λ i. λ g. cc)) (neither v (full C c) None (full_never C c v (λ l. λ g. cc)) (none_never v)) in
          (one.0, two.0, first_is v (start_low A c) _ (λ g. cc) rest two.1),
      λ e. rw (e.0, e.1, e.2) refl,
    )

bad_first : (C : List Member) (c : Change) (i : ℕ) → (verdict C c ≡ BadReference i) ↔ ((seq_clash C c ≡ None) × (seq_gap (ancestors C c.deps) c ≡ None) × (start_low (ancestors C c.deps) c ≡ None) × (bad_reference (ancestors C c.deps) c ≡ Some (BadReference i)))
unfolding verdict
bad_first C c i =
    let A = ancestors C c.deps in
    let v = BadReference i in (
      λ e.
          let one = rest_is v (seq_clash C c) _ (clash_never C c v (λ h. λ g. cc)) e in
          let two = rest_is v (seq_gap A c) _ (gap_never v (λ g. cc) _) one.1 in
          let three = rest_is v (start_low A c) _ (low_never C c v (λ h. λ g. cc)) two.1 in
          (one.0, two.0, three.0, first_is v (bad_reference A c) _ (λ g. cc) (neither v (full C c) None (full_never C c v (λ l. λ g. cc)) (none_never v)) three.1),
      λ e. rw (e.0, e.1, e.2, e.3) refl,
    )

full_first : (C : List Member) (c : Change) (limit : Limit) → (verdict C c ≡ Full limit) ↔ ((seq_clash C c ≡ None) × (seq_gap (ancestors C c.deps) c ≡ None) × (start_low (ancestors C c.deps) c ≡ None) × (bad_reference (ancestors C c.deps) c ≡ None) × (full C c ≡ Some (Full limit)))
unfolding verdict
full_first C c limit =
    let A = ancestors C c.deps in
    let v = Full limit in (
      λ e.
          let one = rest_is v (seq_clash C c) _ (clash_never C c v (λ h. λ g. cc)) e in
          let two = rest_is v (seq_gap A c) _ (gap_never v (λ g. cc) _) one.1 in
          let three = rest_is v (start_low A c) _ (low_never C c v (λ h. λ g. cc)) two.1 in
          let four = rest_is v (bad_reference A c) _ (bad_never C c v (λ i. λ g. cc)) three.1 in
          (one.0, two.0, three.0, four.0, first_is v (full C c) None (λ g. cc) (none_never v) four.1),
      λ e. rw (e.0, e.1, e.2, e.3, e.4) refl,
    )

pub answers_first : (C : List Member) (c : Change) → AnswersFirst C (ancestors C c.deps) c
answers_first C c = record {
  clash = clash_first C c;
  gap = gap_first C c;
  low = low_first C c;
  references = bad_first C c;
  limits = full_first C c;
  fits = (fits_by C c, fits_from C c);
}
