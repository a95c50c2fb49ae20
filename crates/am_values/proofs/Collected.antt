-- The steps of the writer of values.
use Rattle.std.proofs.Common.{◌≡◌, ℕ, suc, zero, ◌/◌, ◌+◌, ◌^◌, ◌<◌, ◌≤◌, Bool, true, false, List, [], ◌∷◌, ◌++◌, length, drop, map, Option, Some, None, refl, sym, ap, ◌∙◌, subst, arith, append_assoc}
use Rattle.std.specs.Prelude.{replicate}
use Rattle.std.specs.Option.{IfSome, option_map}
use Rattle.std.proofs.lemmas.List.{append-nil, drop_at, length-map}
use Rattle.am_leb.specs.Leb.{uleb}
use Rattle.am_types.specs.declared.RawValue.{RawValue}
use Rattle.am_types.specs.Values.{Good}
use Rattle.am_runs.specs.Items.{unsigned_end}
use Rattle.am_runs.specs.Typed.{unsigned_numbers}
use Rattle.am_runs.specs.Canonical.{Canon}
use Rattle.am_runs.proofs.ItemIs.{unsigned_value-uleb}
use Rattle.am_values.specs.Columns.{metadata, null_value, AllGood, spellings, joined, CanonValues}
use Rattle.am_values.specs.Writing.{values_in, shown, values_written, AreOf, IsCollecting}
use Rattle.am_values.proofs.Cuts.{split, value_back}
use Rattle.am_values.proofs.NullValue.{null_good}

-- ---- values that are spelled are shown

numbers-spellings : (values : List RawValue) → unsigned_numbers (spellings values) ≡ map {B = Option ℕ} (λ v. Some (metadata v)) values
numbers-spellings [] = refl
numbers-spellings (v ∷ values) =
    ap (λ n. Some n ∷ unsigned_numbers (spellings values)) (unsigned_value-uleb (metadata v)) ∙ ap (λ l. Some (metadata v) ∷ l) (numbers-spellings values)

values_in-numbers : (values : List RawValue) → AllGood values → values_in (map {B = Option ℕ} (λ v. Some (metadata v)) values) (joined values) ≡ values
values_in-numbers [] good = refl
values_in-numbers (v ∷ values) good =
    let s = split v good.0.kind in
    ap (λ x. x ∷ values_in (map {B = Option ℕ} (λ w. Some (metadata w)) values) (drop (metadata v / 16) (v.raw ++ joined values))) (value_back v (joined values) good.0.kind)
    ∙ ap (λ l. v ∷ values_in (map {B = Option ℕ} (λ w. Some (metadata w)) values) l) (drop_at v.raw (joined values) (metadata v / 16) (sym s.1))
    ∙ ap (λ l. v ∷ l) (values_in-numbers values good.1)

shown-spellings : (values : List RawValue) → AllGood values → shown (joined values) (spellings values) ≡ values
shown-spellings values good = ap (λ l. values_in l (joined values)) (numbers-spellings values) ∙ values_in-numbers values good

-- ---- more values

spellings-more : (values more : List RawValue) → spellings (values ++ more) ≡ spellings values ++ spellings more
spellings-more [] more = refl
spellings-more (w ∷ values) more = ap (λ l. Some (uleb (metadata w)) ∷ l) (spellings-more values more)

joined-more : (values more : List RawValue) → joined (values ++ more) ≡ joined values ++ joined more
joined-more [] more = refl
joined-more (w ∷ values) more = ap (λ l. w.raw ++ l) (joined-more values more) ∙ sym (append_assoc w.raw (joined values) (joined more))

good-more : (values more : List RawValue) → AllGood values → AllGood more → AllGood (values ++ more)
good-more [] more all good = good
good-more (w ∷ values) more all good = (all.0, good-more values more all.1 good)

opened : (failed : Bool) (entries : Option (List (Option (List ℕ)))) (raw : List ℕ) → failed ≡ false → IsCollecting failed entries raw → IsCollecting false entries raw
opened true entries raw e h = absurd (cc e)
opened false entries raw e h = h

written_is : (failed : Bool) (entries : Option (List (Option (List ℕ)))) (raw : List ℕ) (old : Option (List RawValue)) → failed ≡ false → values_written failed entries raw ≡ old → option_map (shown raw) entries ≡ old
written_is true entries raw old f e = absurd (cc f)
written_is false entries raw old f e = e

pub room_for_one : (old : Option (List RawValue)) → IfSome old (λ values. length values < 2 ^ 32) → IfSome old (λ values. length values + 1 ≤ 2 ^ 32)
room_for_one None r = tt
room_for_one (Some values) r = omega arith

pub room : (failed : Bool) (entries : Option (List (Option (List ℕ)))) (raw : List ℕ) (old : Option (List RawValue)) (n : ℕ) → failed ≡ false → IsCollecting failed entries raw → values_written failed entries raw ≡ old
    → IfSome old (λ values. length values + n ≤ 2 ^ 32) → IfSome entries (λ list. length list + n ≤ 2 ^ 32)
room failed None raw old n f h e r = tt
room failed (Some list) raw old n f h e r =
    let w = opened failed (Some list) raw f h in
    let short : length (shown raw list) + n ≤ 2 ^ 32 = subst (λ o. IfSome o (λ values. length values + n ≤ 2 ^ 32)) (sym (written_is failed (Some list) raw old f e)) r in
    omega (arith, short, ap length w.0, length-map (shown raw list) (λ v. Some (uleb (metadata v))))

pub pushed_all : (failed : Bool) (entries next : Option (List (Option (List ℕ)))) (raw after : List ℕ) (old : Option (List RawValue)) (vs : List RawValue) → failed ≡ false → IsCollecting failed entries raw → values_written failed entries raw ≡ old
    → AllGood vs → after ≡ raw ++ joined vs → IfSome entries (λ list. next ≡ Some (list ++ spellings vs))
    → IsCollecting false next after × IfSome old (λ values. values_written false next after ≡ Some (values ++ vs))
pushed_all failed None next raw after old vs f h e good a n = absurd (opened failed None raw f h)
pushed_all failed (Some list) next raw after old vs f h e good a n =
    let w = opened failed (Some list) raw f h in
    let values = shown raw list in
    let more : List RawValue = values ++ vs in
    let entries_are : list ++ spellings vs ≡ spellings more = ap (λ l. l ++ spellings vs) w.0 ∙ sym (spellings-more values vs) in
    let raw_are : after ≡ joined more = a ∙ ap (λ l. l ++ joined vs) w.1 ∙ sym (joined-more values vs) in
    let all : AllGood more = good-more values vs w.2 good in
    let seen : shown after (list ++ spellings vs) ≡ more = ap (λ r. shown r (list ++ spellings vs)) raw_are ∙ ap (shown (joined more)) entries_are ∙ shown-spellings more all in
    let held : IsCollecting false (Some (list ++ spellings vs)) after = subst (λ vs'. AreOf vs' (list ++ spellings vs) after) (sym seen) (entries_are, raw_are, all) in (
      subst (λ o. IsCollecting false o after) (sym n) held,
      subst (λ o. IfSome o (λ l. values_written false next after ≡ Some (l ++ vs))) (written_is failed (Some list) raw old f e) (ap (option_map (shown after)) n ∙ ap Some seen),
    )

pub pushed : (failed : Bool) (entries next : Option (List (Option (List ℕ)))) (raw after : List ℕ) (old : Option (List RawValue)) (v : RawValue) → failed ≡ false → IsCollecting failed entries raw → values_written failed entries raw ≡ old
    → Good v → after ≡ raw ++ v.raw → IfSome entries (λ list. next ≡ Some (list ++ Some (uleb (metadata v)) ∷ []))
    → IsCollecting false next after × IfSome old (λ values. values_written false next after ≡ Some (values ++ v ∷ []))
pushed failed entries next raw after old v f h e good a n = pushed_all failed entries next raw after old (v ∷ []) f h e (good, tt) (a ∙ ap (λ l. raw ++ l) (sym (append-nil v.raw))) n

-- ---- null values

null_spellings : (k : ℕ) → spellings (replicate k null_value) ≡ replicate k (Some (uleb 0))
null_spellings zero = refl
null_spellings (suc k) = ap (λ l. Some (uleb 0) ∷ l) (null_spellings k)

no_bytes : (k : ℕ) → joined (replicate k null_value) ≡ []
no_bytes zero = refl
no_bytes (suc k) = no_bytes k

good_nulls : (k : ℕ) → AllGood (replicate k null_value)
good_nulls zero = tt
good_nulls (suc k) = (null_good, good_nulls k)

pub pushed_nulls : (failed : Bool) (entries next : Option (List (Option (List ℕ)))) (raw : List ℕ) (old : Option (List RawValue)) (k : ℕ) → failed ≡ false → IsCollecting failed entries raw → values_written failed entries raw ≡ old
    → IfSome entries (λ list. next ≡ Some (list ++ replicate k (Some (uleb 0))))
    → IsCollecting false next raw × IfSome old (λ values. values_written false next raw ≡ Some (values ++ replicate k null_value))
pushed_nulls failed entries next raw old k f h e n =
    pushed_all failed entries next raw raw old (replicate k null_value) f h e (good_nulls k) (sym (ap (λ l. raw ++ l) (no_bytes k) ∙ append-nil raw))
    (subst (λ l. IfSome entries (λ list. next ≡ Some (list ++ l))) (sym (null_spellings k)) n)

pub finished : (failed : Bool) (entries : Option (List (Option (List ℕ)))) (raw numbers : List ℕ) (old : Option (List RawValue)) → failed ≡ false → IsCollecting failed entries raw → values_written failed entries raw ≡ old
    → IfSome entries (Canon unsigned_end numbers) → IfSome old (CanonValues numbers raw)
finished failed None raw numbers old f h e c = absurd (opened failed None raw f h)
finished failed (Some list) raw numbers old f h e c =
    let w = opened failed (Some list) raw f h in
    subst (λ o. IfSome o (CanonValues numbers raw)) (written_is failed (Some list) raw old f e)
    (record { numbers_are = subst (Canon unsigned_end numbers) w.0 c; raw_are = w.1; good = w.2 })
