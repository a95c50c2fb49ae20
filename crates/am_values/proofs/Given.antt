-- Values taken out of their columns: which numbers and raw bytes they have.
use Rattle.std.proofs.Common.{◌≡◌, ℕ, suc, zero, ◌+◌, ◌*◌, ◌/◌, ◌-◌, ◌≤◌, List, [], ◌∷◌, ◌++◌, length, take, drop, map, Option, Some, None, refl, sym, ap, ◌∙◌, subst, arith}
use Rattle.std.specs.Prelude.{replicate}
use Rattle.std.specs.Option.{IfSome}
use Rattle.std.proofs.lemmas.List.{drop-drop, length-drop, length-replicate, take_at, drop_at}
use Rattle.std.proofs.Math.Seq.{take-add}
use Rattle.am_leb.specs.Leb.{uleb}
use Rattle.am_types.specs.declared.RawValue.{RawValue}
use Rattle.am_runs.proofs.Parts.{part_is}
use Rattle.am_runs.proofs.Spelled.{map_drop}
use Rattle.am_values.specs.Columns.{given, spellings, joined, AllGood}
use Rattle.am_values.specs.Cutting.{values_from, width, widths, AreCut}
use Rattle.am_values.specs.Writing.{spelled}
use Rattle.am_values.proofs.Cuts.{cut_one, first_cut, metadata-value, past_many}
use Rattle.am_values.proofs.NullValue.{null_good}

-- ---- the first n values of numbers and raw bytes

pub record AreGiven (n : ℕ) (numbers : List (Option ℕ)) (raw : List ℕ) : Type 0 where
  pub spellings_are : spellings (given (take n (values_from numbers raw))) ≡ take n (map spelled numbers)
  pub raw_is : joined (given (take n (values_from numbers raw))) ≡ take (widths (take n numbers)) raw
  pub good : AllGood (given (take n (values_from numbers raw)))
  pub behind : values_from (drop n numbers) (drop (widths (take n numbers)) raw) ≡ drop n (values_from numbers raw)
  pub cut : AreCut (drop n numbers) (drop (widths (take n numbers)) raw)
  pub within : widths (take n numbers) ≤ length raw

pub are_given : (n : ℕ) (numbers : List (Option ℕ)) (raw : List ℕ) → AreCut numbers raw → AreGiven n numbers raw
are_given zero numbers raw c = record { spellings_are = refl; raw_is = refl; good = tt; behind = refl; cut = c; within = omega arith }
are_given (suc n) [] raw c = record { spellings_are = refl; raw_is = refl; good = tt; behind = refl; cut = c; within = omega arith }
are_given (suc n) (None ∷ numbers) raw c =
    let w = are_given n numbers raw ((cut_one None numbers raw raw tt refl).1 c) in
    let none : 0 + widths (take n numbers) ≡ widths (take n numbers) = omega arith in
    record {
      spellings_are = ap (λ l. Some (uleb 0) ∷ l) w.spellings_are;
      raw_is = w.raw_is ∙ ap (λ m. take m raw) (sym none);
      good = (null_good, w.good);
      behind = ap (λ m. values_from (drop n numbers) (drop m raw)) none ∙ w.behind;
      cut = subst (λ m. AreCut (drop n numbers) (drop m raw)) (sym none) w.cut;
      within = omega (arith, w.within);
    }
are_given (suc n) (Some m ∷ numbers) raw c =
    let here = first_cut (Some m) numbers raw c in
    let rest : List ℕ = drop (m / 16) raw in
    let w = are_given n numbers rest ((cut_one (Some m) numbers raw rest here refl).1 c) in
    let more = widths (take n numbers) in
    let past : drop more rest ≡ drop (m / 16 + more) raw = drop-drop more (m / 16) raw in
    record {
      spellings_are = ap (λ k. Some (uleb k) ∷ spellings (given (take n (values_from numbers rest)))) (metadata-value m raw here.0) ∙ ap (λ l. Some (uleb m) ∷ l) w.spellings_are;
      raw_is = ap (λ l. take (m / 16) raw ++ l) w.raw_is ∙ sym (take-add (m / 16) more raw);
      good = (here.1, w.good);
      behind = ap (values_from (drop n numbers)) (sym past) ∙ w.behind;
      cut = subst (AreCut (drop n numbers)) past w.cut;
      within = omega (arith, w.within, here.0, length-drop (m / 16) raw);
    }

-- ---- by runs

widths_both : (xs ys : List (Option ℕ)) → widths (xs ++ ys) ≡ widths xs + widths ys
widths_both [] ys = omega arith
widths_both (x ∷ xs) ys = let w = widths_both xs ys in omega arith

widths_alike : (k : ℕ) (x : Option ℕ) → widths (replicate k x) ≡ k * width x
widths_alike zero x = omega arith
widths_alike (suc k) x = let w = widths_alike k x in omega arith

pub spelled_part : (k : ℕ) (x : Option ℕ) (from new : List (Option ℕ)) → from ≡ replicate k x ++ new → map spelled from ≡ replicate k (spelled x) ++ map spelled new
spelled_part k x from new e = ap (map spelled) e ∙ mapped k
  where
    mapped : (k : ℕ) → map spelled (replicate k x ++ new) ≡ replicate k (spelled x) ++ map spelled new
    mapped zero = refl
    mapped (suc k) = ap (λ l. spelled x ∷ l) (mapped k)

pub take_alike : (k : ℕ) (x : Option ℕ) (from new : List (Option ℕ)) → from ≡ replicate k x ++ new → take k from ≡ replicate k x
take_alike k x from new e = ap (take k) e ∙ take_at (replicate k x) new k (length-replicate k x)

pub wide_enough : (k : ℕ) (x : Option ℕ) (from new : List (Option ℕ)) (raw : List ℕ) → from ≡ replicate k x ++ new → AreCut from raw → k * width x ≤ length raw
wide_enough k x from new raw e c = (past_many k k x from raw (omega arith) (take_alike k x from new e) c).0

pub past_part : (whole from new : List (Option ℕ)) (raw rest behind : List ℕ) (x : Option ℕ) (n left k : ℕ) → k ≤ left → left ≤ n → n ≤ length whole → from ≡ drop (n - left) whole → from ≡ replicate k x ++ new → rest ≡ drop (widths (take (n - left) whole)) raw → behind ≡ drop (k * width x) rest
    → behind ≡ drop (widths (take (n - (left - k)) whole)) raw
past_part whole from new raw rest behind x n left k kl l e b f r d =
    let size : widths (take (n - left) whole) + k * width x ≡ widths (take (n - (left - k)) whole) =
    ap (λ w. widths (take (n - left) whole) + w) (sym (widths_alike k x)) ∙ sym (widths_both (take (n - left) whole) (replicate k x)) ∙ ap widths (part_is whole from new (replicate k x) n left k (length-replicate k x) kl l e b f) in
    d ∙ ap (drop (k * width x)) r ∙ drop-drop (k * width x) (widths (take (n - left) whole)) raw ∙ ap (λ m. drop m raw) size

pub cut_part : (k : ℕ) (x : Option ℕ) (from new : List (Option ℕ)) (rest behind : List ℕ) → from ≡ replicate k x ++ new → behind ≡ drop (k * width x) rest → AreCut from rest → AreCut new behind
cut_part k x from new rest behind e d c =
    let w = past_many k k x from rest (omega arith) (take_alike k x from new e) c in
    let gone : drop k from ≡ new = ap (drop k) e ∙ drop_at (replicate k x) new k (length-replicate k x) in
    subst (λ l. AreCut l behind) gone (subst (AreCut (drop k from)) (sym d) w.1)

pub spelled_behind : (m : ℕ) (whole from : List (Option ℕ)) → from ≡ drop m whole → map spelled from ≡ drop m (map spelled whole)
spelled_behind m whole from e = ap (map spelled) e ∙ map_drop spelled m whole

-- ---- for `give`

pub front_spelled : (n : ℕ) (numbers from : List (Option ℕ)) (raw : List ℕ) (values : List (Option RawValue)) (old new : Option (List (Option (List ℕ)))) → AreCut numbers raw → values_from numbers raw ≡ values → from ≡ numbers → IfSome old (λ list. new ≡ Some (list ++ take n (map spelled from))) → IfSome old (λ list. new ≡ Some (list ++ spellings (given (take n values))))
front_spelled n numbers from raw values old new c v f h =
    let w = are_given n numbers raw c in
    subst (λ l. IfSome old (λ list. new ≡ Some (list ++ l))) (ap (λ l. take n (map spelled l)) f ∙ sym w.spellings_are ∙ ap (λ l. spellings (given (take n l))) v) h

pub front_joined : (n : ℕ) (numbers : List (Option ℕ)) (raw rest front : List ℕ) (values : List (Option RawValue)) → AreCut numbers raw → values_from numbers raw ≡ values → rest ≡ drop (widths (take n numbers)) raw → front ≡ take (length raw - length rest) raw → front ≡ joined (given (take n values))
front_joined n numbers raw rest front values c v r f =
    let w = are_given n numbers raw c in
    let size : length raw - length rest ≡ widths (take n numbers) = omega (arith, w.within, ap length r, length-drop (widths (take n numbers)) raw) in
    f ∙ ap (λ m. take m raw) size ∙ sym w.raw_is ∙ ap (λ l. joined (given (take n l))) v

pub front_good : (n : ℕ) (numbers : List (Option ℕ)) (raw : List ℕ) (values : List (Option RawValue)) → AreCut numbers raw → values_from numbers raw ≡ values → AllGood (given (take n values))
front_good n numbers raw values c v = subst (λ l. AllGood (given (take n l))) v (are_given n numbers raw c).good

pub rest_shown : (n : ℕ) (numbers new : List (Option ℕ)) (raw rest : List ℕ) (values : List (Option RawValue)) → AreCut numbers raw → values_from numbers raw ≡ values → new ≡ drop n numbers → rest ≡ drop (widths (take n numbers)) raw → values_from new rest ≡ drop n values
rest_shown n numbers new raw rest values c v e r =
    ap (λ l. values_from l rest) e ∙ ap (values_from (drop n numbers)) r ∙ (are_given n numbers raw c).behind ∙ ap (drop n) v

pub rest_is_cut : (n : ℕ) (numbers new : List (Option ℕ)) (raw rest : List ℕ) → AreCut numbers raw → new ≡ drop n numbers → rest ≡ drop (widths (take n numbers)) raw → AreCut new rest
rest_is_cut n numbers new raw rest c e r = subst (λ l. AreCut l rest) (sym e) (subst (AreCut (drop n numbers)) (sym r) (are_given n numbers raw c).cut)
