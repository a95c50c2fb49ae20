-- Values have one canonical spelling.
--     sums-differences, differences-sums     sums and differences are each other's way back
--     length-differences     there are as many differences as values
--     CanonDeltas_iff        the canonical bytes of values are those of their differences
use Rattle.std.proofs.Common.{◌≡◌, ℕ, suc, ◌^◌, ◌≤◌, List, [], ◌∷◌, length, map, Option, Some, None, ℤ, pos, ◌+ℤ◌, ◌-ℤ◌, ◌↔◌, refl, sym, ap, ◌∙◌, subst, arith, rules, FitsSigned, w64}
use Rattle.std.specs.Option.{IfSome, option_map}
use Rattle.std.specs.List.{AllByRecursion}
use Rattle.std.proofs.lemmas.Int.{ints}
use Rattle.std.proofs.lemmas.List.{length-map}
use Rattle.am_leb.specs.Leb.{leb}
use Rattle.am_runs.specs.Items.{IsItem, signed_end}
use Rattle.am_runs.specs.Canonical.{Canon}
use Rattle.am_runs.proofs.ItemIs.{signed_item}
use Rattle.am_runs.proofs.Existing.{Canon_iff}
use Rattle.am_delta.specs.Deltas.{sums_from, differences_from, IsMiddling, AreMiddling, CanonDeltas, canonical_delta_bytes}

pub sums-differences : (last : ℤ) (values : List (Option ℤ)) → sums_from last (differences_from last values) ≡ values
sums-differences last [] = refl
sums-differences last (None ∷ values) = ap (λ l. None ∷ l) (sums-differences last values)
sums-differences last (Some v ∷ values) =
    ap (λ z. Some z ∷ sums_from z (differences_from v values)) (let e : last +ℤ (v -ℤ last) ≡ v = omega (arith, ints) in e) ∙ ap (λ l. Some v ∷ l) (sums-differences v values)

pub differences-sums : (sum : ℤ) (ds : List (Option ℤ)) → differences_from sum (sums_from sum ds) ≡ ds
differences-sums sum [] = refl
differences-sums sum (None ∷ ds) = ap (λ l. None ∷ l) (differences-sums sum ds)
differences-sums sum (Some d ∷ ds) =
    ap (λ z. Some z ∷ differences_from (sum +ℤ d) (sums_from (sum +ℤ d) ds)) (let e : sum +ℤ d -ℤ sum ≡ d = omega (arith, ints) in e) ∙ ap (λ l. Some d ∷ l) (differences-sums (sum +ℤ d) ds)

difference_fits : (v last : ℤ) → IsMiddling v → IsMiddling last → FitsSigned w64 (v -ℤ last)
difference_fits v last h g = let a = h.0 in let b = h.1 in let c = g.0 in let d = g.1 in search (arith, ints, rules)

items : (last : ℤ) (values : List (Option ℤ)) → IsMiddling last → AreMiddling values → AllByRecursion (λ entry. IfSome entry (IsItem signed_end)) (map (option_map leb) (differences_from last values))
items last [] h a = tt
items last (None ∷ values) h a = (tt, items last values h a.1)
items last (Some v ∷ values) h a = (signed_item (v -ℤ last) (difference_fits v last a.0 h), items v values a.0 a.1)

pub length-differences : (last : ℤ) (values : List (Option ℤ)) → length (differences_from last values) ≡ length values
length-differences last [] = refl
length-differences last (None ∷ values) = ap suc (length-differences last values)
length-differences last (Some v ∷ values) = ap suc (length-differences v values)

pub CanonDeltas_iff : (values : List (Option ℤ)) (bytes : List ℕ) → AreMiddling values → length values ≤ 2 ^ 32 → CanonDeltas bytes values ↔ (bytes ≡ canonical_delta_bytes values)
CanonDeltas_iff values bytes a l =
    let ds = differences_from (pos 0) values in
    let zero_fits : IsMiddling (pos 0) = (omega (arith, ints), omega (arith, ints)) in
    let list = map (option_map leb) ds in
    let both = Canon_iff signed_end list bytes (items (pos 0) values zero_fits a) (omega (arith, length-map ds (option_map leb), length-differences (pos 0) values)) in (
      λ c. let same : c.0 ≡ ds = sym (differences-sums (pos 0) c.0) ∙ ap (differences_from (pos 0)) (sym c.2) in
          both.0 (subst (λ d. Canon signed_end bytes (map (option_map leb) d)) same c.1),
      λ e. (ds, both.1 e, sym (sums-differences (pos 0) values)),
    )
