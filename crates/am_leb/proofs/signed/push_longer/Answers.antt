use Rattle.std.specs.Result.{OnOk, is_ok}
use Rattle.std.proofs.Common.{ℕ, List, Result, Ok, Err, cond, ◌≡◌, ◌<◌, ◌≤◌, ◌+◌, ◌/◌, ◌++◌, ◌∷◌, [], length, take, set, arith, length-set, append_assoc, ap, ◌∙◌, sym}
use Rattle.std.proofs.lemmas.List.{take_more_set, length-take-le}
use Rattle.am_leb.specs.Leb.{leb}
use Rattle.am_leb.specs.Reading.{from_magnitude}
use Rattle.am_leb.proofs.SignedLaws.{length_leb-le, length_leb-pos, length_leb-more, leb-one, leb-more}
use Rattle.am_leb.proofs.signed.push_longer.Goals as goal

pub bounds-spelling-len : goal.bounds-spelling-len
bounds-spelling-len c = omega (arith, length_leb-le c.args.negative c.args.magnitude c.requires, length_leb-pos (from_magnitude c.args.negative c.loop-rest.rest))

pub loop-rest-preserved : goal.loop-rest-preserved
loop-rest-preserved c =
    let xs = c.loop-rest.spelling in
    let i = c.loop-rest.len in
    let y = c.bits_of.result + 128 in
    let inside : i < length xs = omega (arith, length_leb-le c.args.negative c.args.magnitude c.requires, length_leb-pos (from_magnitude c.args.negative c.loop-rest.rest)) in
    let more = leb-more c.args.negative c.loop-rest.rest (omega arith) in (
      omega (arith, length-set xs i y),
      ap (λ s. s ++ leb (from_magnitude c.args.negative (c.loop-rest.rest / 128))) (take_more_set xs i y inside)
          ∙ append_assoc (take i xs) (y ∷ []) (leb (from_magnitude c.args.negative (c.loop-rest.rest / 128)))
          ∙ ap (λ b. take i xs ++ (b + 128) ∷ leb (from_magnitude c.args.negative (c.loop-rest.rest / 128))) c.bits_of.ensures.value
          ∙ ap (λ s. take i xs ++ s) (sym more) ∙ c.loop-rest.invariant.1,
      omega (arith, length_leb-more c.args.negative c.loop-rest.rest (omega arith)),
    )

pub bounds-spelling-len-2 : goal.bounds-spelling-len-2
bounds-spelling-len-2 c = omega (arith, length_leb-le c.args.negative c.args.magnitude c.requires, length_leb-pos (from_magnitude c.args.negative c.loop-rest.rest))

pub slice_bounds-spelling-end : goal.slice_bounds-spelling-end
slice_bounds-spelling-end c = omega (arith, length-set c.loop-rest.spelling c.loop-rest.len c.bits_of-2.result, length_leb-le c.args.negative c.args.magnitude c.requires, length_leb-pos (from_magnitude c.args.negative c.loop-rest.rest))

pub slice_bounds-extend_from_slice-end : goal.slice_bounds-extend_from_slice-end
slice_bounds-extend_from_slice-end c =
    let ys = set c.loop-rest.spelling c.loop-rest.len c.bits_of-2.result in
    let inside : c.loop-rest.len + 1 ≤ length ys = omega (arith, length-set c.loop-rest.spelling c.loop-rest.len c.bits_of-2.result, length_leb-le c.args.negative c.args.magnitude c.requires, length_leb-pos (from_magnitude c.args.negative c.loop-rest.rest)) in
    sym (length-take-le (c.loop-rest.len + 1) ys inside)

spelled : (c : goal.After-extend_from_slice) → take (c.loop-rest.len + 1) (set c.loop-rest.spelling c.loop-rest.len c.bits_of-2.result) ≡ leb (from_magnitude c.args.negative c.args.magnitude)
spelled c =
    let inside : c.loop-rest.len < length c.loop-rest.spelling = omega (arith, length_leb-le c.args.negative c.args.magnitude c.requires, length_leb-pos (from_magnitude c.args.negative c.loop-rest.rest)) in
    take_more_set c.loop-rest.spelling c.loop-rest.len c.bits_of-2.result inside
    ∙ ap (λ b. take c.loop-rest.len c.loop-rest.spelling ++ b ∷ []) c.bits_of-2.ensures.value
    ∙ ap (λ s. take c.loop-rest.len c.loop-rest.spelling ++ s) (sym (leb-one c.args.negative c.loop-rest.rest (omega arith))) ∙ c.loop-rest.invariant.1

appended : {T E : Type 0} (r : Result T E) (new old ys zs : List ℕ) → new ≡ cond (is_ok r) (old ++ ys) old → ys ≡ zs → OnOk r (new ≡ old ++ zs)
appended (Ok x) new old ys zs e q = e ∙ ap (λ s. old ++ s) q
appended (Err x) new old ys zs e q = tt

pub returns-clause-ok : goal.returns-clause-ok
returns-clause-ok c = appended _ _ _ _ _ c.extend_from_slice.ensures.items (spelled c)
