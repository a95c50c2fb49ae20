use Rattle.std.specs.Result.{OnOk, is_ok}
use Rattle.std.proofs.Common.{ℕ, List, Result, Ok, Err, cond, ◌≡◌, ◌<◌, ◌≤◌, ◌^◌, ◌+◌, ◌%◌, ◌++◌, length, take, set, arith, length-set, append_assoc, ap, ◌∙◌, sym}
use Rattle.std.proofs.lemmas.List.{take_more_set, length-take-le}
use Rattle.am_leb.specs.Leb.{uleb}
use Rattle.am_leb.proofs.Laws.{length_uleb-le, length_uleb-pos, length_uleb-more, uleb-one, uleb-more}
use Rattle.am_leb.proofs.unsigned.push_longer.Goals as goal

pub bounds-spelling-len : goal.bounds-spelling-len
bounds-spelling-len c = let small : c.args.n < 2 ^ 64 = omega arith in omega (arith, length_uleb-le c.args.n small, length_uleb-pos c.loop-rest.rest)

pub loop-rest-preserved : goal.loop-rest-preserved
loop-rest-preserved c =
    let small : c.args.n < 2 ^ 64 = omega arith in
    let xs = c.loop-rest.spelling in
    let i = c.loop-rest.len in
    let inside : i < length xs = omega (arith, length_uleb-le c.args.n small, length_uleb-pos c.loop-rest.rest) in
    let more = uleb-more c.loop-rest.rest (omega arith) in (
      omega (arith, length-set xs i (c.loop-rest.rest % 128 + 128)),
      rw (take_more_set xs i (c.loop-rest.rest % 128 + 128) inside, append_assoc, ← more) c.loop-rest.invariant.1,
      omega (arith, length_uleb-more c.loop-rest.rest (omega arith)),
    )

pub bounds-spelling-len-2 : goal.bounds-spelling-len-2
bounds-spelling-len-2 c = let small : c.args.n < 2 ^ 64 = omega arith in omega (arith, length_uleb-le c.args.n small, length_uleb-pos c.loop-rest.rest)

pub slice_bounds-spelling-end : goal.slice_bounds-spelling-end
slice_bounds-spelling-end c = let small : c.args.n < 2 ^ 64 = omega arith in omega (arith, length-set c.loop-rest.spelling c.loop-rest.len c.loop-rest.rest, length_uleb-le c.args.n small, length_uleb-pos c.loop-rest.rest)

pub slice_bounds-extend_from_slice-end : goal.slice_bounds-extend_from_slice-end
slice_bounds-extend_from_slice-end c =
    let small : c.args.n < 2 ^ 64 = omega arith in
    let ys = set c.loop-rest.spelling c.loop-rest.len c.loop-rest.rest in
    let inside : c.loop-rest.len + 1 ≤ length ys = omega (arith, length-set c.loop-rest.spelling c.loop-rest.len c.loop-rest.rest, length_uleb-le c.args.n small, length_uleb-pos c.loop-rest.rest) in
    sym (length-take-le (c.loop-rest.len + 1) ys inside)

spelled : (c : goal.After-extend_from_slice) → take (c.loop-rest.len + 1) (set c.loop-rest.spelling c.loop-rest.len c.loop-rest.rest) ≡ uleb c.args.n
spelled c =
    let small : c.args.n < 2 ^ 64 = omega arith in
    let inside : c.loop-rest.len < length c.loop-rest.spelling = omega (arith, length_uleb-le c.args.n small, length_uleb-pos c.loop-rest.rest) in
    let last = uleb-one c.loop-rest.rest (omega arith) in
    take_more_set c.loop-rest.spelling c.loop-rest.len c.loop-rest.rest inside ∙ rw (← last) c.loop-rest.invariant.1

appended : {T E : Type 0} (r : Result T E) (new old ys zs : List ℕ) → new ≡ cond (is_ok r) (old ++ ys) old → ys ≡ zs → OnOk r (new ≡ old ++ zs)
appended (Ok x) new old ys zs e q = e ∙ ap (λ s. old ++ s) q
appended (Err x) new old ys zs e q = tt

pub returns-clause-ok : goal.returns-clause-ok
returns-clause-ok c = appended _ _ _ _ _ c.extend_from_slice.ensures.items (spelled c)
