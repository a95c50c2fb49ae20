use Rattle.std.proofs.Common.{◌≡◌, ◌-◌, ◌∙◌, ◌∷◌, ◌<◌, [], All, ap, arith, drop, length, map, subst, sym}
use Rattle.am_merge.specs.Aims.{one_at, stacked_at}
use Rattle.am_merge.specs.Starts.{Stands}
use Rattle.am_merge.proofs.Aimed.{one_within, operation_in, stacked_more}
use Rattle.am_merge.proofs.Backwards.{drop_less}
use Rattle.am_merge.proofs.added.places_of.Goals as goal

pub loop-i-preserved : goal.loop-i-preserved
loop-i-preserved c = λ A stand.
    let xs = c.args.starts.now in
    let m = c.loop-i.i in
    let x = c.index-starts-i.result in
    let k = c.place.result in
    let stands : Stands A x = subst (Stands A) (sym c.index-starts-i.is) (stand (m - 1) x (omega (arith, c.loop-i-test.true, c.loop-i.auto.i))) in
    let there : one_at A k ≡ x.operation ∷ [] = ap (one_at A) c.place.ensures ∙ stands.is in
    let at = c.place.ensures in
    let in_A = stands.within in
    let low : k < length A = omega (arith, at, in_A) in
    let before = c.loop-i.invariant A stand in (
      ap (stacked_at A) c.in_ok-push.ensures.items
          ∙ stacked_more A c.loop-i.all.items k x.operation there
          ∙ ap (λ l. x.operation ∷ l) before.0
          ∙ sym (ap (map operation_in) (drop_less xs m x (omega (arith, c.loop-i-test.true)) (omega (arith, c.loop-i.auto.i)) c.index-starts-i.is)),
      subst (All (λ j. j < length A)) (sym c.in_ok-push.ensures.items) (one_within (length A) k c.loop-i.all.items before.1 low),
    )

pub returns : goal.returns
returns c = λ A stand.
    let none : c.loop-i.i ≡ 0 = omega (arith, c.loop-i-test.false) in
    let whole = c.loop-i.invariant A stand in
    (whole.0 ∙ ap (λ n. map operation_in (drop n c.args.starts.now)) none, whole.1)
