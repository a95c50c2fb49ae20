use Rattle.std.proofs.Common.{◌≡◌, ◌+◌, ◌≤◌, ◌∙◌, ap, arith, drop, length}
use Rattle.std.proofs.lemmas.List.{drop-drop}
use Rattle.am_doccols.proofs.Skipped.{counters_of, all_unnamed, unnamed_further, next_named}
use Rattle.am_doccols.proofs.unnamed.count_unnamed.Goals as goal

pub returns-then-unnamed-stretch-clause-unnamed : goal.returns-then-unnamed-stretch-clause-unnamed
returns-then-unnamed-stretch-clause-unnamed c =
    let inv = c.loop-count.invariant in
    let within = c.unnamed_within-unnamed in
    let few : c.loop-count.count + within.result ≤ length c.args.ids.now = omega (arith, c.left-all.ensures, within.ensures.few, c.next_stretch-stretch.ensures.few, inv.few) in
    all_unnamed c.args.counters.now _ c.args.ids.now few (unnamed_further c.args.counters.now (counters_of c.args.ids.now) c.again-from.result c.loop-count.count within.result (c.again-from.ensures ∙ inv.behind) inv.unnamed within.ensures.unnamed)

pub returns-then-unnamed-stretch-clause-next : goal.returns-then-unnamed-stretch-clause-next
returns-then-unnamed-stretch-clause-next c =
    let inv = c.loop-count.invariant in
    let within = c.unnamed_within-unnamed in
    next_named c.args.counters.now c.args.ids.now c.again-from.result c.loop-count.count within.result (c.again-from.ensures ∙ inv.behind) (within.ensures.next c.if-unnamed-stretch.true)

pub loop-count-preserved : goal.loop-count-preserved
loop-count-preserved c =
    let inv = c.loop-count.invariant in
    let within = c.unnamed_within-unnamed in
    let stretch = c.next_stretch-stretch in
    let same : stretch.result.count ≡ within.result = omega (arith, within.ensures.few, c.if-unnamed-stretch.false) in
    record {
      few = omega (arith, within.ensures.few, stretch.ensures.few, inv.few);
      behind = stretch.ensures.behind ∙ ap (drop stretch.result.count) inv.behind ∙ drop-drop stretch.result.count c.loop-count.count (counters_of c.args.ids.now) ∙ ap (λ m. drop (c.loop-count.count + m) (counters_of c.args.ids.now)) same;
      unnamed = unnamed_further c.args.counters.now (counters_of c.args.ids.now) c.again-from.result c.loop-count.count within.result (c.again-from.ensures ∙ inv.behind) inv.unnamed within.ensures.unnamed;
    }

pub returns-clause-unnamed : goal.returns-clause-unnamed
returns-clause-unnamed c = all_unnamed c.args.counters.now _ c.args.ids.now (omega (arith, c.left-all.ensures)) (λ j h. c.loop-count.invariant.unnamed j (omega (arith, c.loop-count-test.false)))
