use Rattle.std.proofs.Common.{◌∙◌, sym, subst, arith, Contains, below_more}
use Rattle.am_fields.proofs.Lists.{drop_next}
use Rattle.am_fields.proofs.Stretches.{item_behind}
use Rattle.am_doccols.proofs.unnamed.unnamed_one_by_one.Goals as goal

pub loop-passed-preserved : goal.loop-passed-preserved
loop-passed-preserved c =
    let inv = c.loop-passed.invariant in
    let e = sym inv.behind ∙ c.next.ensures in
    record {
      few = omega (arith, c.loop-passed-test.true);
      behind = drop_next c.loop-passed.passed c.args.numbers.now c.next.new.self c.next.result e;
      unnamed = below_more _ _ inv.unnamed (λ named. c.is_among.ensures.none c.if-is_among.false (subst (Contains c.args.counters.now) (sym (item_behind c.loop-passed.passed c.args.numbers.now c.next.new.self c.next.result e)) named));
    }

pub returns-clause-unnamed : goal.returns-clause-unnamed
returns-clause-unnamed c = λ j h. c.loop-passed.invariant.unnamed j (omega (arith, c.loop-passed-test.false))
