use Rattle.std.proofs.Common.{arith}
use Rattle.am_runs.proofs.Listing.{run_as, literal_at_least, closes_repeat, closes_literal}
use Rattle.am_runs.specs.declared.pending.PendingKind.TheVariants as pending
use Rattle.am_runs.proofs.list.close_at.Goals as goal

pub overflow_sub-start : goal.overflow_sub-start
overflow_sub-start g c =
    let run = c.requires.run in
    omega (arith, literal_at_least g.K.Spells.spelling c.args.values.now c.args.place c.args.pending.count run.0 run.1 c.requires.inside (run_as g.K.Spells.spelling c.args.values.now c.args.place c.args.pending.count c.args.pending.kind pending.Literal run.0 run.1 c.in-Literal.is run.2))

pub overflow_sub-start-in-Literal : goal.overflow_sub-start-in-Literal
overflow_sub-start-in-Literal g c =
    let run = c.requires.run in
    omega (arith, literal_at_least g.K.Spells.spelling c.args.values.now c.args.place c.args.pending.count run.0 run.1 c.requires.inside (run_as g.K.Spells.spelling c.args.values.now c.args.place c.args.pending.count c.args.pending.kind pending.Literal run.0 run.1 c.in-Literal.is run.2))

pub returns-in_ok-push_header-in-Repeat : goal.returns-in_ok-push_header-in-Repeat
returns-in_ok-push_header-in-Repeat g c = closes_repeat c.spell_all.result g.K.Spells.spelling _ _ _ _ _ _ _ c.in-Repeat.is c.requires.inside c.in_ok-push_header-in-Repeat.ensures c.spell_all.ensures

pub returns-in_ok-push_header-in-Literal : goal.returns-in_ok-push_header-in-Literal
returns-in_ok-push_header-in-Literal g c = closes_literal c.spell_all-in-Literal.result g.K.Spells.spelling _ _ _ _ _ _ _ c.in-Literal.is c.requires.inside c.in_ok-push_header-in-Literal.ensures c.spell_all-in-Literal.ensures
