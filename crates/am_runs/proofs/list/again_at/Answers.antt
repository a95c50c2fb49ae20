use Rattle.std.proofs.Common.{arith}
use Rattle.am_runs.proofs.Listing.{again_one, again_more, front_spelled_at}
use Rattle.am_runs.proofs.list.again_at.Goals as goal

pub returns-then-pending-eq0 : goal.returns-then-pending-eq0
returns-then-pending-eq0 g c = λ start s. again_one g.K.Item.end_of g.K.Spells.spelling start _ _ _ _ _ c.args.value c.requires.kind c.if-pending-eq0.true c.requires.same c.requires.entry s

pub returns : goal.returns
returns g c = λ start s. again_more g.K.Item.end_of g.K.Spells.spelling start _ _ _ _ _ _ _ _ c.args.value c.requires.kind (omega arith) c.requires.same c.requires.entry c.in_ok-push_header.ensures c.in_ok-spell_all.ensures
    (λ front last run. front_spelled_at g.K.Spells.spelling c.args.values.now c.args.place c.args.pending.count front last (omega (arith, c.requires.inside)) run) s
