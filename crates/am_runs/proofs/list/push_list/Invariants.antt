use Rattle.std.proofs.Common.{}
use Rattle.am_runs.specs.Listing.{Stands}
use Rattle.am_runs.proofs.list.push_list.Given as goal

abbrev pub invariant-loop-place : goal.invariant-loop-place
invariant-loop-place g l = Stands g.K.Item.end_of g.K.Spells.spelling l.initial.out.items l.out.items l.values l.place l.pending.kind l.pending.count
