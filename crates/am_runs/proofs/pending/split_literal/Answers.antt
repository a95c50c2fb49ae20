use Rattle.std.proofs.Common.{arith}
use Rattle.am_runs.proofs.Arms.{split_one_at, split_more_at}
use Rattle.am_runs.proofs.pending.split_literal.Goals as goal

pub returns-then-p-eq0 : goal.returns-then-p-eq0
returns-then-p-eq0 g c = λ list h. split_one_at _ _ _ _ _ _ list c.requires.kind c.if-p-eq0.true h

pub returns : goal.returns
returns g c = λ list h. split_more_at _ _ _ _ _ _ _ _ _ list c.requires.kind (omega arith) c.in_ok-push_header.ensures c.in_ok-extend_from_slice.ensures.items c.front.ensures h
