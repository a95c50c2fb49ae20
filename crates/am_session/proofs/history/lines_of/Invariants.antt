use Rattle.std.proofs.Common.{◌≡◌, take}
use Rattle.std.specs.Prelude.{flat_map}
use Rattle.am_session.specs.History.{history_line}
use Rattle.am_session.proofs.history.lines_of.Given as goal

abbrev pub invariant-loop-line : goal.invariant-loop-line
invariant-loop-line l = l.lines ≡ flat_map history_line (take l.line-index l.all)
