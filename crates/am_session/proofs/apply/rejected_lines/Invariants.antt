use Rattle.std.proofs.Common.{◌≡◌, take, string_bytes}
use Rattle.std.specs.Prelude.{flat_map}
use Rattle.am_session.specs.Apply.{rejected_line}
use Rattle.am_session.proofs.apply.rejected_lines.Given as goal

abbrev pub invariant-loop-one : goal.invariant-loop-one
invariant-loop-one l = string_bytes l.lines ≡ flat_map rejected_line (take l.one-index l.rejected)
