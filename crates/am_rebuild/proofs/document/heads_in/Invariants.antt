use Rattle.std.proofs.Common.{◌≡◌, take}
use Rattle.am_rebuild.proofs.document.heads_in.Given as goal

abbrev pub invariant-loop-i : goal.invariant-loop-i
invariant-loop-i l = l.heads ≡ take l.i l.doc.heads
