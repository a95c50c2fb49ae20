use Rattle.std.proofs.Common.{◌≡◌, map, take}
use Rattle.am_delivery.specs.Waiting.{member_of}
use Rattle.am_store.specs.History.{line_of}
use Rattle.am_store.proofs.history.lines_of.Given as goal

abbrev pub invariant-loop-entry : goal.invariant-loop-entry
invariant-loop-entry l = l.lines ≡ map (λ e. line_of (member_of e)) (take l.entry-index l.entries)
