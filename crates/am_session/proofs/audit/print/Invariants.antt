use Rattle.std.proofs.Common.{◌≡◌, take, false}
use Rattle.am_json.specs.declared.Form.TheVariants.{Winners}
use Rattle.am_session.proofs.audit.print.Given as goal

abbrev pub invariant-loop-entry : goal.invariant-loop-entry
invariant-loop-entry l = l.maker ≡ record { form = Winners; entries = take l.entry-index l.entries; failed = false }
