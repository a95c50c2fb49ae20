use Rattle.std.proofs.Common.{◌≡◌, take, false}
use Rattle.am_text_tests.proofs.json.lent_text_of.Given as goal

abbrev pub invariant-loop-entry : goal.invariant-loop-entry
invariant-loop-entry l = l.maker ≡ record { form = l.fn.form; entries = take l.entry-index l.entries; failed = false }
