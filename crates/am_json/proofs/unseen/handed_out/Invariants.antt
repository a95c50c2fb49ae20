use Rattle.am_json.specs.Turns.{between}
use Rattle.am_json.proofs.unseen.handed_out.Given as goal

abbrev pub ghost-named_of : goal.ghost-named_of
ghost-named_of g a = between (g.S.EntrySource.entries a.before.now.value) (g.S.EntrySource.entries a.after.now)
