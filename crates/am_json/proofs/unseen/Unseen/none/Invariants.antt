use Rattle.std.proofs.Common.{[]}
use Rattle.am_json.proofs.unseen.Unseen.none.Given as goal

abbrev pub ghost-named : goal.ghost-named
ghost-named a = []
