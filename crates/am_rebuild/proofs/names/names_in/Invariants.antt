use Rattle.std.proofs.Common.{◌≡◌, take}
use Rattle.am_rebuild.specs.Names.{names_of}
use Rattle.am_rebuild.proofs.names.names_in.Given as goal

abbrev pub invariant-loop-actor : goal.invariant-loop-actor
invariant-loop-actor l = names_of l.names.items ≡ take l.actor-index l.actors
