use Rattle.std.proofs.Common.{◌≡◌, ◌++◌, take}
use Rattle.std.specs.List.{flat_map}
use Rattle.am_colmeta.specs.Actors.{prefixed}
use Rattle.am_change.proofs.write.push_actors.Given as goal

abbrev pub invariant-loop-actor : goal.invariant-loop-actor
invariant-loop-actor l = l.out.items ≡ l.initial.out.items ++ flat_map prefixed (take l.actor-index l.actors)
