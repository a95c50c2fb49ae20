use Rattle.std.proofs.Common.{◌≡◌, ◌++◌, All, map, take}
use Rattle.am_fields.specs.Limits.{IsShortActor}
use Rattle.am_merge.proofs.actors.push_authors.Given as goal

abbrev pub invariant-loop-i : goal.invariant-loop-i
invariant-loop-i l = record {
  names : map (λ a. a.now) l.names.items ≡ map (λ a. a.now) l.fn.names.items ++ map (λ c. c.now.actor) (take l.i l.added);
  short : All (λ c. IsShortActor c.now.actor) (take l.i l.added);
}
