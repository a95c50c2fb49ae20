use Rattle.std.proofs.Common.{◌≡◌, drop, map}
use Rattle.am_opcols.proofs.canonical.are_listed.Given as goal

abbrev pub invariant-loop-actor : goal.invariant-loop-actor
invariant-loop-actor l =
    (l.rest ≡ map (λ a. a.now) (drop l.actor-index l.actors) → l.listed ≡ map (λ a. a.now) l.actors)
    × (l.listed ≡ map (λ a. a.now) l.actors → l.rest ≡ map (λ a. a.now) (drop l.actor-index l.actors))
