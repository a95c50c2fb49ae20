use Rattle.std.proofs.Common.{Bor, ℕ, List, length, drop, arith, sym, ap, ◌∙◌}
use Rattle.std.proofs.lemmas.List.{length-map, length-drop}
use Rattle.am_opcols.proofs.canonical.are_listed.Goals as goal

pub returns-in_default : goal.returns-in_default
returns-in_default c =
    let left = drop c.loop-actor.actor-index c.args.actors.now in (
      λ e. absurd (cc),
      λ e.
          let none = ap length (sym (c.loop-actor.invariant.1 e) ∙ c.in_default.ensures.end.0) in
          absurd (omega (arith, none, length-map left (λ (a : Bor (List ℕ)). a.now), length-drop c.loop-actor.actor-index c.args.actors.now, c.loop-actor-test.true)),
    )
