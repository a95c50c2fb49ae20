use Rattle.std.proofs.Common.{arith}
use Rattle.std.proofs.lemmas.Grind.{common_steps}
use Rattle.std.proofs.lemmas.List.{nil_from_length}
use Rattle.am_runs.proofs.Onward.{goes_on, at_end, from_start, to_start, next_shorter, next_preserved}
use Rattle.am_runs.proofs.judge.is_canonical.Goals as goal

pub returns-in-None : goal.returns-in-None
returns-in-None g c = (
  λ e. absurd (cc),
  λ w. absurd (goes_on _ _ _ _ _ (grind (arith, common_steps)) (c.loop-rest.invariant.1 (to_start _ _ _ (grind (arith, common_steps)) w)) c.in-None.ensures.none),
)

pub loop-rest-smaller : goal.loop-rest-smaller
loop-rest-smaller g c = next_shorter _ _ _ _ _ c.in-Some.ensures.found

pub loop-rest-preserved : goal.loop-rest-preserved
loop-rest-preserved g c = next_preserved _ g.met.K.Item.reads _ _ _ _ _ _ c.in-Some.ensures.found c.or_item-seen.ensures c.loop-rest.invariant

pub returns : goal.returns
returns g c =
    let w = at_end _ _ _ _ _ (nil_from_length _ (grind (arith, common_steps))) in (
      λ e. from_start _ _ _ (c.loop-rest.invariant.0 (w.1 e)),
      λ l. w.0 (c.loop-rest.invariant.1 (to_start _ _ _ (grind (arith, common_steps)) l)),
    )
