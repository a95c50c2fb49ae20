use Rattle.std.proofs.Common.{arith}
use Rattle.std.proofs.lemmas.Grind.{common_steps}
use Rattle.am_runs.proofs.Taken.{take_one, take_repeat, take_nulls}
use Rattle.am_runs.specs.Positions.{place_of}
use Rattle.am_runs.proofs.taking.taken_within.Goals as goal

pub returns-in-Some-clause-found : goal.returns-in-Some-clause-found
returns-in-Some-clause-found g c = (omega arith, omega arith, take_one _ _ _ c.in-Some.ensures)

pub returns-in-Repeat-clause-found : goal.returns-in-Repeat-clause-found
returns-in-Repeat-clause-found g c = (
  grind (arith, common_steps),
  grind (arith, common_steps),
  take_repeat _ (place_of c.args.at) _ c.in-Repeat.is (grind (arith, common_steps)),
)

pub returns-in-Nulls-clause-found : goal.returns-in-Nulls-clause-found
returns-in-Nulls-clause-found g c = (
  grind (arith, common_steps),
  grind (arith, common_steps),
  take_nulls _ (place_of c.args.at) _ c.in-Nulls.is (grind (arith, common_steps)),
)
