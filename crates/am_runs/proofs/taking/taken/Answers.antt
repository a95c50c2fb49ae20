use Rattle.std.proofs.Common.{arith}
use Rattle.std.specs.Option.{option_copied}
use Rattle.am_runs.specs.Walking.{Place}
use Rattle.am_runs.proofs.Jumping.{step-opened}
use Rattle.am_runs.proofs.Taken.{taken_same}
use Rattle.am_runs.specs.Positions.{place_of}
use Rattle.am_runs.proofs.taking.taken.Goals as goal

pub returns-then-within-gt0-clause-found : goal.returns-then-within-gt0-clause-found
returns-then-within-gt0-clause-found g c =
    let p : Place = place_of c.args.at in
    let q : Place = place_of c.in-Some.within in
    taken_same _ p q c.args.most (step-opened _ p q (omega arith) (omega arith) c.in-Some.ensures) _ (λ r. option_copied r.0) (λ r. r.1) (λ r. place_of r.2) c.taken_within-then-within-gt0.ensures.found
