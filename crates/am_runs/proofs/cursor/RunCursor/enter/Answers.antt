use Rattle.std.proofs.Common.{arith, sym, ◌∙◌}
use Rattle.am_runs.specs.Walking.{Place}
use Rattle.am_runs.proofs.Jumping.{step-opened, from_same, entries_same}
use Rattle.am_runs.specs.Positions.{place_of}
use Rattle.am_runs.proofs.cursor.RunCursor.enter.Goals as goal

pub invariant_of-self : goal.invariant_of-self
invariant_of-self g c =
    let p : Place = place_of c.self.inside.at in
    let q : Place = place_of c.in-Some.at in
    from_same _ _ p q (omega arith) (step-opened _ p q (omega arith) (omega arith) c.in-Some.ensures) c.self.invariant

pub returns-else-at-eq0 : goal.returns-else-at-eq0
returns-else-at-eq0 g c =
    let p : Place = place_of c.self.inside.at in
    let q : Place = place_of c.in-Some.at in
    sym (entries_same _ _ p q (omega arith) (step-opened _ p q (omega arith) (omega arith) c.in-Some.ensures)) ∙ c.self.view_is
