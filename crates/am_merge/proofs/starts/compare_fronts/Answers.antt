use Rattle.std.proofs.Common.{◌∙◌, arith, sym, ◌^◌}
use Rattle.std.specs.Ordering.{nat_cmp}
use Rattle.am_places.specs.Numbered.{operation_of}
use Rattle.am_merge.specs.Fronts.{front_at}
use Rattle.am_merge.proofs.Keys.{lower_decides, upper_greater, upper_less}
use Rattle.am_merge.proofs.starts.compare_fronts.Goals as goal

pub returns-in-Less-clause-order : goal.returns-in-Less-clause-order
returns-in-Less-clause-order c =
    sym (upper_less (front_at (operation_of c.a.inside.operation.now)) (front_at (operation_of c.b.inside.operation.now)) (2 ^ 64) c.a.inside.front_high c.b.inside.front_high
    (omega arith) c.a.invariant.1 c.b.invariant.1 (sym c.in-Less.ensures))
    ∙ (λ i. nat_cmp (front_at ((c.a.view_is i).operation)) (front_at ((c.b.view_is i).operation)))

pub returns-in-Equal-clause-order : goal.returns-in-Equal-clause-order
returns-in-Equal-clause-order c =
    c.cmp-in-Equal.ensures
    ∙ lower_decides (front_at (operation_of c.a.inside.operation.now)) (front_at (operation_of c.b.inside.operation.now)) (2 ^ 64) c.a.inside.front_high c.b.inside.front_high c.a.inside.front_low c.b.inside.front_low
    c.a.invariant.1 c.b.invariant.1 (sym c.in-Equal.ensures) c.a.invariant.2 c.b.invariant.2
    ∙ (λ i. nat_cmp (front_at ((c.a.view_is i).operation)) (front_at ((c.b.view_is i).operation)))

pub returns-in-Greater-clause-order : goal.returns-in-Greater-clause-order
returns-in-Greater-clause-order c =
    sym (upper_greater (front_at (operation_of c.a.inside.operation.now)) (front_at (operation_of c.b.inside.operation.now)) (2 ^ 64) c.a.inside.front_high c.b.inside.front_high
    (omega arith) c.a.invariant.1 c.b.invariant.1 (sym c.in-Greater.ensures))
    ∙ (λ i. nat_cmp (front_at ((c.a.view_is i).operation)) (front_at ((c.b.view_is i).operation)))
