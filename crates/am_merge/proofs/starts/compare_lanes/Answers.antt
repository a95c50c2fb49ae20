use Rattle.std.proofs.Common.{◌∙◌}
use Rattle.std.specs.Ordering.{nat_cmp}
use Rattle.am_merge.specs.Walk.{lane_of}
use Rattle.am_merge.proofs.starts.compare_lanes.Goals as goal

pub returns : goal.returns
returns c =
    c.cmp.ensures
    ∙ (λ i. nat_cmp (c.a.invariant.4 i) (c.b.invariant.4 i))
    ∙ (λ i. nat_cmp (lane_of (c.a.view_is i).operation.op.insert (c.a.view_is i).operation.op.key) (lane_of (c.b.view_is i).operation.op.insert (c.b.view_is i).operation.op.key))
