use Rattle.std.proofs.Common.{◌∙◌, ap, sym}
use Rattle.am_types.specs.Order.{bytes_cmp}
use Rattle.am_places.specs.Numbered.{operation_of}
use Rattle.am_merge.specs.Fronts.{front_at}
use Rattle.am_merge.specs.Walk.{name_in}
use Rattle.am_merge.proofs.Fronts.{ends_alike}
use Rattle.am_merge.proofs.starts.compare_ends.Goals as goal

pub returns-then-b-le-WIDTH : goal.returns-then-b-le-WIDTH
returns-then-b-le-WIDTH c =
    c.cmp.ensures
    ∙ ends_alike (name_in (operation_of c.a.inside.operation.now).op.key) (name_in (operation_of c.b.inside.operation.now).op.key) c.a.inside.bytes c.b.inside.bytes c.a.invariant.3 c.b.invariant.3
    (ap (λ p. front_at p.operation) c.a.view_is ∙ c.requires ∙ sym (ap (λ p. front_at p.operation) c.b.view_is)) c.a.invariant.6 c.b.invariant.6 c.if-a-le-WIDTH.true c.if-b-le-WIDTH.true
    ∙ (λ i. bytes_cmp (name_in (c.a.view_is i).operation.op.key) (name_in (c.b.view_is i).operation.op.key))
