use Rattle.std.proofs.Common.{◌≡◌, ◌∙◌, ap, arith, sym}
use Rattle.am_types.proofs.Orders.{same_bytes-true}
use Rattle.am_merge.specs.Fronts.{is_root}
use Rattle.am_merge.specs.Starts.{actor_in, key_at}
use Rattle.am_merge.proofs.Keys.{tied_in_object}
use Rattle.am_merge.proofs.starts.compare_objects_of.Goals as goal

pub returns-then-same_actor : goal.returns-then-same_actor
returns-then-same_actor c =
    let x : c.a.inside.key ≡ key_at c.args.a.now.operation = c.a.invariant.0 ∙ ap (λ p. key_at p.operation) c.a.view_is in
    sym (tied_in_object c.args.a.now.operation c.args.b.now.operation
    (ap (λ p. is_root p.operation.op.obj) (sym c.a.view_is) ∙ sym c.a.invariant.5 ∙ c.if-not-a.true)
    (ap (λ p. is_root p.operation.op.obj) (sym c.b.view_is) ∙ sym c.b.invariant.5 ∙ c.if-not-b.true)
    c.requires
    (omega (arith, x, c.if-a-lt-GREATEST_KEY.true))
    (ap (λ p. actor_in p.operation.op.obj) (sym c.a.view_is) ∙ sym c.a.invariant.7
    ∙ same_bytes-true c.a.inside.object_actor.now c.b.inside.object_actor.now (sym c.same_actor.ensures ∙ c.if-same_actor.true)
    ∙ c.b.invariant.7 ∙ ap (λ p. actor_in p.operation.op.obj) c.b.view_is))
