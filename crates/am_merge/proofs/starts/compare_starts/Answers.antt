use Rattle.std.proofs.Common.{◌≡◌, ◌∙◌, ap, arith, subst, sym}
use Rattle.am_types.specs.Bytes.{IsBytes}
use Rattle.am_merge.specs.Starts.{Placed, key_at}
use Rattle.am_merge.specs.Walk.{name_in}
use Rattle.am_merge.proofs.Keys.{key_decides, key_decides_after}
use Rattle.am_merge.proofs.starts.compare_starts.Goals as goal

pub returns-then-a-b : goal.returns-then-a-b
returns-then-a-b c =
    let x : c.a.inside.key ≡ key_at c.args.a.now.operation = c.a.invariant.0 ∙ ap (λ p. key_at p.operation) c.a.view_is in
    let y : c.b.inside.key ≡ key_at c.args.b.now.operation = c.b.invariant.0 ∙ ap (λ p. key_at p.operation) c.b.view_is in
    sym (key_decides c.args.a.now.operation c.args.b.now.operation
    (subst (λ (p : Placed). IsBytes (name_in p.operation.op.key)) c.a.view_is c.a.invariant.3)
    (subst (λ (p : Placed). IsBytes (name_in p.operation.op.key)) c.b.view_is c.b.invariant.3)
    (omega (arith, x, y, c.if-a-b.true)))

pub returns-then-b-a : goal.returns-then-b-a
returns-then-b-a c =
    let x : c.a.inside.key ≡ key_at c.args.a.now.operation = c.a.invariant.0 ∙ ap (λ p. key_at p.operation) c.a.view_is in
    let y : c.b.inside.key ≡ key_at c.args.b.now.operation = c.b.invariant.0 ∙ ap (λ p. key_at p.operation) c.b.view_is in
    sym (key_decides_after c.args.a.now.operation c.args.b.now.operation
    (subst (λ (p : Placed). IsBytes (name_in p.operation.op.key)) c.a.view_is c.a.invariant.3)
    (subst (λ (p : Placed). IsBytes (name_in p.operation.op.key)) c.b.view_is c.b.invariant.3)
    (omega (arith, x, y, c.if-b-a.true)))

pub compare_tied-requires-clause-key : goal.compare_tied-requires-clause-key
compare_tied-requires-clause-key c =
    let x : c.a.inside.key ≡ key_at c.args.a.now.operation = c.a.invariant.0 ∙ ap (λ p. key_at p.operation) c.a.view_is in
    let y : c.b.inside.key ≡ key_at c.args.b.now.operation = c.b.invariant.0 ∙ ap (λ p. key_at p.operation) c.b.view_is in
    omega (arith, x, y, c.if-a-b.false, c.if-b-a.false)

pub compare_tied-requires-clause-bytes : goal.compare_tied-requires-clause-bytes
compare_tied-requires-clause-bytes c = (
  subst (λ (p : Placed). IsBytes (name_in p.operation.op.key)) c.a.view_is c.a.invariant.3,
  subst (λ (p : Placed). IsBytes (name_in p.operation.op.key)) c.b.view_is c.b.invariant.3,
)
