use Rattle.std.proofs.Common.{◌∙◌, sym, arith}
use Rattle.am_types.specs.Views.{object_of}
use Rattle.am_view.proofs.Scanned.{alike_behind}
use Rattle.am_view.proofs.objects.Objects.next.Goals as goal

pub returns-then-self : goal.returns-then-self
returns-then-self c =
    let at = c.self.inside in
    sym c.self.view_is ∙ alike_behind at.passed at.alike (object_of at.object) at.columns c.self.invariant.2 c.if-self.true

pub returns : goal.returns
returns c =
    let at = c.self.inside in
    sym c.self.view_is ∙ sym c.skip.ensures ∙ sym c.like-alike.ensures.same ∙ alike_behind 0 c.like-alike.result.1 (object_of c.like-alike.result.0) c.like-alike.new.self (rw c.like-alike.ensures.same c.like-alike.ensures.like) (omega (arith, c.like-alike.ensures.some))
