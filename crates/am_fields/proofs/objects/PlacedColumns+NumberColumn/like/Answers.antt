use Rattle.std.proofs.Common.{◌≡◌, ◌++◌, ◌∙◌, Option, Some, None, option_map, replicate, take, ap, sym, subst, arith}
use Rattle.std.specs.Prelude.{IsSome}
use Rattle.am_types.specs.declared.ObjId.{ObjId}
use Rattle.am_types.specs.Views.{object_of}
use Rattle.am_fields.specs.Fields.{object_at as object_there}
use Rattle.am_fields.proofs.Alike.{take_alike, rows_alike, first_read, not_none, length_alike}
use Rattle.am_fields.proofs.objects.PlacedColumns+NumberColumn.like.Goals as goal

pub unreachable-requires : goal.unreachable-requires
unreachable-requires c =
    let at = c.self.inside in
    let xs : at.actor ≡ replicate c.next_alike_within-place.result.1 c.next_alike_within-place.result.0 ++ c.next_alike_within-place.new.self = sym c.again.ensures ∙ c.next_alike_within-place.ensures.next in
    let ys : at.beside ≡ replicate c.next_alike_within-counter.result.1 c.next_alike_within-counter.result.0 ++ c.next_alike_within-counter.new.self = sym c.again-2.ensures ∙ c.next_alike_within-counter.ensures.next in
    let some = first_read (object_there at.actors) _ _ _ _ _ _ at.actor at.beside xs ys c.next_alike_within-place.ensures.some c.next_alike_within-counter.ensures.some c.self.invariant in
    let is : object_there at.actors c.next_alike_within-place.result.0 c.next_alike_within-counter.result.0 ≡ None = sym c.object_at.ensures.object ∙ ap (option_map object_of) c.in-None.is in
    absurd (not_none ObjId (subst (λ (o : Option ObjId). IsSome o) is some))

pub invariant_of-self : goal.invariant_of-self
invariant_of-self c = rw c.object_at.ensures.same c.self.invariant

pub returns-clause-same : goal.returns-clause-same
returns-clause-same c = rw c.object_at.ensures.same c.self.view_is

pub returns-clause-few : goal.returns-clause-few
returns-clause-few c =
    let at = c.self.inside in
    let k = c.min.result in
    let xs : at.actor ≡ replicate c.next_alike_within-place.result.1 c.next_alike_within-place.result.0 ++ c.next_alike_within-place.new.self = sym c.again.ensures ∙ c.next_alike_within-place.ensures.next in
    let ys : at.beside ≡ replicate c.next_alike_within-counter.result.1 c.next_alike_within-counter.result.0 ++ c.next_alike_within-counter.new.self = sym c.again-2.ensures ∙ c.next_alike_within-counter.ensures.next in
    let is : object_there at.actors c.next_alike_within-place.result.0 c.next_alike_within-counter.result.0 ≡ Some (object_of c.in-Some.object) = sym c.object_at.ensures.object ∙ ap (option_map object_of) c.in-Some.is in
    let left : take k at.actor ≡ replicate k c.next_alike_within-place.result.0 = ap (take k) xs ∙ take_alike k c.next_alike_within-place.result.1 _ _ (omega arith) in
    let right : take k at.beside ≡ replicate k c.next_alike_within-counter.result.0 = ap (take k) ys ∙ take_alike k c.next_alike_within-counter.result.1 _ _ (omega arith) in
    length_alike k (object_of c.in-Some.object) _ c.args.self.now (sym c.self.view_is ∙ rows_alike (object_there at.actors) _ _ (object_of c.in-Some.object) is k at.actor at.beside left right)

pub returns-clause-like : goal.returns-clause-like
returns-clause-like c =
    let at = c.self.inside in
    let k = c.min.result in
    let xs : at.actor ≡ replicate c.next_alike_within-place.result.1 c.next_alike_within-place.result.0 ++ c.next_alike_within-place.new.self = sym c.again.ensures ∙ c.next_alike_within-place.ensures.next in
    let ys : at.beside ≡ replicate c.next_alike_within-counter.result.1 c.next_alike_within-counter.result.0 ++ c.next_alike_within-counter.new.self = sym c.again-2.ensures ∙ c.next_alike_within-counter.ensures.next in
    let is : object_there at.actors c.next_alike_within-place.result.0 c.next_alike_within-counter.result.0 ≡ Some (object_of c.in-Some.object) = sym c.object_at.ensures.object ∙ ap (option_map object_of) c.in-Some.is in
    let left : take k at.actor ≡ replicate k c.next_alike_within-place.result.0 = ap (take k) xs ∙ take_alike k c.next_alike_within-place.result.1 _ _ (omega arith) in
    let right : take k at.beside ≡ replicate k c.next_alike_within-counter.result.0 = ap (take k) ys ∙ take_alike k c.next_alike_within-counter.result.1 _ _ (omega arith) in
    ap (take k) (sym c.self.view_is ∙ rows_alike (object_there at.actors) _ _ (object_of c.in-Some.object) is k at.actor at.beside left right) ∙ take_alike k k (object_of c.in-Some.object) _ (omega arith)
