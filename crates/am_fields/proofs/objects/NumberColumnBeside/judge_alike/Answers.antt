use Rattle.std.proofs.Common.{◌∙◌, Option, ℕ, not, refl, sym, ap, arith}
use Rattle.std.specs.Prelude.{is_some, IsSome, replicate}
use Rattle.std.proofs.lemmas.List.{length-replicate}
use Rattle.am_types.specs.Views.{object_of}
use Rattle.am_fields.specs.Fields.{object_at as object_there}
use Rattle.am_fields.proofs.Judging.{judged_none, judged_more, judged_next, judged_all, all_copies, copy_of_all, same_some}
use Rattle.am_fields.proofs.objects.NumberColumnBeside.judge_alike.Goals as goal

pub loop-left-init : goal.loop-left-init
loop-left-init c = (refl, judged_none (λ cell. IsSome (object_there c.args.actors.now c.args.place cell)) c.args.n c.args.self.now c.requires)

pub loop-left-preserved : goal.loop-left-preserved
loop-left-preserved c =
    let inv = c.loop-left.invariant in
    let next = c.next_alike_within-counter in
    let P : Option ℕ → Type 0 = λ cell. IsSome (object_there c.args.actors.now c.args.place cell) in
    let row = same_some object_of c.object_at.result _ c.object_at.ensures.object in
    let some = ap (λ a. is_some (object_there a c.args.place next.result.0)) (sym inv.0) ∙ row ∙ (c.is_none.ensures ∙ ap not c.if-is_none.false) in
    (c.object_at.ensures.same ∙ inv.0, judged_more P _ _ _ next.result.1 (replicate next.result.1 next.result.0) _ _ inv.1 next.ensures.next (length-replicate next.result.1 next.result.0) next.ensures.few (all_copies P next.result.0 next.result.1 some))

pub returns-then-is_none-clause-same : goal.returns-then-is_none-clause-same
returns-then-is_none-clause-same c = c.object_at.ensures.same ∙ c.loop-left.invariant.0

pub returns-then-is_none-clause-read : goal.returns-then-is_none-clause-read
returns-then-is_none-clause-read c =
    let inv = c.loop-left.invariant in
    let next = c.next_alike_within-counter in
    let P : Option ℕ → Type 0 = λ cell. IsSome (object_there c.args.actors.now c.args.place cell) in
    let row = same_some object_of c.object_at.result _ c.object_at.ensures.object in
    let missing = ap (λ a. is_some (object_there a c.args.place next.result.0)) (sym inv.0) ∙ row ∙ (c.is_none.ensures ∙ ap not c.if-is_none.true) in
    (λ e. absurd (cc), λ all. sym missing ∙ copy_of_all P next.result.0 next.result.1 next.ensures.some (judged_next P _ _ _ next.result.1 (replicate next.result.1 next.result.0) _ _ inv.1 next.ensures.next (length-replicate next.result.1 next.result.0) next.ensures.few all))

pub returns-clause-read : goal.returns-clause-read
returns-clause-read c = (λ e. (judged_all _ _ _ _ _ c.loop-left.invariant.1 (omega arith)).0, λ all. refl)

pub returns-clause-behind : goal.returns-clause-behind
returns-clause-behind c = λ e. (judged_all _ _ _ _ _ c.loop-left.invariant.1 (omega arith)).1
