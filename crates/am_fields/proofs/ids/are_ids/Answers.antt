use Rattle.std.proofs.Common.{◌≡◌, ◌∙◌, Option, ℤ, not, refl, sym, ap, subst, arith}
use Rattle.std.specs.Prelude.{IsSome}
use Rattle.std.specs.List.{AllByRecursion}
use Rattle.am_types.specs.Views.{id_of}
use Rattle.am_delta.specs.Deltas.{stretch}
use Rattle.am_fields.specs.Fields.{id_at as id_there}
use Rattle.am_fields.proofs.Judging.{same_some}
use Rattle.am_fields.proofs.CountersRead.{alone, first_of_all, ids_end, ids_by, ids_within}
use Rattle.am_fields.proofs.ids.are_ids.Goals as goal

pub returns-then-is_none-clause-read : goal.returns-then-is_none-clause-read
returns-then-is_none-clause-read c =
    let row = same_some id_of c.id_at.result _ c.id_at.ensures.id in
    let missing = c.is_none.ensures ∙ ap not c.if-is_none.true in
    (λ e. absurd (cc), λ all. sym missing ∙ sym row ∙ first_of_all (λ y. IsSome (id_there c.args.actors.now c.args.place y)) c.args.first c.args.difference c.args.count c.requires all)

pub returns-then-count-eq1-clause-read : goal.returns-then-count-eq1-clause-read
returns-then-count-eq1-clause-read c =
    let some = same_some id_of c.id_at.result _ c.id_at.ensures.id ∙ (c.is_none.ensures ∙ ap not c.if-is_none.false) in
    let P : Option ℤ → Type 0 = λ y. IsSome (id_there c.args.actors.now c.args.place y) in
    let one : 1 ≡ c.args.count = omega arith in
    (λ e. subst (λ k. AllByRecursion P (stretch c.args.first c.args.difference k)) one (alone P c.args.first c.args.difference some), λ all. refl)

pub returns-then-is_none-2-clause-read : goal.returns-then-is_none-2-clause-read
returns-then-is_none-2-clause-read c =
    let some = same_some id_of c.id_at.result _ c.id_at.ensures.id ∙ (c.is_none.ensures ∙ ap not c.if-is_none.false) in
    let none = c.is_none-2.ensures ∙ ap not c.if-is_none-2.true in
    (λ e. absurd (cc), λ all. absurd (ids_end c.args.actors.now c.args.place c.args.first c.args.difference c.args.count some none (omega (arith, c.requires, c.if-count-eq1.false)) all))

pub returns-clause-read : goal.returns-clause-read
returns-clause-read c =
    let some = same_some id_of c.id_at.result _ c.id_at.ensures.id ∙ (c.is_none.ensures ∙ ap not c.if-is_none.false) in
    let risen = c.is_none-2.ensures ∙ ap not c.if-is_none-2.false in
    let between = c.is_stretch_between.ensures in (
      λ e. ids_by c.args.actors.now c.args.place c.args.first c.args.difference c.args.count some risen (between.0 e),
      λ all. between.1 (ids_within c.args.actors.now c.args.place c.args.first c.args.difference c.args.count some risen all),
    )
