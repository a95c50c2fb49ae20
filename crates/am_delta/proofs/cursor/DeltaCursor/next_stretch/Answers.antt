use Rattle.std.proofs.Common.{rules, sym, ◌∙◌, FitsSigned, w64}
use Rattle.std.proofs.lemmas.Int.{to_z-of_z}
use Rattle.am_delta.proofs.Steps.{fit_behind_nulls, nulls_shown, fits_at_end, fit_behind_steps, steps_shown}
use Rattle.am_delta.proofs.cursor.DeltaCursor.next_stretch.Goals as goal

pub invariant_of-self-in-Some-None-default : goal.invariant_of-self-in-Some-None-default
invariant_of-self-in-Some-None-default c =
    let arm = c.in-Some-None-default in
    fit_behind_nulls c.self.inside.value _ arm.count c.self.inside.differences c.next_alike_within.new.self arm.field-0-0-is arm.ensures.next.2 c.self.invariant

pub value_after-self-inside-requires : goal.value_after-self-inside-requires
value_after-self-inside-requires c =
    let arm = c.in-Some-Some-default in
    let value : FitsSigned w64 c.self.inside.value = search rules in
    let difference : FitsSigned w64 arm.difference = search rules in
    let first : FitsSigned w64 c.sum_of-first.result = search rules in
    let sum = simp to_z-of_z at c.sum_of-first.ensures in
    let w = fits_at_end c.self.inside.value arm.difference c.sum_of-first.result _ arm.count c.self.inside.differences c.next_alike_within.new.self arm.field-0-0-is arm.ensures.next.0 sum arm.ensures.next.2 c.self.invariant in
    simp to_z-of_z w

pub invariant_of-self-in-Some-Some-default : goal.invariant_of-self-in-Some-Some-default
invariant_of-self-in-Some-Some-default c =
    let arm = c.in-Some-Some-default in
    let value : FitsSigned w64 c.self.inside.value = search rules in
    let difference : FitsSigned w64 arm.difference = search rules in
    let first : FitsSigned w64 c.sum_of-first.result = search rules in
    let last : FitsSigned w64 c.value_after-self-inside.result = search rules in
    let sum = simp to_z-of_z at c.sum_of-first.ensures in
    let end = simp to_z-of_z at c.value_after-self-inside.ensures in
    let w = fit_behind_steps c.self.inside.value arm.difference c.sum_of-first.result c.value_after-self-inside.result _ arm.count c.self.inside.differences c.next_alike_within.new.self arm.field-0-0-is arm.ensures.next.0 sum end arm.ensures.next.2 c.self.invariant in
    simp to_z-of_z w

pub returns-in-Some-None-default-clause-next : goal.returns-in-Some-None-default-clause-next
returns-in-Some-None-default-clause-next c =
    let arm = c.in-Some-None-default in
    let next = arm.ensures.next in
    (next.0, next.1, λ e. e, sym c.self.view_is ∙ nulls_shown c.self.inside.value _ arm.count c.self.inside.differences c.next_alike_within.new.self arm.field-0-0-is next.2)

pub returns-in-Some-Some-default-clause-next : goal.returns-in-Some-Some-default-clause-next
returns-in-Some-Some-default-clause-next c =
    let arm = c.in-Some-Some-default in
    let next = arm.ensures.next in
    let value : FitsSigned w64 c.self.inside.value = search rules in
    let difference : FitsSigned w64 arm.difference = search rules in
    let first : FitsSigned w64 c.sum_of-first.result = search rules in
    let last : FitsSigned w64 c.value_after-self-inside.result = search rules in
    let sum = simp to_z-of_z at c.sum_of-first.ensures in
    let end = simp to_z-of_z at c.value_after-self-inside.ensures in
    let w = sym c.self.view_is ∙ steps_shown c.self.inside.value arm.difference c.sum_of-first.result c.value_after-self-inside.result _ arm.count c.self.inside.differences c.next_alike_within.new.self arm.field-0-0-is next.0 sum end next.2 in
    (next.0, next.1, λ e. absurd (cc), simp to_z-of_z w)
