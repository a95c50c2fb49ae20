use Rattle.std.proofs.Common.{rules, ap, ◌∙◌, ◌∷◌, FitsSigned, w64}
use Rattle.std.proofs.lemmas.Int.{to_z-of_z}
use Rattle.am_delta.proofs.Sums.{fits_first}
use Rattle.am_delta.proofs.cursor.DeltaCursor.next.Goals as goal

pub sum_of-value-requires : goal.sum_of-value-requires
sum_of-value-requires c =
    let w = fits_first c.self.inside.value c.in-Some-Some.difference c.self.inside.differences c.next.new.self
    (c.in-Some-Some.ensures.next ∙ ap (λ o. o ∷ c.next.new.self) c.in-Some-Some.field-0-is) c.self.invariant in
    let value : FitsSigned w64 c.self.inside.value = search rules in
    let number : FitsSigned w64 c.in-Some-Some.difference = search rules in
    simp to_z-of_z w
