use Rattle.std.proofs.Common.{◌∙◌, ◌++◌, Some, map, sym, ap, subst, drop}
use Rattle.am_values.specs.Cutting.{AreCut, values_from}
use Rattle.am_values.specs.Letters.{letter, AreAscii}
use Rattle.am_values.proofs.CutLetters.{cut_letters}
use Rattle.am_values.proofs.cursor.ValueCursor.next_letters.Goals as goal

pub invariant_of-self : goal.invariant_of-self
invariant_of-self c =
    let k = c.letters_ahead-count.result in
    let w = cut_letters k c.self.inside.numbers c.self.inside.raw.now c.letters_ahead-count.ensures.letters c.self.invariant in
    subst (λ l. AreCut l c.cut.result.1.now) (sym c.skip.ensures) (subst (AreCut (drop k c.self.inside.numbers)) (sym c.cut.ensures.back) w.behind)

pub returns-clause-ascii : goal.returns-clause-ascii
returns-clause-ascii c =
    let w = cut_letters c.letters_ahead-count.result c.self.inside.numbers c.self.inside.raw.now c.letters_ahead-count.ensures.letters c.self.invariant in
    subst AreAscii (sym c.cut.ensures.front) w.ascii

pub returns-clause-next : goal.returns-clause-next
returns-clause-next c =
    let k = c.letters_ahead-count.result in
    let w = cut_letters k c.self.inside.numbers c.self.inside.raw.now c.letters_ahead-count.ensures.letters c.self.invariant in
    sym c.self.view_is ∙ w.letters
    ∙ ap (λ bs. map (λ b. Some (letter b)) bs ++ values_from (drop k c.self.inside.numbers) (drop k c.self.inside.raw.now)) (sym c.cut.ensures.front)
    ∙ ap (λ l. map (λ b. Some (letter b)) c.cut.result.0.now ++ values_from l (drop k c.self.inside.raw.now)) (sym c.skip.ensures)
    ∙ ap (λ l. map (λ b. Some (letter b)) c.cut.result.0.now ++ values_from c.skip.new.self l) (sym c.cut.ensures.back)
