use Rattle.std.proofs.Common.{◌∷◌, [], Some, get_or, ap, ◌∙◌, sym}
use Rattle.am_types.specs.Views.{value_of}
use Rattle.am_json.proofs.GoodTexts.{one_only, letter_text}
use Rattle.am_json.proofs.scalars.letter_of.Goals as goal

pub returns-in-len1-clause-text : goal.returns-in-len1-clause-text
returns-in-len1-clause-text c =
    let raw = c.args.value.raw.now in
    letter_text (value_of c.args.value) (get_or raw 0 0) c.if-value-eq-TEXT.true (one_only raw 0 c.in-len1.len_at_least c.in-len1.len_below) c.if-byte-lt128.true
    ∙ ap (λ b. Some (b ∷ [])) (sym c.from.ensures)
