use Rattle.std.proofs.Common.{◌≡◌, ◌∙◌, ◌<◌, List, Some, ap, get_or, length, slice_get, subst, sym}
use Rattle.am_graph.proofs.Numbering.{text_at}
use Rattle.am_graph.proofs.TextMaps.{Text}
use Rattle.am_graph.proofs.numbered_texts.NumberedTexts.text.Goals as goal

pub returns-in-Some : goal.returns-in-Some
returns-in-Some c =
    let at = c.in-Some.ensures.lookup.3 in
    let texts = c.deref.ensures.value in
    ap Some c.as_slice.ensures.value
    ∙ sym (text_at c.self.inside.texts.items c.args.number c.in-Some.text.now
    (subst (λ (l : List Text). c.args.number < length l) texts at.0)
    (subst (λ (l : List Text). (d : Text) → c.in-Some.text.now ≡ get_or l c.args.number d) texts at.1))
    ∙ ap (λ ts. slice_get ts c.args.number) c.self.view_is
