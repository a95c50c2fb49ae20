use Rattle.std.proofs.Common.{◌≡◌, ◌∙◌, ◌<◌, List, ap, get_or, length, subst, sym}
use Rattle.am_types.proofs.Orders.{same_bytes-true}
use Rattle.am_graph.specs.Reaches.{number}
use Rattle.am_graph.proofs.Numbering.{kept_at}
use Rattle.am_graph.proofs.TextMaps.{Text}
use Rattle.am_graph.proofs.numbered_texts.NumberedTexts.hinted.Goals as goal

pub returns-then-eq : goal.returns-then-eq
returns-then-eq c =
    let at = c.in-Some.ensures.lookup.3 in
    let texts = c.deref.ensures.value in
    ap (λ ts. number ts c.args.text.now) (sym c.self.view_is)
    ∙ kept_at c.self.inside.texts.items c.of-hint.result c.in-Some.kept.now c.args.text.now c.self.invariant.once
    (subst (λ (l : List Text). c.of-hint.result < length l) texts at.0)
    (subst (λ (l : List Text). (d : Text) → c.in-Some.kept.now ≡ get_or l c.of-hint.result d) texts at.1)
    (sym c.as_slice.ensures.value ∙ same_bytes-true c.as_slice.result.now c.args.text.now (sym c.if-eq.ensures))
