use Rattle.std.proofs.Common.{◌∙◌, ap, arith}
use Rattle.std.specs.BTreeMap.{get}
use Rattle.am_graph.specs.Numbers.{key_cmp}
use Rattle.am_graph.specs.Reaches.{number}
use Rattle.am_graph.proofs.TextMaps.{looked_up}
use Rattle.am_graph.proofs.numbered_texts.NumberedTexts.sought.Goals as goal

pub returns-then-text-le-SHORT : goal.returns-then-text-le-SHORT
returns-then-text-le-SHORT c =
    c.copied.ensures ∙ c.get.ensures.value ∙ ap (get key_cmp c.self.inside.short) c.key_of.ensures
    ∙ c.self.invariant.told.few c.args.text.now c.slice_known.ensures c.if-text-le-SHORT.true ∙ ap (λ ts. number ts c.args.text.now) c.self.view_is

pub returns : goal.returns
returns c =
    c.copied-2.ensures ∙ c.get-2.ensures.value ∙ looked_up c.args.text.now c.self.inside.long.entries
    ∙ c.self.invariant.told.many c.args.text.now (let l = c.if-text-le-SHORT.false in omega arith) ∙ ap (λ ts. number ts c.args.text.now) c.self.view_is
