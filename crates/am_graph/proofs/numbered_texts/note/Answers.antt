use Rattle.std.proofs.Common.{◌∙◌, cond, Some, ap, arith}
use Rattle.std.specs.BTreeMap.{get}
use Rattle.std.specs.Ordering.{is_eq}
use Rattle.am_graph.specs.Numbers.{key_cmp}
use Rattle.am_graph.proofs.Numbering.{noted_short, noted_long}
use Rattle.am_graph.proofs.numbered_texts.note.Goals as goal

pub returns-then-text-le-SHORT-clause-ok : goal.returns-then-text-le-SHORT-clause-ok
returns-then-text-le-SHORT-clause-ok c f tells =
    noted_short c.args.short.now c.insert.new.self c.args.long.now c.args.text.now c.args.number f c.slice_known.ensures c.if-text-le-SHORT.true
    (λ k. c.in_ok-insert.ensures.updates.0 k ∙ ap (λ q. cond (is_eq (key_cmp q k)) (Some c.args.number) (get key_cmp c.args.short.now k)) c.key_of.ensures)
    tells

pub returns-clause-ok : goal.returns-clause-ok
returns-clause-ok c f tells =
    noted_long c.args.short.now c.args.long.now c.insert-2.new.self c.in_ok-key.key c.args.text.now c.args.number f c.in_ok-key.ensures.items (let l = c.if-text-le-SHORT.false in omega arith) c.in_ok-insert-2.ensures.entries tells
