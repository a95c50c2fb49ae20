use Rattle.std.specs.Map.Iter.{deref_pair}
use Rattle.std.proofs.Common.{◌∙◌, ◌<◌, option_map, length, map, ap, sym, arith}
use Rattle.std.proofs.lemmas.List.{take_all}
use Rattle.std.proofs.lemmas.Option.{get_or_from_slice_get}
use Rattle.am_graph.specs.Ranks.{rank_of, rank_in}
use Rattle.am_graph.specs.Whole.{authors_of, first_in}
use Rattle.am_graph.proofs.Growing.{length_nodes}
use Rattle.am_graph.proofs.Ranking.{ranked_more}
use Rattle.am_graph.proofs.graph.Graph.ranks.Goals as goal

pub loop-i-preserved : goal.loop-i-preserved
loop-i-preserved c C e =
    let s = c.self.inside.parts in
    let hash = c.unwrap.result.0.now in
    let node = c.unwrap.result.1.now in
    let mark = c.index.result.now in
    let low : c.loop-i.i < length s.held.entries = (let t = c.loop-i-test.true in let f = c.len-i-end.ensures.len in omega arith) in
    ap (map rank_of) c.in_ok-push.ensures.items
    ∙ ranked_more s.held.entries s.marks.items (authors_of s) (first_in s.firsts) c.self.invariant c.loop-i.i (hash, node) mark low
    (get_or_from_slice_get s.held.entries c.loop-i.i (hash, node) (hash, node) (sym c.get_index.ensures.entry ∙ ap (option_map deref_pair) c.unwrap.ensures))
    (sym c.index.ensures)
    c.loop-i.ranks.items (record { depth = mark.depth; actor = c.as_slice.result; seq = node.seq; hash = hash })
    (ap (λ a. (mark.depth, (a, (node.seq, hash)))) c.as_slice.ensures.value)
    c.loop-i.invariant C e

pub returns : goal.returns
returns c C e =
    let is = c.self.view_is ∙ e in
    let n = length_nodes C in
    let z = ap length is in
    c.loop-i.invariant C is ∙ ap (map (rank_in C)) (take_all c.loop-i.i C (let f = c.loop-i-test.false in let l = c.len-i-end.ensures.len in omega arith))
