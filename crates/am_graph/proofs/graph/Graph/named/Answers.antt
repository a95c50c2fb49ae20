use Rattle.std.specs.List.{position}
use Rattle.std.specs.Map.{keys_of}
use Rattle.std.specs.Map.Iter.{deref_pair}
use Rattle.std.proofs.Common.{ℕ, Bool, true, ◌≡◌, ◌<◌, ◌∙◌, List, [], Some, length, get_or, option_map, refl, ap, sym, subst, arith}
use Rattle.std.proofs.lemmas.List.{length-set, take_all}
use Rattle.std.proofs.lemmas.Option.{get_or_from_slice_get}
use Rattle.am_types.specs.contracts.hash.HashPartialEq.TheImpl as equality
use Rattle.am_types.specs.declared.Hash.{Hash}
use Rattle.am_graph.specs.declared.node.Node.{Node}
use Rattle.am_graph.proofs.Held.{is_some-held}
use Rattle.am_graph.specs.Graphs.{is_named_in}
use Rattle.am_graph.proofs.Marking.{dep_held, dep_marked, change_marked}
use Rattle.am_graph.proofs.graph.Graph.named.Goals as goal

pub unwrap-place-requires : goal.unwrap-place-requires
unwrap-place-requires c =
    let g = c.self.inside.parts.held.entries in
    let x : Hash × Node = (c.unwrap.result.0.now, c.unwrap.result.1.now) in
    let none : Hash = record { 0 = [] } in
    let at : get_or g c.loop-i.i x ≡ x = get_or_from_slice_get g c.loop-i.i x x (sym c.get_index.ensures.entry ∙ ap (option_map deref_pair) c.unwrap.ensures) in
    let low : c.loop-i.i < length g = (let t = c.loop-i-test.true in let e = c.len-i-end.ensures.len in omega arith) in
    c.get_index_of.ensures.found ∙ is_some-held _ g ∙ dep_held g c.self.invariant.sound c.loop-i.i x low at c.as_slice-dep-items.result.now c.loop-dep.dep-index none c.loop-dep-test.true c.as_slice-dep-items.ensures

pub loop-dep-preserved : goal.loop-dep-preserved
loop-dep-preserved c =
    let g = c.self.inside.parts.held.entries in
    let none : Hash = record { 0 = [] } in
    let at : position (equality.eq-value.it (get_or c.as_slice-dep-items.result.now c.loop-dep.dep-index none)) (keys_of g) ≡ Some c.unwrap-place.result = sym c.get_index_of.ensures.index ∙ c.unwrap-place.ensures in
    record {
      size = length-set c.loop-dep.named.items c.unwrap-place.result true ∙ c.loop-dep.invariant.size;
      marked = dep_marked g c.self.invariant.sound c.loop-dep.named.items _ c.loop-i.i c.as_slice-dep-items.result.now c.loop-dep.dep-index none c.loop-dep-test.true c.unwrap-place.result at c.loop-dep.invariant.size refl c.loop-dep.invariant.marked;
    }

pub loop-i-preserved : goal.loop-i-preserved
loop-i-preserved c =
    let g = c.self.inside.parts.held.entries in
    let x : Hash × Node = (c.unwrap.result.0.now, c.unwrap.result.1.now) in
    let at : get_or g c.loop-i.i x ≡ x = get_or_from_slice_get g c.loop-i.i x x (sym c.get_index.ensures.entry ∙ ap (option_map deref_pair) c.unwrap.ensures) in
    let low : c.loop-i.i < length g = (let t = c.loop-i-test.true in let e = c.len-i-end.ensures.len in omega arith) in
    record {
      size = c.loop-dep.invariant.size;
      marked = change_marked g c.loop-dep.named.items c.loop-i.i x c.as_slice-dep-items.result.now c.loop-dep.dep-index low at c.as_slice-dep-items.ensures (take_all c.loop-dep.dep-index c.as_slice-dep-items.result.now (let f = c.loop-dep-test.false in omega arith)) c.loop-dep.invariant.marked;
    }

pub returns-clause-named : goal.returns-clause-named
returns-clause-named c =
    let g = c.self.inside.parts.held.entries in
    let whole = take_all c.loop-i.i g (let f = c.loop-i-test.false in let e = c.len-i-end.ensures.len in omega arith) in
    subst (λ (h : List (Hash × Node)). (k : ℕ) (b : Bool) (e : Hash × Node) → k < length h → get_or c.loop-i.named.items k b ≡ is_named_in h (get_or h k e).0) c.self.view_is
    (λ k b e low. c.loop-i.invariant.marked k b e low ∙ ap (λ q. is_named_in q (get_or g k e).0) whole)
