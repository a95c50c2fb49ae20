use Rattle.std.proofs.Common.{◌≡◌, ◌∙◌, ◌+◌, max as larger, [], get_or, sym, Some, arith}
use Rattle.std.specs.List.{position}
use Rattle.std.specs.Map.{keys_of}
use Rattle.am_types.specs.contracts.hash.HashPartialEq.TheImpl as equality
use Rattle.am_types.specs.declared.Hash.{Hash}
use Rattle.am_graph.specs.Whole.{authors_of, first_in}
use Rattle.am_graph.proofs.Deepest.{max_is, place_low, depth_low, deeper, deepest_all}
use Rattle.am_graph.proofs.Joining.{all_held}
use Rattle.am_graph.proofs.parts.Parts.depth_above.Goals as goal

pub unwrap-place-requires : goal.unwrap-place-requires
unwrap-place-requires c =
    let g = c.args.self.now.held.entries in
    c.place_of.ensures.found ∙ all_held g c.args.deps.now c.requires.held c.loop-dep.dep-index (record { 0 = [] }) c.loop-dep-test.true

pub loop-dep-preserved : goal.loop-dep-preserved
loop-dep-preserved c =
    let s = c.args.self.now in
    let none : Hash = record { 0 = [] } in
    let at : position (equality.eq-value.it (get_or c.args.deps.now c.loop-dep.dep-index none)) (keys_of s.held.entries) ≡ Some c.unwrap-place.result = sym c.place_of.ensures.index ∙ c.unwrap-place.ensures in
    let is : c.max-depth.result ≡ larger c.loop-dep.depth (c.index.result.now.depth + 1) = c.max-depth.ensures ∙ max_is c.loop-dep.depth (c.index.result.now.depth + 1) in
    let low = depth_low s.held.entries s.marks.items (authors_of s) (first_in s.firsts) c.requires.whole c.args.deps.now c.loop-dep.dep-index none c.loop-dep-test.true c.unwrap-place.result at c.index.result.now (sym c.index.ensures) in
    let here = place_low s.held.entries s.marks.items (authors_of s) (first_in s.firsts) c.requires.whole c.args.deps.now c.loop-dep.dep-index none c.loop-dep-test.true c.unwrap-place.result at c.index.result.now (sym c.index.ensures) in
    record {
      deepest = deeper s.held.entries s.marks.items (authors_of s) (first_in s.firsts) c.requires.whole c.args.deps.now c.loop-dep.dep-index none c.loop-dep-test.true c.unwrap-place.result at c.index.result.now (sym c.index.ensures)
          c.loop-dep.depth c.max-depth.result c.loop-dep.invariant.deepest is;
      shallow = (let old = c.loop-dep.invariant.shallow in omega arith);
    }

pub returns-clause-depth : goal.returns-clause-depth
returns-clause-depth c = deepest_all c.args.self.now.held.entries c.requires.whole.sound c.args.deps.now c.loop-dep.dep-index c.loop-dep.depth c.loop-dep-test.false c.loop-dep.invariant.deepest
