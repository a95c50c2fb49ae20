use Rattle.std.proofs.Common.{rules, ◌≡◌, ◌∷◌, [], ◌++◌, length, map, vec_items, refl, sym, ap, subst, ◌∙◌, arith}
use Rattle.std.proofs.lemmas.List.{append_assoc, append-nil, length-map}
use Rattle.std.specs.Vec.Iter.{into_iter_items}
use Rattle.am_types.specs.declared.Hash.{Hash}
use Rattle.am_types.specs.declared.Change.{Change}
use Rattle.am_delivery.proofs.Arrivals.{nothing_left}
use Rattle.am_store.specs.Listed.{placed}
use Rattle.am_store.proofs.Listing.{begins_placed, one_placed, it_is_held}
use Rattle.am_store.proofs.rebuilding.put_all.Goals as goal

pub loop-hash-init : goal.loop-hash-init
loop-hash-init c = record {
  left = refl;
  count = search rules;
  placed = λ C is. begins_placed C c.args.graph.now (vec_items c.args.entries) is c.args.places.now.items c.requires.empty;
}

pub put-requires : goal.put-requires
put-requires c =
    let at = c.loop-hash in
    let C = c.requires.set in
    let x : Hash × Change = (c.in-Some.hash, c.in-Some.change) in
    let steps : into_iter_items at.hash-iterator ≡ x ∷ into_iter_items c.next.new.self = c.in-Some.ensures.steps.0 in
    let whole : at.yielded ++ x ∷ into_iter_items c.next.new.self ≡ vec_items c.args.entries = rw (← steps) at.invariant.left ∙ c.into_iter-hash-iterator.ensures.into_iter_gives.0 in
    (C, c.requires.listed.graph, ap length (at.invariant.placed C c.requires.listed) ∙ length-map C (placed at.yielded), it_is_held C c.args.graph.now (vec_items c.args.entries) c.requires.listed at.yielded (into_iter_items c.next.new.self) x whole)

pub loop-hash-preserved : goal.loop-hash-preserved
loop-hash-preserved c =
    let at = c.loop-hash in
    let x : Hash × Change = (c.in-Some.hash, c.in-Some.change) in
    let steps : into_iter_items at.hash-iterator ≡ x ∷ into_iter_items c.next.new.self = c.in-Some.ensures.steps.0 in
    let whole : at.yielded ++ x ∷ into_iter_items c.next.new.self ≡ vec_items c.args.entries = rw (← steps) at.invariant.left ∙ c.into_iter-hash-iterator.ensures.into_iter_gives.0 in
    record {
      left = append_assoc at.yielded (x ∷ []) _ ∙ rw (← steps) at.invariant.left;
      count =
          let was = at.invariant.count in
          let gone = c.in-Some.ensures.steps.1 in
          let short = ap length steps in
          omega arith;
      placed = λ C is.
          let made = c.put.ensures C is.graph in
          one_placed C c.args.graph.now (vec_items c.args.entries) is at.yielded (into_iter_items c.next.new.self) x whole made.0 made.1 at.places.items c.put.new.places.items (at.invariant.placed C is) made.2;
    }

pub returns : goal.returns
returns c = λ C is.
    let at = c.loop-hash in
    let none = c.in-None.ensures.steps in
    let empty : into_iter_items at.hash-iterator ≡ [] = nothing_left _ (sym at.invariant.count ∙ none.0) in
    let all : at.yielded ≡ vec_items c.args.entries = sym (append-nil at.yielded) ∙ rw empty at at.invariant.left ∙ c.into_iter-hash-iterator.ensures.into_iter_gives.0 in
    subst (λ l. at.places.items ≡ map (placed l) C) all (at.invariant.placed C is)
