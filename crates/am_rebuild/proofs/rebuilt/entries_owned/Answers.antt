use Rattle.std.proofs.Common.{rules, ◌≡◌, ◌∷◌, [], ◌++◌, length, refl, sym, ap, ◌∙◌, arith}
use Rattle.std.proofs.lemmas.List.{append_assoc, append-nil}
use Rattle.std.specs.Vec.Iter.{into_iter_items}
use Rattle.am_types.specs.declared.Hash.{Hash}
use Rattle.am_types.specs.declared.Change.{Change}
use Rattle.am_delivery.proofs.Arrivals.{nothing_left}
use Rattle.am_rebuild.proofs.Documents.{comes_fine}
use Rattle.am_rebuild.proofs.rebuilt.entries_owned.Goals as goal

pub loop-hash-init : goal.loop-hash-init
loop-hash-init c = record { left = refl; count = search rules; owned = search rules }

pub entry_owned-requires : goal.entry_owned-requires
entry_owned-requires c =
    let at = c.loop-hash in
    let x : Hash × Change = (c.in-Some.hash, c.in-Some.change) in
    let steps : into_iter_items at.hash-iterator ≡ x ∷ into_iter_items c.next.new.self = c.in-Some.ensures.steps.0 in
    let whole : at.yielded ++ x ∷ into_iter_items c.next.new.self ≡ c.args.lent.items = rw (← steps) at.invariant.left ∙ c.into_iter-hash-iterator.ensures.into_iter_gives.0 in
    comes_fine c.args.lent.items at.yielded (into_iter_items c.next.new.self) x whole c.requires

pub loop-hash-preserved : goal.loop-hash-preserved
loop-hash-preserved c =
    let at = c.loop-hash in
    let x : Hash × Change = (c.in-Some.hash, c.in-Some.change) in
    let steps : into_iter_items at.hash-iterator ≡ x ∷ into_iter_items c.next.new.self = c.in-Some.ensures.steps.0 in
    record {
      left = append_assoc at.yielded (x ∷ []) _ ∙ rw (← steps) at.invariant.left;
      count =
          let was = at.invariant.count in
          let gone = c.in-Some.ensures.steps.1 in
          let short = ap length steps in
          omega arith;
      owned = c.in_ok-push.ensures.items ∙ (λ j. at.invariant.owned j ++ c.in_ok-entry.ensures j ∷ []);
    }

pub returns : goal.returns
returns c =
    let at = c.loop-hash in
    let none = c.in-None.ensures.steps in
    let empty : into_iter_items at.hash-iterator ≡ [] = nothing_left _ (sym at.invariant.count ∙ none.0) in
    at.invariant.owned ∙ sym (append-nil at.yielded) ∙ rw empty at at.invariant.left ∙ c.into_iter-hash-iterator.ensures.into_iter_gives.0
