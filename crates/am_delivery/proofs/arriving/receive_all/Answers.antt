use Rattle.std.proofs.Common.{rules, ◌≡◌, ◌∷◌, [], ◌++◌, length, vec_items, refl, sym, ap, subst, ◌∙◌, arith}
use Rattle.std.proofs.lemmas.List.{append_assoc, append-nil, map-append}
use Rattle.std.proofs.lemmas.List.Sorted.{IsPermutation-refl}
use Rattle.std.specs.Vec.Iter.{into_iter_items}
use Rattle.am_types.specs.declared.Hash.{Hash}
use Rattle.am_types.specs.declared.Change.{Change}
use Rattle.am_types.specs.Deliver.{Sets, MayCome, Alike, receive}
use Rattle.am_delivery.specs.Waiting.{member_of, members_of, waiting_of}
use Rattle.am_delivery.proofs.Steady.{steady_from}
use Rattle.am_delivery.proofs.Arrivals.{alike_more, of_parts, nothing_left}
use Rattle.am_delivery.proofs.arriving.receive_all.Goals as goal

pub loop-hash-init : goal.loop-hash-init
loop-hash-init g c = record {
  left = refl;
  count = search rules;
  alike = record { closed = IsPermutation-refl (g.S.Closed.members c.args.closed.now); waiting = IsPermutation-refl (waiting_of c.args.waiting.now); rejected = refl };
  tracks = c.requires.tracks;
  kept = refl;
}

pub receive_one-requires-clause-tracks : goal.receive_one-requires-clause-tracks
receive_one-requires-clause-tracks g c = c.loop-hash.invariant.tracks

pub receive_one-requires-clause-fine : goal.receive_one-requires-clause-fine
receive_one-requires-clause-fine g c =
    let at = c.loop-hash in
    let x : Hash × Change = (c.in-Some.hash, c.in-Some.change) in
    let steps : into_iter_items at.hash-iterator ≡ x ∷ into_iter_items c.next.new.self = c.in-Some.ensures.steps.0 in
    let whole : at.yielded ++ x ∷ into_iter_items c.next.new.self ≡ vec_items c.args.changes = rw (← steps) at.invariant.left ∙ c.into_iter-hash-iterator.ensures.into_iter_gives.0 in
    (of_parts MayCome (vec_items c.args.changes) at.yielded (into_iter_items c.next.new.self) x whole c.requires.may_come).1.fine

pub returns-in_err-receive_one-clause-kept : goal.returns-in_err-receive_one-clause-kept
returns-in_err-receive_one-clause-kept g c = c.receive_one.ensures.kept ∙ c.loop-hash.invariant.kept

pub loop-hash-preserved : goal.loop-hash-preserved
loop-hash-preserved g c =
    let at = c.loop-hash in
    let C = g.S.Closed.members c.args.closed.now in
    let first : Sets = record { closed = C; waiting = waiting_of c.args.waiting.now; rejected = vec_items c.args.rejected.now } in
    let now : Sets = record { closed = C; waiting = waiting_of at.waiting; rejected = vec_items at.rejected } in
    let next : Sets = record { closed = C; waiting = waiting_of c.receive_one.new.waiting; rejected = vec_items c.receive_one.new.rejected } in
    let x : Hash × Change = (c.in-Some.hash, c.in-Some.change) in
    let steps : into_iter_items at.hash-iterator ≡ x ∷ into_iter_items c.next.new.self = c.in-Some.ensures.steps.0 in
    let whole : at.yielded ++ x ∷ into_iter_items c.next.new.self ≡ vec_items c.args.changes = rw (← steps) at.invariant.left ∙ c.into_iter-hash-iterator.ensures.into_iter_gives.0 in
    let fine = of_parts MayCome (vec_items c.args.changes) at.yielded (into_iter_items c.next.new.self) x whole c.requires.may_come in
    record {
      left = append_assoc at.yielded (x ∷ []) _ ∙ rw (← steps) at.invariant.left;
      count =
          let was = at.invariant.count in
          let gone = c.in-Some.ensures.steps.1 in
          let short = ap length steps in
          omega arith;
      alike = subst (λ L. Alike (receive first L) next) (sym (map-append member_of at.yielded (x ∷ [])))
          (alike_more first now next (members_of at.yielded) (member_of x) (steady_from C (waiting_of c.args.waiting.now) (vec_items c.args.rejected.now) c.requires.stored) fine.0 fine.1 at.invariant.alike c.in_ok-receive_one.ensures.alike);
      tracks = c.in_ok-receive_one.ensures.tracks;
      kept = c.receive_one.ensures.kept ∙ at.invariant.kept;
    }

pub returns-clause-tracks : goal.returns-clause-tracks
returns-clause-tracks g c = c.loop-hash.invariant.tracks

pub returns-clause-kept : goal.returns-clause-kept
returns-clause-kept g c = c.loop-hash.invariant.kept

pub returns-clause-alike : goal.returns-clause-alike
returns-clause-alike g c =
    let at = c.loop-hash in
    let C = g.S.Closed.members c.args.closed.now in
    let first : Sets = record { closed = C; waiting = waiting_of c.args.waiting.now; rejected = vec_items c.args.rejected.now } in
    let now : Sets = record { closed = C; waiting = waiting_of at.waiting; rejected = vec_items at.rejected } in
    let none = c.in-None.ensures.steps in
    let empty : into_iter_items at.hash-iterator ≡ [] = nothing_left _ (sym at.invariant.count ∙ none.0) in
    let all : at.yielded ≡ vec_items c.args.changes = sym (append-nil at.yielded) ∙ rw empty at at.invariant.left ∙ c.into_iter-hash-iterator.ensures.into_iter_gives.0 in
    subst (λ l. Alike (receive first (members_of l)) now) all at.invariant.alike
