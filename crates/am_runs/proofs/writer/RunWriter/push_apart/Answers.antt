use Rattle.std.proofs.Common.{arith, [], ◌∷◌, ◌++◌, map, Some, length-append}
use Rattle.am_runs.proofs.Neighbours.{apart_items, added_writing, length_items}
use Rattle.am_runs.proofs.writer.RunWriter.push_apart.Goals as goal

pub invariant_of-self-in-Some : goal.invariant_of-self-in-Some
invariant_of-self-in-Some g c =
    let found = c.in-Some.found in
    let start = c.in-Some.ensures.2.0 in
    let are = c.in-Some.ensures.2.1 in
    (added_writing _ g.met.K.Item.reads _ _ _ _ _ _ _ _ (map Some (start ++ found.last.now ∷ [])) found.count c.args.most _ _ _ _ _ c.if-self.false c.self.invariant c.self.view_is c.requires.room
    (length_items start found.last.now found.count are.count_is) c.in-Some.ensures.1 (λ list h. c.in_ok-extend_apart-in-Some.ensures start list are h)).0

pub returns-in_ok-extend_apart-in-Some-clause-ok :
    goal.returns-in_ok-extend_apart-in-Some-clause-ok
returns-in_ok-extend_apart-in-Some-clause-ok g c =
    let found = c.in-Some.found in
    let start = c.in-Some.ensures.2.0 in
    let are = c.in-Some.ensures.2.1 in (
      start ++ found.last.now ∷ [],
      are.each,
      omega (arith, are.count_is, length-append start (found.last.now ∷ [])),
      apart_items _ _ start _ _ found.last.now c.args.bytes.now found.rest.now are,
      (added_writing _ g.met.K.Item.reads _ _ _ _ _ _ _ _ (map Some (start ++ found.last.now ∷ [])) found.count c.args.most _ _ _ _ _ c.if-self.false c.self.invariant c.self.view_is c.requires.room
          (length_items start found.last.now found.count are.count_is) c.in-Some.ensures.1 (λ list h. c.in_ok-extend_apart-in-Some.ensures start list are h)).1,
    )
