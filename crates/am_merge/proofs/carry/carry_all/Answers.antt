use Rattle.std.proofs.Common.{◌≡◌, ◌+◌, ◌∙◌, ◌++◌, ◌∷◌, [], drop, List, refl, subst}
use Rattle.std.specs.Option.{IfSome}
use Rattle.am_types.specs.declared.Row.{Row}
use Rattle.am_merge.specs.Carrying.{CanCarry}
use Rattle.am_merge.specs.Plans.{Event, carried}
use Rattle.am_merge.specs.Stops.{copies, event_of, events_of}
use Rattle.am_merge.proofs.Carried.{all_written, can_first, can_rest, carries_on, events_at, no_events_at, whole_start}
use Rattle.am_merge.proofs.carry.carry_all.Goals as goal

pub loop-i-init : goal.loop-i-init
loop-i-init c = record {
  actors = refl;
  can = c.requires.can;
  whole = whole_start _ (events_of c.args.named.now c.args.stops.now ++ copies c.args.rest) c.args.from.now _ c.requires.start refl;
}

pub carry_to-requires : goal.carry_to-requires
carry_to-requires c =
    let stop = c.index-stops-i.result in
    let named = c.args.named.now in
    let behind : List Event = events_of named (drop (c.loop-i.i + 1) c.args.stops.now) ++ copies c.args.rest in
    can_first c.loop-i.writer.0 c.loop-i.writer.1 (copies stop.skip ++ event_of named stop ∷ []) behind c.loop-i.from
    (subst (λ es. CanCarry c.loop-i.writer.0 c.loop-i.writer.1 es c.loop-i.from) (events_at named c.args.stops.now c.loop-i.i stop (copies c.args.rest) c.loop-i-test.true c.index-stops-i.is) c.loop-i.invariant.can)

pub loop-i-preserved : goal.loop-i-preserved
loop-i-preserved c =
    let stop = c.index-stops-i.result in
    let named = c.args.named.now in
    let w = c.loop-i.writer in
    let here : List Event = copies stop.skip ++ event_of named stop ∷ [] in
    let behind : List Event = events_of named (drop (c.loop-i.i + 1) c.args.stops.now) ++ copies c.args.rest in
    let total : List Row = carried (events_of named c.args.stops.now ++ copies c.args.rest) c.args.from.now in
    let e = events_at named c.args.stops.now c.loop-i.i stop (copies c.args.rest) c.loop-i-test.true c.index-stops-i.is in
    let can : CanCarry w.0 w.1 (here ++ behind) c.loop-i.from = subst (λ es. CanCarry w.0 w.1 es c.loop-i.from) e c.loop-i.invariant.can in
    record {
      actors = c.in_ok-carry_to.ensures.actors ∙ c.loop-i.invariant.actors;
      can = can_rest w.0 _ w.1 _ here behind c.loop-i.from _ can c.in_ok-carry_to.ensures.actors c.in_ok-carry_to.ensures.ok c.in_ok-carry_to.ensures.behind;
      whole = carries_on w.0 w.1 _ here behind c.loop-i.from _ total can c.in_ok-carry_to.ensures.ok c.in_ok-carry_to.ensures.behind
          (subst (λ es. IfSome w.1 (λ done. done ++ carried es c.loop-i.from ≡ total)) e c.loop-i.invariant.whole);
    }

pub copy_rows-requires : goal.copy_rows-requires
copy_rows-requires c =
    subst (λ es. CanCarry c.loop-i.writer.0 c.loop-i.writer.1 es c.loop-i.from) (no_events_at c.args.named.now c.args.stops.now c.loop-i.i (copies c.args.rest) c.loop-i-test.false) c.loop-i.invariant.can

pub returns-clause-rows : goal.returns-clause-rows
returns-clause-rows c =
    let w = c.loop-i.writer in
    let total : List Row = carried (events_of c.args.named.now c.args.stops.now ++ copies c.args.rest) c.args.from.now in
    let e = no_events_at c.args.named.now c.args.stops.now c.loop-i.i (copies c.args.rest) c.loop-i-test.false in
    all_written w.0 w.1 _ (copies c.args.rest) c.loop-i.from total
    (subst (λ es. CanCarry w.0 w.1 es c.loop-i.from) e c.loop-i.invariant.can) c.in_ok-copy_rows.ensures.ok
    (subst (λ es. IfSome w.1 (λ done. done ++ carried es c.loop-i.from ≡ total)) e c.loop-i.invariant.whole)

pub returns-clause-actors : goal.returns-clause-actors
returns-clause-actors c = c.in_ok-copy_rows.ensures.actors ∙ c.loop-i.invariant.actors
