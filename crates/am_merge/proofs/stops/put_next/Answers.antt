use Rattle.std.proofs.Common.{◌∙◌, ◌++◌, ◌∷◌, [], ap, arith}
use Rattle.am_merge.specs.Plans.{Put}
use Rattle.am_merge.specs.Stops.{done_in}
use Rattle.am_merge.specs.Walk.{behind, new_row, spot_of}
use Rattle.am_merge.proofs.Stopping.{no_top, tops_are}
use Rattle.am_merge.proofs.stops.put_next.Goals as goal

pub returns-in_ok-put-in-Some-clause-put : goal.returns-in_ok-put-in-Some-clause-put
returns-in_ok-put-in-Some-clause-put c A t y ws e =
    let v = c.args.walk.now in
    let tops = tops_are v.waiting.items c.pop.new.self.items c.in-Some.y y ws c.in-Some.ensures.items e in
    let h = c.in_ok-put-in-Some.ensures.put A t in
    record {
      events = h.events ∙ ap (λ x. done_in c.args.tables.now.named.items v ++ Put (new_row A x) ∷ []) tops.0;
      waiting = h.waiting ∙ (λ i. behind A (spot_of (tops.0 i)) (tops.1 i));
    }

pub returns-in-None-clause-put : goal.returns-in-None-clause-put
returns-in-None-clause-put c A t y ws e = absurd (no_top c.args.walk.now.waiting.items y ws (omega (arith, c.args.walk.now.waiting.ok.0, c.in-None.ensures.cases.0)) e)
