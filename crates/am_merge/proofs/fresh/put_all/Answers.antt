use Rattle.std.proofs.Common.{◌≡◌, ◌-◌, ◌∙◌, ◌++◌, ◌∷◌, [], List, ap, arith, inl, inr, length, map, refl, subst, sym}
use Rattle.std.specs.Option.{IfSome}
use Rattle.am_types.specs.declared.Row.{Row}
use Rattle.am_types.specs.Limits.{most_operations}
use Rattle.am_places.specs.Numbered.{operation_of}
use Rattle.am_merge.specs.Aims.{one_at, stacked_at}
use Rattle.am_merge.specs.Carrying.{CanCarry}
use Rattle.am_merge.specs.Plans.{carried}
use Rattle.am_merge.specs.Walk.{beginning, walk_out}
use Rattle.am_merge.proofs.Aimed.{last_within, one_there, others_within, stacked_more}
use Rattle.am_merge.proofs.Carried.{whole_start}
use Rattle.am_merge.proofs.FirstRows.{all_put, can_behind, can_put, none_at, whole_behind}
use Rattle.am_merge.proofs.Stopping.{none_left_over}
use Rattle.am_merge.proofs.fresh.put_all.Goals as goal

pub rest-init : goal.rest-init
rest-init c =
    let A = map operation_of c.args.operations.now in
    let total : List Row = carried (walk_out A most_operations (beginning A)) [] in
    record {
      actors = refl;
      within = c.requires.within;
      can = subst (λ ws. CanCarry c.args.writer.now.0 c.args.writer.now.1 (walk_out A most_operations ws) []) (sym c.requires.places) c.requires.can;
      whole = subst (λ ws. IfSome c.args.writer.now.1 (λ done. done ++ carried (walk_out A most_operations ws) [] ≡ total)) (sym c.requires.places) (whole_start c.args.writer.now.1 (walk_out A most_operations (beginning A)) [] [] c.requires.start refl);
    }

pub put_at-requires : goal.put_at-requires
put_at-requires c =
    let A = map operation_of c.args.operations.now in
    let n = c.index-operations-at.result in
    let y = operation_of n in
    let low = last_within (length c.args.operations.now) c.in-Some.place c.pop.new.self.items c.rest.waiting.items c.in-Some.ensures.items c.rest.invariant.within in
    let there : one_at A c.in-Some.place ≡ y ∷ [] = one_there c.args.operations.now c.in-Some.place n low c.index-operations-at.is in
    let top = ap (stacked_at A) c.in-Some.ensures.items ∙ stacked_more A c.pop.new.self.items c.in-Some.place y there in
    let can = can_put A c.rest.left (c.rest.left - 1) y (stacked_at A c.pop.new.self.items) (stacked_at A c.rest.waiting.items) top (omega (arith, c.rest-test.true)) c.rest.writer.0 c.rest.writer.1 c.rest.invariant.can in
    record {
      there = there;
      at = low;
      ascends = c.requires.ascends;
      distinct = c.requires.distinct;
      named = c.requires.named;
      row = can.0;
      room = can.1;
    }

pub push_hung-requires : goal.push_hung-requires
push_hung-requires c =
    let A = map operation_of c.args.operations.now in
    let n = c.index-operations-at.result in
    let low = last_within (length c.args.operations.now) c.in-Some.place c.pop.new.self.items c.rest.waiting.items c.in-Some.ensures.items c.rest.invariant.within in
    record {
      at = low;
      hung = c.requires.hung;
      within = others_within (length c.args.operations.now) c.in-Some.place c.pop.new.self.items c.rest.waiting.items c.in-Some.ensures.items c.rest.invariant.within;
    }

pub rest-preserved : goal.rest-preserved
rest-preserved c =
    let A = map operation_of c.args.operations.now in
    let n = c.index-operations-at.result in
    let y = operation_of n in
    let low = last_within (length c.args.operations.now) c.in-Some.place c.pop.new.self.items c.rest.waiting.items c.in-Some.ensures.items c.rest.invariant.within in
    let there : one_at A c.in-Some.place ≡ y ∷ [] = one_there c.args.operations.now c.in-Some.place n low c.index-operations-at.is in
    let top = ap (stacked_at A) c.in-Some.ensures.items ∙ stacked_more A c.pop.new.self.items c.in-Some.place y there in
    record {
      actors = c.in_ok-put_at.ensures.actors ∙ c.rest.invariant.actors;
      within = c.in_ok-push_hung.ensures.within;
      can = can_behind A c.rest.left (c.rest.left - 1) y (stacked_at A c.pop.new.self.items) (stacked_at A c.rest.waiting.items) top (omega (arith, c.rest-test.true)) c.rest.writer.0 _ c.rest.writer.1 _ _ c.rest.invariant.can c.in_ok-put_at.ensures.actors c.in_ok-put_at.ensures.ok (c.in_ok-push_hung.ensures.behind y there);
      whole = whole_behind A c.rest.left (c.rest.left - 1) y (stacked_at A c.pop.new.self.items) (stacked_at A c.rest.waiting.items) top (omega (arith, c.rest-test.true)) c.rest.writer.0 c.rest.writer.1 _ _ _ c.rest.invariant.can c.in_ok-put_at.ensures.ok (c.in_ok-push_hung.ensures.behind y there) c.rest.invariant.whole;
    }

pub returns-in_default-clause-rows : goal.returns-in_default-clause-rows
returns-in_default-clause-rows c =
    let A = map operation_of c.args.operations.now in
    let total : List Row = carried (walk_out A most_operations (beginning A)) [] in
    all_put c.rest.writer.0 c.rest.writer.1 (walk_out A c.rest.left (stacked_at A c.rest.waiting.items)) total c.rest.invariant.can
    (none_left_over A c.rest.left (stacked_at A c.rest.waiting.items) (inr (none_at A c.rest.waiting.items (omega (arith, c.rest.waiting.ok.0, c.in_default.ensures.cases.0))))) c.rest.invariant.whole

pub returns-clause-rows : goal.returns-clause-rows
returns-clause-rows c =
    let A = map operation_of c.args.operations.now in
    let total : List Row = carried (walk_out A most_operations (beginning A)) [] in
    all_put c.rest.writer.0 c.rest.writer.1 (walk_out A c.rest.left (stacked_at A c.rest.waiting.items)) total c.rest.invariant.can
    (none_left_over A c.rest.left (stacked_at A c.rest.waiting.items) (inl (omega (arith, c.rest-test.false)))) c.rest.invariant.whole
