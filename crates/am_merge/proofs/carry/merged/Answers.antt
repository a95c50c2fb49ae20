use Rattle.std.proofs.Common.{◌∙◌, ◌++◌, ◌-◌, ap, arith, sym, length, map, drop, take_all, length-drop}
use Rattle.am_types.specs.Order.{id_cmp}
use Rattle.am_types.specs.Views.{id_of}
use Rattle.am_merge.specs.Carrying.{ids_of}
use Rattle.am_merge.specs.Merge.{merge}
use Rattle.am_merge.proofs.Carried.{old_step}
use Rattle.am_merge.proofs.carry.merged.Goals as goal

pub old-preserved : goal.old-preserved
old-preserved c = record {
  bound = c.in_ok-at.ensures.bound;
  same = old_step _ _ _ c.in-Some.id _ _ c.args.added.now _ _ _ c.old.invariant.same c.in-Some.ensures.next c.in_ok-at.ensures.pushed c.in_ok-push.ensures.items;
}

pub returns : goal.returns
returns c =
    c.in_ok-push_ids.ensures
    ∙ ap (λ ns. map id_of c.old.ids.items ++ ids_of ns) (take_all (length c.args.added.now - c.old.at) (drop c.old.at c.args.added.now) (omega (arith, length-drop c.old.at c.args.added.now)))
    ∙ sym (c.old.invariant.same ∙ ap (λ l. map id_of c.old.ids.items ++ merge id_cmp l (ids_of (drop c.old.at c.args.added.now))) c.in_default.ensures.end.0)
