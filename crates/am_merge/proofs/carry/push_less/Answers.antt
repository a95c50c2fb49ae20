use Rattle.std.proofs.Common.{◌∙◌, ◌++◌, ap, sym, map, drop, arith}
use Rattle.am_types.specs.Views.{id_of}
use Rattle.am_merge.specs.Carrying.{ids_of}
use Rattle.am_merge.proofs.Carried.{less_step, merge_stays}
use Rattle.am_merge.proofs.carry.push_less.Goals as goal

pub less-preserved : goal.less-preserved
less-preserved c =
    let within = c.is_less.ensures.within c.less-test.true in
    record {
      bound = omega (arith, within);
      same = λ rest.
          c.less.invariant.same rest
          ∙ less_step c.less.ids.items _ c.id.result (id_of c.args.old) c.args.added.now c.less.at c.index-added-at.result c.in_ok-push.ensures.items c.id.ensures within c.index-added-at.is (sym c.is_less.ensures.less ∙ c.less-test.true) rest;
    }

pub returns-clause-pushed : goal.returns-clause-pushed
returns-clause-pushed c rest =
    c.less.invariant.same rest
    ∙ ap (λ l. map id_of c.less.ids.items ++ l) (merge_stays (id_of c.args.old) rest (ids_of (drop c.less.at c.args.added.now)) (sym c.is_less.ensures.less ∙ c.less-test.false))
