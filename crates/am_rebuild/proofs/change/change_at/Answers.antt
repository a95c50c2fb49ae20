use Rattle.std.proofs.Common.{sym, ap, option_map, ◌∙◌}
use Rattle.am_histories.specs.Rebuilt.{last_max}
use Rattle.am_rebuild.proofs.Loop.{deps_found, missing, present}
use Rattle.am_rebuild.proofs.change.change_at.Goals as goal

pub returns-in-None-2 : goal.returns-in-None-2
returns-in-None-2 c = λ rows s.
    let B = c.args.gathered.now in
    let actor = c.as_slice-in-Some-2.ensures.value in
    missing rows B c.args.meta.now (option_map (λ ops. ops.items) c.in_ok-author_ops-in-Some.field-0) c.as_slice-in-Some-2.result.now c.last_max-low.result actor
    (c.last_max-low.ensures ∙ ap (last_max B) (c.as_slice-in-Some.ensures.value ∙ sym actor)) (ap (option_map (λ ops. ops.items)) c.in-None-2.is) (c.in_ok-author_ops-in-Some.ensures rows s)

pub returns-in-Some-2 : goal.returns-in-Some-2
returns-in-Some-2 c = λ rows s.
    let B = c.args.gathered.now in
    let actor = c.as_slice-in-Some-2.ensures.value in
    let deps = deps_found B c.as_slice.result.now c.args.meta.now.deps c.in_ok-deps_at.field-0 c.in-Some.deps c.as_slice.ensures c.in-Some.is c.in_ok-deps_at.ensures in
    present rows B c.args.meta.now (option_map (λ ops. ops.items) c.in_ok-author_ops-in-Some.field-0) c.as_slice-in-Some-2.result.now c.last_max-low.result actor
    (c.last_max-low.ensures ∙ ap (last_max B) (c.as_slice-in-Some.ensures.value ∙ sym actor)) c.in-Some-2.ops.items (ap (option_map (λ ops. ops.items)) c.in-Some-2.is) (c.in_ok-author_ops-in-Some.ensures rows s)
    deps.0 c.in-Some.deps deps.1 c.change_from.result c.change_from.ensures
