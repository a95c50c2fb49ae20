use Rattle.std.proofs.Common.{◌≡◌, ◌+◌, ◌==◌, ◌∙◌, ◌++◌, [], ap, arith, length, length-drop, refl, sym}
use Rattle.std.proofs.lemmas.Bool.{eqb-true}
use Rattle.am_merge.specs.Stacks.{stacked}
use Rattle.am_merge.specs.Stops.{copies, events_of, waiting_of}
use Rattle.am_merge.specs.Walk.{walked}
use Rattle.am_merge.proofs.Unnamed.{copies_come, none_stacked}
use Rattle.am_merge.proofs.walk.copy_unnamed.Goals as goal

pub returns-clause-few : goal.returns-clause-few
returns-clause-few c = omega (arith, c.skip_unnamed.ensures.few, ap length c.skip_unnamed.ensures.behind, length-drop c.skip_unnamed.result c.args.rest.now)

pub returns-clause-left : goal.returns-clause-left
returns-clause-left c = omega (arith, ap length c.skip_unnamed.ensures.behind, length-drop c.skip_unnamed.result c.args.rest.now)

pub returns-clause-same : goal.returns-clause-same
returns-clause-same c A t tables counters =
    let v = c.args.walk.now in
    let n = c.skip_unnamed.result in
    let none : waiting_of v ≡ [] = none_stacked stacked v.waiting.items (eqb-true (length v.waiting.items) 0 (sym (c.if-not-is_empty.ensures ∙ ap (λ l. length l == 0) c.as_slice.ensures.value))) refl in
    copies_come A t c.args.counters.now tables counters (events_of t.named.items v.stops.items) v.skipped v.left n c.args.rest.now (waiting_of v) none c.skip_unnamed.ensures.few c.skip_unnamed.ensures.unnamed
    ∙ ap (λ rs. (events_of t.named.items v.stops.items ++ copies (v.skipped + n)) ++ walked A rs v.left (waiting_of v)) (sym c.skip_unnamed.ensures.behind)
