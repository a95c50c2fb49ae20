use Rattle.std.specs.Prelude.{slice_index_or}
use Rattle.std.proofs.Common.{◌≡◌, ◌∙◌, ◌-◌, [], sym, subst, Some, arith}
use Rattle.std.proofs.lemmas.Option.{get_or_from_slice_get}
use Rattle.am_graph.specs.Graphs.{has, is_held, missing, TellsAncestors}
use Rattle.am_graph.proofs.Held.{is_some-held}
use Rattle.am_graph.proofs.Swept.{swept}
use Rattle.am_graph.proofs.Sweeping.{head_joins, find_at, sweep_starts, sweep_skips, sweeping_starts, dep_joins}
use Rattle.am_graph.proofs.graph.Graph.wanted.Goals as goal

pub returns-then-not-contains_key-clause-unknown : goal.returns-then-not-contains_key-clause-unknown
returns-then-not-contains_key-clause-unknown c =
    subst (λ g. missing g c.args.heads.now ≡ Some (slice_index_or c.args.heads.now c.loop-head.head-index (record { 0 = [] }))) c.self.view_is
    (find_at (is_held c.self.inside.parts.held.entries) c.args.heads.now c.loop-head.head-index (record { 0 = [] }) c.loop-head-test.true c.loop-head.invariant.2
    (sym (is_some-held _ c.self.inside.parts.held.entries) ∙ sym c.contains_key.ensures ∙ c.if-not-contains_key.true))

pub loop-head-preserved : goal.loop-head-preserved
loop-head-preserved c =
    head_joins c.self.inside.parts.held.entries c.args.heads.now (has c.loop-head.wanted) (has c.insert.new.self) c.loop-head.head-index (record { 0 = [] }) c.loop-head-test.true c.loop-head.invariant
    (sym (is_some-held _ c.self.inside.parts.held.entries) ∙ sym c.contains_key.ensures ∙ c.if-not-contains_key.false) c.in-Ok.ensures.updates.0

pub loop-i-init : goal.loop-i-init
loop-i-init c = sweep_starts c.self.inside.parts.held.entries c.args.heads.now (has c.loop-head.wanted) c.len-i.result (let e = c.len-i.ensures.len in omega arith)
    (c.loop-head.invariant.0, (λ k d z l. c.loop-head.invariant.1 k d z (let f = c.loop-head-test.false in omega arith)), (λ k d z l. c.loop-head.invariant.2 k d z (let f = c.loop-head-test.false in omega arith)))

pub loop-dep-init : goal.loop-dep-init
loop-dep-init c = sweeping_starts c.self.inside.parts.held.entries c.args.heads.now (has c.loop-i.wanted) c.loop-i.i (c.in-Some.hash.now, c.in-Some.node.now) c.as_slice-dep-items.result.now
    (λ d. get_or_from_slice_get c.self.inside.parts.held.entries (c.loop-i.i - 1) (c.in-Some.hash.now, c.in-Some.node.now) d (sym c.in-Some.ensures.entry))
    (let t = c.loop-i-test.true in let u = c.loop-i.auto.i in let e = c.len-i.ensures.len in omega arith) (sym c.contains.ensures ∙ c.if-contains.true) (sym c.as_slice-dep-items.ensures) (let t = c.loop-i-test.true in omega arith) c.loop-i.invariant

pub loop-dep-preserved : goal.loop-dep-preserved
loop-dep-preserved c = dep_joins c.self.inside.parts.held.entries c.self.invariant.sound c.args.heads.now (has c.loop-dep.wanted) (has c.insert-in-loop-dep.new.self) (c.loop-i.i - 1) c.as_slice-dep-items.result.now c.loop-dep.dep-index (record { 0 = [] })
    c.loop-dep-test.true c.in-Ok-insert.ensures.updates.0 c.loop-dep.invariant

pub loop-i-preserved-else-contains : goal.loop-i-preserved-else-contains
loop-i-preserved-else-contains c = sweep_skips c.self.inside.parts.held.entries c.args.heads.now (has c.loop-i.wanted) c.loop-i.i (c.in-Some.hash.now, c.in-Some.node.now)
    (λ d. get_or_from_slice_get c.self.inside.parts.held.entries (c.loop-i.i - 1) (c.in-Some.hash.now, c.in-Some.node.now) d (sym c.in-Some.ensures.entry))
    (sym c.contains.ensures ∙ c.if-contains.false) c.loop-i.invariant

pub returns-clause-ok : goal.returns-clause-ok
returns-clause-ok c = subst (λ g. TellsAncestors g c.args.heads.now (has c.loop-i.wanted)) c.self.view_is
    (swept c.self.inside.parts.held.entries c.args.heads.now (has c.loop-i.wanted) c.loop-i.invariant.0 c.loop-i.invariant.1 (λ k d z l. c.loop-i.invariant.3 k d (let f = c.loop-i-test.false in omega arith) l))
