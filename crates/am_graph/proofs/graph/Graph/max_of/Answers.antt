use Rattle.std.proofs.Common.{◌∙◌, ◌+◌, ◌≤◌, ◌^◌, ap, sym, Some, None, arith}
use Rattle.std.specs.Map.{lookup}
use Rattle.am_types.specs.contracts.hash.HashPartialEq.TheImpl as equality
use Rattle.am_graph.proofs.Finding.{lookup-nodes, lookup_all, max-member}
use Rattle.am_graph.proofs.graph.Graph.max_of.Goals as goal

pub returns-in_default : goal.returns-in_default
returns-in_default c = record { set = λ C e. (max-member C c.args.hash.now None (sym (lookup-nodes C c.args.hash.now) ∙ ap (lookup (equality.eq-value.it c.args.hash.now)) (sym (c.self.view_is ∙ e)) ∙ sym c.in_default.ensures.value)) }

pub overflow_add-result : goal.overflow_add-result
overflow_add-result c =
    let low : c.in-Some.node.now.start + c.in-Some.node.now.count ≤ 2 ^ 53 = lookup_all (λ n. n.start + n.count ≤ 2 ^ 53) (equality.eq-value.it c.args.hash.now) c.self.inside.parts.held.entries c.in-Some.node.now c.self.invariant.sound.ends (sym c.in-Some.ensures.value) in omega arith

pub overflow_sub-result : goal.overflow_sub-result
overflow_sub-result c =
    let low : 1 ≤ c.in-Some.node.now.start = lookup_all (λ n. 1 ≤ n.start) (equality.eq-value.it c.args.hash.now) c.self.inside.parts.held.entries c.in-Some.node.now c.self.invariant.sound.starts (sym c.in-Some.ensures.value) in omega arith

pub returns : goal.returns
returns c = record { set = λ C e. (max-member C c.args.hash.now (Some c.in-Some.node.now) (sym (lookup-nodes C c.args.hash.now) ∙ ap (lookup (equality.eq-value.it c.args.hash.now)) (sym (c.self.view_is ∙ e)) ∙ sym c.in-Some.ensures.value)) }
