use Rattle.std.proofs.Common.{rules, ◌≡◌, ◌∷◌, ◌++◌, [], cond, length, sym, ap, ◌∙◌}
use Rattle.am_types.specs.Members.{Member, changes}
use Rattle.am_graph.specs.declared.Node.{Node}
use Rattle.am_graph.specs.Graphs.{is_held, node_of}
use Rattle.am_fits.specs.Indexes.{Indexed}
use Rattle.am_fits.proofs.ReadLists.{length_read}
use Rattle.am_rebuild.proofs.Grows.{may_admit, not_held, grown}
use Rattle.am_rebuild.proofs.gathered.enter.Goals as goal

pub admit-requires : goal.admit-requires
admit-requires g c = may_admit c.args.graph.now c.args.index.now (record { hash = c.args.hash; change = g.C.ReadChange.change c.args.change.now }) c.requires

pub returns-clause-of_set : goal.returns-clause-of_set
returns-clause-of_set g c =
    let change = g.C.ReadChange.change c.args.change.now in
    let m : Member = record { hash = c.args.hash; change = change } in
    let n : Node = record { actor = c.actor.result.now; seq = c.seq.result; start = c.start.result; count = length c.ops.result.now; deps = c.deps.result.now } in
    let same : n ≡ node_of change = λ i. record {
      actor = c.actor.ensures i;
      seq = c.seq.ensures i;
      start = c.start.ensures i;
      count = sym (length_read g.C.Op.ReadOp.op c.ops.result.now change.ops c.ops.ensures) i;
      deps = c.deps.ensures i;
    } in
    let added : c.add-added.new.self ≡ cond (is_held c.args.graph.now c.args.hash) c.args.graph.now (c.args.graph.now ++ (c.args.hash, n) ∷ []) = search rules in
    grown c.args.graph.now c.add-added.new.self c.args.index.now c.admit.new.self m (not_held c.args.graph.now c.args.index.now m c.requires)
    (added ∙ ap (λ (n : Node). cond (is_held c.args.graph.now c.args.hash) c.args.graph.now (c.args.graph.now ++ (c.args.hash, n) ∷ [])) same) c.in_ok-admit.ensures.changes

pub returns-then-is_err-clause-index : goal.returns-then-is_err-clause-index
returns-then-is_err-clause-index g c =
    let before = c.requires.of_set.index in
    let kept = changes c.requires.set in
    c.cut.ensures kept (g.C.ReadChange.change c.args.change.now ∷ []) (c.in_ok-admit.ensures.changes kept before) (c.totals-totals.ensures ∙ ap (λ (x : Indexed). x.totals) before) ∙ sym before
