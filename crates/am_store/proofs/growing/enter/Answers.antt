use Rattle.std.proofs.Common.{rules, ◌∷◌, [], sym, ap, ◌∙◌}
use Rattle.am_types.specs.Members.{Member, changes}
use Rattle.am_fits.specs.Indexes.{Indexed}
use Rattle.am_store.proofs.Grows.{may_admit, not_held, grown}
use Rattle.am_store.proofs.growing.enter.Goals as goal

pub admit-requires : goal.admit-requires
admit-requires c = may_admit c.args.graph.now c.args.index.now (record { hash = c.args.hash; change = c.args.change.now }) c.requires

pub returns-clause-of_set : goal.returns-clause-of_set
returns-clause-of_set c =
    let m : Member = record { hash = c.args.hash; change = c.args.change.now } in
    grown c.args.graph.now c.add-added.new.self c.args.index.now c.admit.new.self m (not_held c.args.graph.now c.args.index.now m c.requires) (search rules) c.in_ok-admit.ensures.changes

pub returns-then-is_err-clause-index : goal.returns-then-is_err-clause-index
returns-then-is_err-clause-index c =
    let before = c.requires.of_set.index in
    let kept = changes c.requires.set in
    c.cut.ensures kept (c.args.change.now ∷ []) (c.in_ok-admit.ensures.changes kept before) (c.totals-totals.ensures ∙ ap (λ (x : Indexed). x.totals) before) ∙ sym before
