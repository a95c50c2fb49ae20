use Rattle.std.proofs.Common.{rules, ◌≡◌, Some, filter, ap, subst, ◌∙◌}
use Rattle.std.specs.Prelude.{IfErr}
use Rattle.am_types.specs.Order.{hash_cmp, among}
use Rattle.am_types.specs.Members.{changes}
use Rattle.am_types.specs.Ancestors.{ancestors}
use Rattle.am_types.specs.Canonical.{order}
use Rattle.am_graph.specs.Graphs.{nodes, MatchFault}
use Rattle.am_delivery.specs.Waiting.{members_of}
use Rattle.am_store.specs.Kept.{Kept}
use Rattle.am_store.proofs.Picking.{of_ordered, all_held, first_missing}
use Rattle.am_store.proofs.Wholes.{lent}
use Rattle.am_store.proofs.store.Store.ancestors.Goals as goal

pub returns-in_err-hashes-clause-unknown : goal.returns-in_err-hashes-clause-unknown
returns-in_err-hashes-clause-unknown c =
    let of : c.self.inside.graph ≡ nodes c.args.self.now.closed = c.self.invariant.of_set.graph ∙ ap (λ (k : Kept). nodes k.closed) c.self.view_is in
    subst (λ o. IfErr c.from_residual.result (λ fault. MatchFault fault (λ h. o ≡ Some h))) (first_missing c.self.inside.graph c.args.self.now.closed c.args.heads.now of) (search rules)

pub rebuilt-requires : goal.rebuilt-requires
rebuilt-requires c = (members_of c.self.inside.closed.entries, lent c.self.inside c.self.invariant c.as_slice.result.now c.as_slice.ensures)

pub returns-clause-ok : goal.returns-clause-ok
returns-clause-ok c =
    let C = members_of c.self.inside.closed.entries in
    let is = lent c.self.inside c.self.invariant c.as_slice.result.now c.as_slice.ensures in
    let found = c.in_ok-hashes.ensures.ok C c.self.invariant.of_set.graph in
    let listed = c.in_ok-entries.ensures C is in
    c.in_ok-list.ensures
    ∙ (λ i. changes (filter (λ m. among hash_cmp (c.as_slice-3.ensures i) m.hash) (members_of (c.as_slice-2.ensures.value i))))
    ∙ ap (λ D. changes (filter (λ m. among hash_cmp c.in_ok-hashes.hashes m.hash) D)) listed
    ∙ ap changes (of_ordered c.sorting_is_free.ensures c.listing_is_free.ensures C is.valid c.args.heads.now c.in_ok-hashes.hashes found)
    ∙ ap (λ (k : Kept). changes (ancestors (order k.closed) c.args.heads.now)) c.self.view_is

pub returns-clause-held : goal.returns-clause-held
returns-clause-held c =
    let of : c.self.inside.graph ≡ nodes c.args.self.now.closed = c.self.invariant.of_set.graph ∙ ap (λ (k : Kept). nodes k.closed) c.self.view_is in
    all_held c.self.inside.graph c.args.self.now.closed c.args.heads.now of c.in_ok-hashes.ensures.held
