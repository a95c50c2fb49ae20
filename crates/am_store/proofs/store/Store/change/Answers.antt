use Rattle.std.proofs.Common.{◌≡◌, Some, true, sym, ap, subst, ◌∙◌}
use Rattle.am_types.specs.Members.{holds}
use Rattle.am_graph.specs.Graphs.{nodes}
use Rattle.am_delivery.specs.Waiting.{members_of}
use Rattle.am_store.specs.Kept.{Kept}
use Rattle.am_store.specs.Saved.{chunk_in}
use Rattle.am_store.proofs.Picking.{found, chunk_found, none_chunk, fine_found}
use Rattle.am_store.proofs.Wholes.{lent}
use Rattle.am_store.proofs.store.Store.change.Goals as goal

pub returns-then-not-holds : goal.returns-then-not-holds
returns-then-not-holds c =
    let C = members_of c.self.inside.closed.entries in
    none_chunk C c.args.hash.now (sym (c.holds.ensures.set C c.self.invariant.of_set.graph) ∙ c.if-not-holds.true) ∙ ap (λ (k : Kept). chunk_in k.closed c.args.hash.now) c.self.view_is

pub listed-requires : goal.listed-requires
listed-requires c = (members_of c.self.inside.closed.entries, lent c.self.inside c.self.invariant c.as_slice.result.now c.as_slice.ensures, c.self.invariant.of_set.graph)

pub change_at-change-requires-clause-of_set : goal.change_at-change-requires-clause-of_set
change_at-change-requires-clause-of_set c =
    let is = lent c.self.inside c.self.invariant c.as_slice.result.now c.as_slice.ensures in
    let listed = c.in_ok-entries.ensures (members_of c.self.inside.closed.entries) is c.self.invariant.of_set.graph in
    c.self.invariant.of_set.graph ∙ ap nodes (sym (ap members_of c.as_slice-2.ensures.value ∙ listed))

pub change_at-change-requires-clause-held : goal.change_at-change-requires-clause-held
change_at-change-requires-clause-held c =
    let C = members_of c.self.inside.closed.entries in
    let is = lent c.self.inside c.self.invariant c.as_slice.result.now c.as_slice.ensures in
    let listed = c.in_ok-entries.ensures C is c.self.invariant.of_set.graph in
    subst (λ D. holds D c.args.hash.now ≡ true) (sym (ap members_of c.as_slice-2.ensures.value ∙ listed)) (sym (c.holds.ensures.set C c.self.invariant.of_set.graph) ∙ c.if-not-holds.false)

pub chunk_of-requires : goal.chunk_of-requires
chunk_of-requires c =
    let C = members_of c.self.inside.closed.entries in
    let is = lent c.self.inside c.self.invariant c.as_slice.result.now c.as_slice.ensures in
    let listed = c.in_ok-entries.ensures C is c.self.invariant.of_set.graph in
    let there : found C c.args.hash.now ≡ Some c.change_at-change.result.now = subst (λ D. found D c.args.hash.now ≡ Some c.change_at-change.result.now) (ap members_of c.as_slice-2.ensures.value ∙ listed) c.change_at-change.ensures in
    fine_found C c.args.hash.now c.change_at-change.result.now there (c.valid_sets_keep_rules.ensures C c.self.invariant.kept.stored.valid).members

pub returns : goal.returns
returns c =
    let C = members_of c.self.inside.closed.entries in
    let is = lent c.self.inside c.self.invariant c.as_slice.result.now c.as_slice.ensures in
    let listed = c.in_ok-entries.ensures C is c.self.invariant.of_set.graph in
    let there : found C c.args.hash.now ≡ Some c.change_at-change.result.now = subst (λ D. found D c.args.hash.now ≡ Some c.change_at-change.result.now) (ap members_of c.as_slice-2.ensures.value ∙ listed) c.change_at-change.ensures in
    chunk_found C c.args.hash.now c.change_at-change.result.now c.in_ok-chunk_of.field-0 there c.in_ok-chunk_of.ensures ∙ ap (λ (k : Kept). chunk_in k.closed c.args.hash.now) c.self.view_is
