use Rattle.std.proofs.Common.{◌≡◌, sym, ap, subst, ◌∙◌}
use Rattle.am_types.specs.Documents.{table}
use Rattle.am_doc.specs.Contents.{body}
use Rattle.am_fits.specs.Indexes.{AreOf}
use Rattle.am_delivery.specs.Waiting.{members_of, waiting_of, IsTracked}
use Rattle.am_store.specs.Kept.{Kept, IsKept, counts_of}
use Rattle.am_store.specs.Unsettled.{unsettled_in}
use Rattle.am_store.proofs.Taking.{closed_own}
use Rattle.am_store.proofs.unsettled.Unsettled.into_store.Goals as goal

pub into_parts-closed-requires-clause-contents : goal.into_parts-closed-requires-clause-contents
into_parts-closed-requires-clause-contents c = record {
  valid = c.self.invariant.kept.stored.valid;
  own_hashes = closed_own (unsettled_in c.self.inside) c.self.invariant.kept;
  bytes_are = c.requires ∙ ap (λ (k : Kept). body (table k.closed)) (sym c.self.view_is);
}

pub invariant_of-result : goal.invariant_of-result
invariant_of-result c =
    let u = c.self.inside in
    let W = waiting_of u.waiting.changes in
    let parts = c.into_parts-closed.result in
    let are = c.into_parts-closed.ensures in
    let closed : members_of u.set.old ≡ members_of parts.closed.entries = ap members_of (sym are.closed) in
    let same : ◌≡◌ {A = Kept} (unsettled_in u) (record { closed = members_of parts.closed.entries; waiting = W }) = (λ i. record { closed = closed i; waiting = W }) in
    record {
      kept = subst IsKept same c.self.invariant.kept;
      contents = are.contents.bytes_are ∙ ap (λ C. body (table C)) closed;
      of_set = subst (λ C. AreOf C parts.graph parts.index) closed are.of_set;
      counts = c.counts-counts.ensures ∙ ap counts_of (sym c.self.view_is ∙ same);
      tracked = subst (λ C. IsTracked C W u.waiting.pending) closed c.self.invariant.tracked;
    }

pub returns : goal.returns
returns c =
    let u = c.self.inside in
    let W = waiting_of u.waiting.changes in
    let same : ◌≡◌ {A = Kept} (record { closed = members_of c.into_parts-closed.result.closed.entries; waiting = W }) (unsettled_in u) = (λ i. record { closed = members_of (c.into_parts-closed.ensures.closed i); waiting = W }) in
    same ∙ c.self.view_is
