use Rattle.std.proofs.Common.{◌≡◌, sym, ap, subst, ◌∙◌}
use Rattle.am_delivery.specs.Waiting.{members_of, waiting_of, IsTracked}
use Rattle.am_store.specs.Grown.{Grown}
use Rattle.am_store.specs.Kept.{Kept, IsKept}
use Rattle.am_store.proofs.Taking.{rests}
use Rattle.am_store.proofs.Wholes.{its_parts}
use Rattle.am_store.proofs.unsettled.Unsettled.over.Goals as goal

pub over-requires : goal.over-requires
over-requires c = its_parts c.store.inside c.store.invariant

pub invariant_of-result : goal.invariant_of-result
invariant_of-result c =
    let s = c.store.inside in
    let es = s.closed.entries in
    let W = waiting_of s.waiting.changes in
    let old : members_of es ≡ members_of c.over.result.old = sym (ap (λ (g : Grown). members_of g.old) c.over.ensures) in
    let same : ◌≡◌ {A = Kept} (record { closed = members_of es; waiting = W }) (record { closed = members_of c.over.result.old; waiting = W }) = (λ i. record { closed = old i; waiting = W }) in
    record {
      rest = rests es c.over.result c.over.ensures;
      kept = subst IsKept same c.store.invariant.kept;
      tracked = subst (λ C. IsTracked C W s.waiting.pending) old c.store.invariant.tracked;
    }

pub returns : goal.returns
returns c =
    let s = c.store.inside in
    let W = waiting_of s.waiting.changes in
    let same : ◌≡◌ {A = Kept} (record { closed = members_of c.over.result.old; waiting = W }) (record { closed = members_of s.closed.entries; waiting = W }) = (λ i. record { closed = members_of (c.over.ensures i).old; waiting = W }) in
    same ∙ c.store.view_is
