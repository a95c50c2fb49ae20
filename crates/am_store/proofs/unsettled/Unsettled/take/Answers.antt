use Rattle.std.proofs.Common.{◌≡◌, List, ◌++◌, length, vec_items, sym, ap, subst, ◌∙◌}
use Rattle.am_types.specs.Members.{Member}
use Rattle.am_types.specs.Deliver.{AreStored}
use Rattle.am_delivery.specs.Waiting.{members_of, unboxed, waiting_of, IsTracked}
use Rattle.am_delivery.proofs.Boxes.{unboxed_length, waiting_count}
use Rattle.am_store.specs.Kept.{Kept, IsKept, Takes}
use Rattle.am_store.specs.Unsettled.{unsettled_in}
use Rattle.am_store.specs.declared.report.Report.{Report}
use Rattle.am_store.proofs.AnyOrder.{in_any_order}
use Rattle.am_store.proofs.Taking.{rests, both_own, kept_after, takes}
use Rattle.am_store.proofs.unsettled.Unsettled.take.Goals as goal

abbrev kept_of : List Member → List Member → Kept
kept_of C W = record { closed = C; waiting = W }

pub deliver-requires-clause-rest : goal.deliver-requires-clause-rest
deliver-requires-clause-rest c = c.self.invariant.rest

pub deliver-requires-clause-stored : goal.deliver-requires-clause-stored
deliver-requires-clause-stored c =
    subst (λ C. AreStored C (waiting_of c.self.inside.waiting.changes)) (sym c.self.invariant.rest) c.self.invariant.kept.stored

pub deliver-requires-clause-tracked : goal.deliver-requires-clause-tracked
deliver-requires-clause-tracked c =
    subst (λ C. IsTracked C (waiting_of c.self.inside.waiting.changes) c.self.inside.waiting.pending) (sym c.self.invariant.rest) c.self.invariant.tracked

pub deliver-requires-clause-admitted : goal.deliver-requires-clause-admitted
deliver-requires-clause-admitted c = both_own (unsettled_in c.self.inside) c.self.invariant.kept (members_of (vec_items c.args.changes)) c.requires.own_hashes

pub invariant_of-self : goal.invariant_of-self
invariant_of-self c =
    let s = c.self.inside.set in
    let W = waiting_of c.self.inside.waiting.changes in
    let cut = c.cut.new.self in
    let closed : members_of cut.old ≡ members_of s.old = (λ i. members_of (c.cut.ensures i).old) ∙ c.in_default.ensures.base in
    let same : ◌≡◌ {A = Kept} (kept_of (members_of cut.old) (waiting_of c.deliver.new.waiting)) (kept_of (members_of s.old) W) = (λ i. record { closed = closed i; waiting = c.in_default.ensures.err i }) in
    record {
      rest = rests c.deliver.new.closed.old cut c.cut.ensures;
      kept = subst IsKept (sym same) c.self.invariant.kept;
      tracked = subst (IsTracked (members_of cut.old) (waiting_of c.deliver.new.waiting)) (sym c.in_default.ensures.unknown) tt;
    }

pub returns-in_default-clause-err : goal.returns-in_default-clause-err
returns-in_default-clause-err c =
    let closed : members_of c.cut.new.self.old ≡ members_of c.self.inside.set.old = (λ i. members_of (c.cut.ensures i).old) ∙ c.in_default.ensures.base in
    (λ i. record { closed = closed i; waiting = c.in_default.ensures.err i }) ∙ c.self.view_is

pub invariant_of-self-2 : goal.invariant_of-self-2
invariant_of-self-2 c =
    let s = c.self.inside.set in
    let W = waiting_of c.self.inside.waiting.changes in
    let h = c.deliver.new.closed in
    let w = c.deliver.new.waiting in
    let did = c.in-Ok.ensures in
    record {
      rest = did.rest;
      kept = kept_after s.old W (members_of (vec_items c.args.changes)) (members_of (s.old ++ s.fresh)) (members_of (h.old ++ h.fresh)) (members_of h.old) (waiting_of w) (unboxed c.in-Ok.settled.joined.items)
          c.self.invariant.rest did.closed did.waiting did.stored did.joined did.rest c.keeps_what_came.ensures c.self.invariant.kept.own_hashes c.requires.own_hashes;
      tracked = subst (λ C. IsTracked C (waiting_of w) c.deliver.new.pending) did.rest did.tracked;
    }

pub returns-clause-ok : goal.returns-clause-ok
returns-clause-ok c =
    let s = c.self.inside.set in
    let W = waiting_of c.self.inside.waiting.changes in
    let L = members_of (vec_items c.args.changes) in
    let h = c.deliver.new.closed in
    let w = c.deliver.new.waiting in
    let did = c.in-Ok.ensures in
    let joined = unboxed c.in-Ok.settled.joined.items in
    let count : c.count_of.result ≡ length joined = c.count_of.ensures ∙ ap length c.as_slice.ensures.value ∙ unboxed_length c.in-Ok.settled.joined.items in
    let report : Report = record { added = c.count_of.result; waiting = c.count.result; rejected = c.in-Ok.settled.rejected } in
    subst (λ (o : Kept). Takes o L report (kept_of (members_of h.old) (waiting_of w))) c.self.view_is
    (takes s.old W L (members_of (s.old ++ s.fresh)) (members_of (h.old ++ h.fresh)) (members_of h.old) (waiting_of w) joined c.self.invariant.rest did.closed did.waiting did.stored did.joined did.rest
    c.in-Ok.settled.rejected c.count_of.result c.count.result did.rejected count (c.count.ensures ∙ waiting_count w))

pub returns-clause-order : goal.returns-clause-order
returns-clause-order c =
    let report : Report = record { added = c.count_of.result; waiting = c.count.result; rejected = c.in-Ok.settled.rejected } in
    let new : Kept = kept_of (members_of c.deliver.new.closed.old) (waiting_of c.deliver.new.waiting) in
    let kept = subst IsKept c.self.view_is c.self.invariant.kept in
    in_any_order c.listing_is_free.ensures c.args.self.now new (members_of (vec_items c.args.changes)) report kept c.requires.may_come (returns-clause-ok c) c.order_is_free.ensures
