use Rattle.std.proofs.Common.{◌≡◌, List, ◌++◌, length, vec_items, sym, ap, subst, ◌∙◌}
use Rattle.std.specs.Prelude.{IfSome}
use Rattle.am_types.specs.declared.Hash.{Hash}
use Rattle.am_types.specs.declared.Change.{Change}
use Rattle.am_types.specs.Members.{Member}
use Rattle.am_types.specs.Documents.{table}
use Rattle.am_doc.specs.Contents.{body}
use Rattle.am_fits.specs.Indexes.{AreOf}
use Rattle.am_delivery.specs.Waiting.{members_of, unboxed, waiting_of, IsTracked}
use Rattle.am_delivery.proofs.Boxes.{unboxed_length, waiting_count}
use Rattle.am_store.specs.Grown.{Grown, AreHeld}
use Rattle.am_store.specs.Growing.{ArePartsOf}
use Rattle.am_store.specs.Kept.{Kept, IsKept, Takes, counts_of}
use Rattle.am_store.specs.declared.parts.Parts.{Parts}
use Rattle.am_store.specs.declared.report.Report.{Report}
use Rattle.am_store.specs.declared.unseen.Unseen.{Unseen}
use Rattle.am_store.proofs.AnyOrder.{in_any_order}
use Rattle.am_store.proofs.Counting.{counted_of}
use Rattle.am_store.proofs.Taking.{begins, at_start, rests, starts_stored, starts_tracked, both_own, kept_after, takes}
use Rattle.am_store.proofs.Wholes.{its_parts}
use Rattle.am_store.proofs.store.Store.take.Goals as goal

abbrev entries_of : Unseen → List (Hash × Change)
entries_of u = u.entries

abbrev kept_of : List (Hash × Change) → List Member → Kept
kept_of es W = record { closed = members_of es; waiting = W }

pub over-growing-requires-clause-parts : goal.over-growing-requires-clause-parts
over-growing-requires-clause-parts c =
    let s = c.self.inside in
    let same : ◌≡◌ {A = Parts} (record { closed = s.closed; contents = s.contents; graph = s.graph; index = s.index }) (record { closed = c.replace-closed.result; contents = c.replace-contents.result; graph = c.replace-graph.result; index = c.with_room-index.result }) =
    (λ i. record { closed = sym c.replace-closed.ensures.value i; contents = sym c.replace-contents.ensures.value i; graph = sym c.replace-graph.ensures.value i; index = sym (c.with_room-index.ensures ∙ c.replace-index.ensures.value) i }) in
    subst (λ (p : Parts). ArePartsOf p.closed.entries p) same (its_parts s c.self.invariant)

pub over-growing-requires-clause-held : goal.over-growing-requires-clause-held
over-growing-requires-clause-held c =
    let lent = ap entries_of c.replace-closed.ensures.value in
    subst (λ es. AreHeld es c.in_ok-held.held) (sym lent)
    (subst (λ (k : Kept). IfSome c.in_ok-held.held (λ v. members_of (vec_items v) ≡ k.closed)) (sym c.self.view_is) c.in_ok-held.ensures)

pub deliver-requires-clause-rest : goal.deliver-requires-clause-rest
deliver-requires-clause-rest c =
    rests c.self.inside.closed.entries c.over-growing.result (c.over-growing.ensures ∙ ap (λ es. begins es) (ap entries_of c.replace-closed.ensures.value))

pub deliver-requires-clause-stored : goal.deliver-requires-clause-stored
deliver-requires-clause-stored c =
    starts_stored c.self.inside.closed.entries c.over-growing.result (c.over-growing.ensures ∙ ap (λ es. begins es) (ap entries_of c.replace-closed.ensures.value))
    (waiting_of c.self.inside.waiting.changes) c.self.invariant.kept.stored

pub deliver-requires-clause-tracked : goal.deliver-requires-clause-tracked
deliver-requires-clause-tracked c =
    starts_tracked c.self.inside.closed.entries c.over-growing.result (c.over-growing.ensures ∙ ap (λ es. begins es) (ap entries_of c.replace-closed.ensures.value))
    (waiting_of c.self.inside.waiting.changes) c.self.inside.waiting.pending c.self.invariant.tracked

pub deliver-requires-clause-admitted : goal.deliver-requires-clause-admitted
deliver-requires-clause-admitted c =
    both_own (kept_of c.self.inside.closed.entries (waiting_of c.self.inside.waiting.changes)) c.self.invariant.kept (members_of (vec_items c.args.changes)) c.requires.own_hashes

pub invariant_of-self : goal.invariant_of-self
invariant_of-self c =
    let es = c.self.inside.closed.entries in
    let W = waiting_of c.self.inside.waiting.changes in
    let begun : c.over-growing.result ≡ begins es = c.over-growing.ensures ∙ ap (λ l. begins l) (ap entries_of c.replace-closed.ensures.value) in
    let base = c.in_default.ensures.base ∙ ap (λ (g : Grown). members_of g.old) begun in
    let parts = c.cut-parts.result in
    let cut = c.cut-parts.ensures in
    let closed : members_of parts.closed.entries ≡ members_of es = ap members_of cut.closed ∙ base in
    let same : ◌≡◌ {A = Kept} (kept_of parts.closed.entries (waiting_of c.deliver.new.waiting)) (kept_of es W) = (λ i. record { closed = closed i; waiting = c.in_default.ensures.err i }) in
    record {
      kept = subst IsKept (sym same) c.self.invariant.kept;
      contents = cut.contents.bytes_are ∙ ap (λ l. body (table (members_of l))) (sym cut.closed);
      of_set = subst (λ l. AreOf (members_of l) parts.graph parts.index) (sym cut.closed) cut.of_set;
      counts = c.self.invariant.counts ∙ ap counts_of (sym same);
      tracked = subst (IsTracked (members_of parts.closed.entries) (waiting_of c.deliver.new.waiting)) (sym c.in_default.ensures.unknown) tt;
    }

pub returns-in_default-clause-err : goal.returns-in_default-clause-err
returns-in_default-clause-err c =
    let es = c.self.inside.closed.entries in
    let begun : c.over-growing.result ≡ begins es = c.over-growing.ensures ∙ ap (λ l. begins l) (ap entries_of c.replace-closed.ensures.value) in
    let closed : members_of c.cut-parts.result.closed.entries ≡ members_of es = ap members_of c.cut-parts.ensures.closed ∙ c.in_default.ensures.base ∙ ap (λ (g : Grown). members_of g.old) begun in
    (λ i. record { closed = closed i; waiting = c.in_default.ensures.err i }) ∙ c.self.view_is

pub invariant_of-self-2 : goal.invariant_of-self-2
invariant_of-self-2 c =
    let es = c.self.inside.closed.entries in
    let W = waiting_of c.self.inside.waiting.changes in
    let g = c.over-growing.result in
    let h = c.deliver.new.closed in
    let w = c.deliver.new.waiting in
    let did = c.in-Ok.ensures in
    let grown = c.growing.inside in
    let D = members_of grown.old.entries in
    let begun : g ≡ begins es = c.over-growing.ensures ∙ ap (λ l. begins l) (ap entries_of c.replace-closed.ensures.value) in
    let rest : members_of (h.old ++ h.fresh) ≡ D = did.rest ∙ sym (ap (λ (x : Grown). members_of x.old) c.growing.view_is) in
    let all : members_of (grown.old.entries ++ grown.fresh.entries) ≡ D = subst (λ (x : Grown). members_of (x.old ++ x.fresh) ≡ members_of x.old) (sym c.growing.view_is) did.rest in
    let of : AreOf D grown.graph grown.index = subst (λ C. AreOf C grown.graph grown.index) all c.growing.invariant.grown.of_set in
    record {
      kept = kept_after es W (members_of (vec_items c.args.changes)) (members_of (g.old ++ g.fresh)) (members_of (h.old ++ h.fresh)) D (waiting_of w) (unboxed c.in-Ok.settled.joined.items)
          (at_start es g begun) did.closed did.waiting did.stored did.joined rest c.keeps_what_came.ensures c.self.invariant.kept.own_hashes c.requires.own_hashes;
      contents = c.growing.invariant.contents.bytes_are;
      of_set = of;
      counts = counted_of (record { closed = D; waiting = waiting_of w }) grown.graph grown.index of c.totals.result c.count.result (c.count.ensures ∙ waiting_count w) c.totals.ensures c.counted-self-inside.result c.counted-self-inside.ensures;
      tracked = subst (λ C. IsTracked C (waiting_of w) c.deliver.new.pending) rest did.tracked;
    }

pub returns-clause-ok : goal.returns-clause-ok
returns-clause-ok c =
    let es = c.self.inside.closed.entries in
    let W = waiting_of c.self.inside.waiting.changes in
    let L = members_of (vec_items c.args.changes) in
    let g = c.over-growing.result in
    let h = c.deliver.new.closed in
    let w = c.deliver.new.waiting in
    let did = c.in-Ok.ensures in
    let D = members_of c.growing.inside.old.entries in
    let joined = unboxed c.in-Ok.settled.joined.items in
    let begun : g ≡ begins es = c.over-growing.ensures ∙ ap (λ l. begins l) (ap entries_of c.replace-closed.ensures.value) in
    let rest : members_of (h.old ++ h.fresh) ≡ D = did.rest ∙ sym (ap (λ (x : Grown). members_of x.old) c.growing.view_is) in
    let count : c.count_of.result ≡ length joined = c.count_of.ensures ∙ ap length c.as_slice-3.ensures.value ∙ unboxed_length c.in-Ok.settled.joined.items in
    let report : Report = record { added = c.count_of.result; waiting = c.count.result; rejected = c.in-Ok.settled.rejected } in
    subst (λ (o : Kept). Takes o L report (record { closed = D; waiting = waiting_of w })) c.self.view_is
    (takes es W L (members_of (g.old ++ g.fresh)) (members_of (h.old ++ h.fresh)) D (waiting_of w) joined (at_start es g begun) did.closed did.waiting did.stored did.joined rest
    c.in-Ok.settled.rejected c.count_of.result c.count.result did.rejected count (c.count.ensures ∙ waiting_count w))

pub returns-clause-order : goal.returns-clause-order
returns-clause-order c =
    let report : Report = record { added = c.count_of.result; waiting = c.count.result; rejected = c.in-Ok.settled.rejected } in
    let new : Kept = kept_of c.growing.inside.old.entries (waiting_of c.deliver.new.waiting) in
    let kept = subst IsKept c.self.view_is c.self.invariant.kept in
    in_any_order c.listing_is_free.ensures c.args.self.now new (members_of (vec_items c.args.changes)) report kept c.requires.may_come (returns-clause-ok c) c.order_is_free.ensures
