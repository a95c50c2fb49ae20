use Rattle.std.proofs.Common.{◌≡◌, [], length, sym, ap, subst, ◌∙◌}
use Rattle.am_types.specs.Documents.{table}
use Rattle.am_doc.specs.Contents.{body}
use Rattle.am_fits.specs.Indexes.{AreOf}
use Rattle.am_delivery.specs.Waiting.{members_of, waiting_of}
use Rattle.am_store.specs.Kept.{Kept, IsKept, Takes}
use Rattle.am_store.specs.declared.report.Report.{Report}
use Rattle.am_store.proofs.Adopting.{adopted_kept, adopted_takes}
use Rattle.am_store.proofs.AnyOrder.{in_any_order}
use Rattle.am_store.proofs.Counting.{counted_of}
use Rattle.am_store.proofs.store.Store.put_in.Goals as goal

pub invariant_of-self : goal.invariant_of-self
invariant_of-self c =
    let es = c.args.entries.now in
    let b = c.args.built.now in
    let W = waiting_of c.self.inside.waiting.changes in
    let none : W ≡ [] = ap (λ (k : Kept). k.waiting) (c.self.view_is ∙ c.requires.empty) in
    let all : c.of-self-inside.result.entries ≡ es = c.of-self-inside.ensures in
    let M = members_of c.of-self-inside.result.entries in
    let of : AreOf M c.exchange.new.graph c.exchange.new.index =
    subst (λ g. AreOf M g c.exchange.new.index) (sym c.exchange.ensures.graph) (subst (λ i. AreOf M b.graph i) (sym c.exchange.ensures.index) (subst (λ l. AreOf (members_of l) b.graph b.index) (sym all) c.requires.built.of_set)) in
    let kept : IsKept (record { closed = members_of es; waiting = W }) = adopted_kept es W none c.requires.built.valid c.valid_sets_keep_rules.ensures c.requires.own_hashes in
    record {
      kept = subst (λ l. IsKept (record { closed = members_of l; waiting = W })) (sym all) kept;
      contents = c.requires.contents ∙ ap (λ l. body (table (members_of l))) (sym all);
      of_set = of;
      counts = counted_of (record { closed = M; waiting = W }) c.exchange.new.graph c.exchange.new.index of c.totals.result 0 (ap length (sym none)) c.totals.ensures c.counted-self-inside.result c.counted-self-inside.ensures;
      tracked = tt;
    }

pub returns-clause-takes : goal.returns-clause-takes
returns-clause-takes c =
    let es = c.args.entries.now in
    let W = waiting_of c.self.inside.waiting.changes in
    let none : W ≡ [] = ap (λ (k : Kept). k.waiting) (c.self.view_is ∙ c.requires.empty) in
    let report : Report = record { added = c.count_of.result; waiting = 0; rejected = c.new.result } in
    subst (λ l. Takes c.args.self.now (members_of es) report (record { closed = members_of l; waiting = W })) (sym c.of-self-inside.ensures)
    (adopted_takes es W none c.requires.built.valid c.comes_back.ensures c.args.self.now c.count_of.result c.new.result c.requires.empty c.count_of.ensures c.new.ensures)

pub returns-clause-order : goal.returns-clause-order
returns-clause-order c =
    let C = members_of c.args.entries.now in
    let new : Kept = record { closed = members_of c.of-self-inside.result.entries; waiting = waiting_of c.self.inside.waiting.changes } in
    let report : Report = record { added = c.count_of.result; waiting = 0; rejected = c.new.result } in
    let kept = subst IsKept c.self.view_is c.self.invariant.kept in
    let come = (c.valid_sets_keep_rules.ensures C c.requires.built.valid).members in
    in_any_order c.listing_is_free.ensures c.args.self.now new C report kept come (returns-clause-takes c) c.order_is_free.ensures
