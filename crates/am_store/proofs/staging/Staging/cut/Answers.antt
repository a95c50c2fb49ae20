use Rattle.std.proofs.Common.{◌≡◌, ◌++◌, sym, ap, subst, ◌∙◌}
use Rattle.am_types.specs.Members.{changes}
use Rattle.am_graph.specs.Graphs.{HasDistinctSeqs}
use Rattle.am_delivery.specs.Waiting.{members_of}
use Rattle.am_store.specs.Grown.{Grown}
use Rattle.am_store.proofs.Grows.{cut_graph, two_parts, count_at_rest}
use Rattle.am_store.proofs.Stagings.{cut_back}
use Rattle.am_store.proofs.Taking.{begins}
use Rattle.am_store.proofs.staging.Staging.cut.Goals as goal

pub cut-requires : goal.cut-requires
cut-requires c =
    let old = c.self.inside.old.entries in
    let fresh = c.self.inside.fresh.entries in
    let are = c.self.invariant.grown in
    subst HasDistinctSeqs (sym are.of_set.graph) (c.valid_sets_have_distinct_seqs.ensures (members_of (old ++ fresh)) are.valid)

pub invariant_of-self : goal.invariant_of-self
invariant_of-self c =
    let s = c.self.inside in
    let inv = c.self.invariant in
    let old = s.old.entries in
    let fresh = s.fresh.entries in
    record {
      grown = cut_back old fresh c.none-self-inside.result.entries s.graph c.cut.new.self s.index c.cut-2.new.self s.totals inv.grown inv.valid c.none-self-inside.ensures (record {
        graph = cut_graph old fresh s.graph c.cut.new.self s.totals.changes (count_at_rest old s.totals inv.grown.totals) inv.grown.of_set.graph c.cut.ensures;
        index = c.cut-2.ensures (changes (members_of old)) (changes (members_of fresh)) (two_parts old fresh s.index inv.grown.of_set.index) inv.grown.totals;
      });
      valid = inv.valid;
      contents = inv.contents;
      staged = inv.staged;
    }

pub returns : goal.returns
returns c =
    let s = c.self.inside in
    let none : ◌≡◌ {A = Grown} (record { old = s.old.entries; fresh = c.none-self-inside.result.entries }) (begins s.old.entries) = (λ i. record { old = s.old.entries; fresh = c.none-self-inside.ensures i }) in
    none ∙ ap (λ (g : Grown). begins g.old) c.self.view_is
