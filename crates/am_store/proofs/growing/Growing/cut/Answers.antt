use Rattle.std.proofs.Common.{◌++◌, refl, sym, subst}
use Rattle.am_types.specs.Members.{changes}
use Rattle.am_graph.specs.Graphs.{HasDistinctSeqs}
use Rattle.am_delivery.specs.Waiting.{members_of}
use Rattle.am_store.specs.Grown.{Grown}
use Rattle.am_store.specs.Growing.{ArePartsOf}
use Rattle.am_store.specs.declared.parts.Parts.{Parts}
use Rattle.am_store.proofs.Grows.{cut_graph, two_parts, count_at_rest}
use Rattle.am_store.proofs.growing.Growing.cut.Goals as goal

pub cut-requires : goal.cut-requires
cut-requires c =
    let old = c.self.inside.old.entries in
    let fresh = c.self.inside.fresh.entries in
    let are = c.self.invariant.grown in
    subst HasDistinctSeqs (sym are.of_set.graph) (c.valid_sets_have_distinct_seqs.ensures (members_of (old ++ fresh)) are.valid)

pub returns : goal.returns
returns c =
    let old = c.self.inside.old.entries in
    let fresh = c.self.inside.fresh.entries in
    let are = c.self.invariant.grown in
    let parts : Parts = record { closed = c.self.inside.old; contents = c.self.inside.contents; graph = c.cut.new.self; index = c.cut-2.new.self } in
    subst (λ (g : Grown). ArePartsOf g.old parts) c.self.view_is (record {
      closed = refl;
      contents = c.self.invariant.contents;
      of_set = record {
        graph = cut_graph old fresh c.self.inside.graph c.cut.new.self c.self.inside.totals.changes (count_at_rest old c.self.inside.totals are.totals) are.of_set.graph c.cut.ensures;
        index = c.cut-2.ensures (changes (members_of old)) (changes (members_of fresh)) (two_parts old fresh c.self.inside.index are.of_set.index) are.totals;
      };
    })
