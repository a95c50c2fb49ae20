use Rattle.am_store.proofs.Grows.{begun}
use Rattle.am_store.proofs.growing.Growing.over.Goals as goal

pub invariant_of-result : goal.invariant_of-result
invariant_of-result c =
    let of = c.requires.parts in
    record {
      grown = begun c.args.parts.closed.entries c.none.result.entries c.args.parts.graph c.args.parts.index c.totals-totals.result c.none.ensures of.of_set of.contents.valid c.totals-totals.ensures;
      contents = of.contents;
      held = c.requires.held;
    }
