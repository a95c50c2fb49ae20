use Rattle.std.proofs.Common.{sym, subst}
use Rattle.am_delivery.specs.Waiting.{members_of}
use Rattle.am_store.specs.Contents.{IsContents}
use Rattle.am_store.proofs.Grows.{begun}
use Rattle.am_store.proofs.Stagings.{none_staged}
use Rattle.am_store.proofs.staging.Staging.over.Goals as goal

pub invariant_of-result : goal.invariant_of-result
invariant_of-result c =
    let of = c.requires in
    let es = c.args.parts.closed.entries in
    record {
      grown = begun es c.none.result.entries c.args.parts.graph c.args.parts.index c.totals-totals.result c.none.ensures of.of_set of.contents.valid c.totals-totals.ensures;
      valid = of.contents.valid;
      contents = subst (λ l. IsContents (members_of l) c.args.parts.contents) (sym c.again.ensures) of.contents;
      staged = none_staged c.again.result.entries es c.new.result.items c.again.ensures c.new.ensures.items;
    }
