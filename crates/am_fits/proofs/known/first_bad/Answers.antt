use Rattle.std.proofs.Common.{◌≡◌, ◌∙◌, get_or, ap, sym, below_more}
use Rattle.am_types.specs.declared.Op.{Op}
use Rattle.am_fits.specs.Past.{Past}
use Rattle.am_fits.specs.Told.{told, own, good_by, IsGoodAt}
use Rattle.am_fits.proofs.ReadLists.{read_at}
use Rattle.am_fits.proofs.known.first_bad.Goals as goal

pub loop-k-preserved : goal.loop-k-preserved
loop-k-preserved g c =
    let past = c.args.ancestors.now in
    let change = g.C.ReadChange.change c.args.change.now in
    let k = c.loop-k.k in
    let op = g.C.Op.ReadOp.op c.index-ops-k.result in
    let h = c.loop-k.invariant in
    let at : (d : Op) → get_or change.ops k d ≡ op = read_at g.C.Op.ReadOp.op c.ops-ops.result.now change.ops c.ops-ops.ensures k c.index-ops-k.result c.loop-k-test.true c.index-ops-k.is in
    record {
      same = c.is_good.ensures.same ∙ h.same;
      good = below_more (IsGoodAt past.clock past.facts change) k h.good
          (λ d. ap (λ (o : Op). good_by (told past.clock past.facts change k) (own change k o)) (at d)
          ∙ ap (λ (p : Past). good_by (told p.clock p.facts change k) (own change k op)) (sym h.same)
          ∙ sym c.is_good.ensures.good ∙ c.if-not-is_good.false);
    }
