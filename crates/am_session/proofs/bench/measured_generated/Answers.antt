use Rattle.std.proofs.Common.{IsPermutation, sym, subst, ◌∙◌}
use Rattle.std.proofs.lemmas.List.Sorted.{IsPermutation-sym}
use Rattle.std.proofs.lemmas.Result.{IfOk-weaker}
use Rattle.am_gen.specs.Made.{made}
use Rattle.am_store.specs.Kept.{Kept}
use Rattle.am_session.specs.Apply.{outcome}
use Rattle.am_session.specs.Bench.{generated}
use Rattle.am_session.proofs.Alike.{measured_alike}
use Rattle.am_session.proofs.bench.measured_generated.Goals as goal

pub returns : goal.returns
returns c =
    let n = c.args.count in
    let store = c.generate.new.store.closed in
    let same : IsPermutation (generated n) store = subst (λ (k : Kept). IsPermutation (outcome k (made n)).closed store) c.requires.none c.in_ok-generate.ensures in
    let alike = sym (measured_alike c.listing_is_free.ensures store (generated n) c.graph-graph.ensures.kept.stored.valid (IsPermutation-sym (generated n) store same)) in
    IfOk-weaker c.measured_again.result _ _ (λ reply told. told ∙ alike) c.measured_again.ensures
