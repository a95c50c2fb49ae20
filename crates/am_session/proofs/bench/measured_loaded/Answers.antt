use Rattle.std.proofs.Common.{sym, ◌∙◌}
use Rattle.std.proofs.lemmas.Result.{IfOk-weaker}
use Rattle.am_session.proofs.Alike.{document_alike, measured_alike}
use Rattle.am_session.proofs.bench.measured_loaded.Goals as goal

pub measured-requires : goal.measured-requires
measured-requires c =
    c.requires.file ∙ sym (document_alike c.listing_is_free.ensures c.args.store.now.closed c.load.new.second.closed c.graph-graph.ensures.kept.stored.valid c.in_ok-load.ensures)

pub returns : goal.returns
returns c =
    let alike = measured_alike c.listing_is_free.ensures c.args.store.now.closed c.load.new.second.closed c.graph-graph.ensures.kept.stored.valid c.in_ok-load.ensures in
    IfOk-weaker c.measured.result _ _ (λ reply told. told ∙ alike) c.measured.ensures
