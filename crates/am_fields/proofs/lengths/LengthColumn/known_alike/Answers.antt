use Rattle.std.proofs.Common.{◌∙◌, take, replicate, sym, ap}
use Rattle.std.specs.Prelude.{unwrap_or}
use Rattle.am_fields.proofs.Runs.{counts_alike}
use Rattle.am_fields.proofs.lengths.LengthColumn.known_alike.Goals as goal

pub returns-in-Some-clause-like : goal.returns-in-Some-clause-like
returns-in-Some-clause-like c =
    let known = c.known_alike-item in
    ap (take known.result.1) (sym c.self.view_is) ∙ counts_alike known.result.1 known.result.0 c.self.inside.column known.ensures.like ∙ ap (λ item. replicate known.result.1 (unwrap_or item 0)) c.in-Some.is

pub returns-in-None-clause-like : goal.returns-in-None-clause-like
returns-in-None-clause-like c =
    let known = c.known_alike-item in
    ap (take known.result.1) (sym c.self.view_is) ∙ counts_alike known.result.1 known.result.0 c.self.inside.column known.ensures.like ∙ ap (λ item. replicate known.result.1 (unwrap_or item 0)) c.in-None.is
