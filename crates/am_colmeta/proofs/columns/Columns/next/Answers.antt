use Rattle.std.proofs.Common.{ℕ, ◌≡◌, List, arith, sym, ap, ◌∙◌, subst}
use Rattle.am_colmeta.specs.Metadata.{listing, Ascend}
use Rattle.am_colmeta.proofs.Cutting.{listing-cut}
use Rattle.am_colmeta.proofs.columns.Columns.next.Goals as goal

pub returns-clause-ascend : goal.returns-clause-ascend
returns-clause-ascend c =
    let same : c.self.inside.list ≡ listing c.args.self.now = sym (listing-cut c.self.inside.list c.self.inside.body.now (omega (arith, c.self.invariant.0))) ∙ ap listing c.self.view_is in
    subst (λ (l : List (ℕ × ℕ)). Ascend l) same c.self.invariant.1
