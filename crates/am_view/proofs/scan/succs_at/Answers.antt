use Rattle.std.proofs.Common.{◌≡◌, ◌∷◌, ◌∙◌, [], sym, ap}
use Rattle.am_view.proofs.Scanned.{no_items}
use Rattle.am_view.proofs.scan.succs_at.Goals as goal

pub returns-then-count-eq0 : goal.returns-then-count-eq0
returns-then-count-eq0 c =
    let none : c.pass.ensures.0 ≡ [] = no_items c.pass.ensures.0 (c.requires.count c.pass.ensures.0 c.pass.new.self c.pass.ensures.1 ∙ c.if-count-eq0.true) in
    c.pass.ensures.1 ∙ ap (λ s. s ∷ c.pass.new.self) (none ∙ sym c.clear.ensures)
