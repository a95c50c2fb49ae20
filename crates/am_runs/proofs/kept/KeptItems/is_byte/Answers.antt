use Rattle.std.proofs.Common.{◌≡◌, ◌-◌, false, true, length, ap, ◌∙◌, arith}
use Rattle.std.proofs.lemmas.List.{length-drop}
use Rattle.am_runs.proofs.kept.KeptItems.is_byte.Goals as goal

pub returns-then-self-ne1 : goal.returns-then-self-ne1
returns-then-self-ne1 c =
    let bytes = c.self.inside.bytes.items in
    let size = c.self.inside.size in (
      (λ t. (let q : false ≡ true = t in absurd (cc))),
      (λ e. absurd (c.if-self-ne1.true (omega (arith, ap length (ap (λ k. k.last) c.self.view_is ∙ e), length-drop (length bytes - size) bytes, c.self.invariant)))),
    )
