use Rattle.std.proofs.Common.{◌≡◌, ◌≤◌, ◌<◌, ℕ, Bool, true, false, ◌∙◌, sym, arith, true≢false}
use Rattle.am_json.proofs.written.fault_of.Goals as goal

deeper : (b : Bool) (d : ℕ) → (b ≡ true → d ≤ 127) × (d ≤ 127 → b ≡ true) → b ≡ false → 127 < d
deeper b d h f =
    let no : d ≤ 127 → ⊥ = λ l. true≢false (sym (h.1 l) ∙ f) in
    grind (arith, no)

pub returns-else-nests : goal.returns-else-nests
returns-else-nests c = λ _. deeper _ _ c.nests.ensures c.if-nests.false
