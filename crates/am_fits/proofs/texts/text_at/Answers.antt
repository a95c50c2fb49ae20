use Rattle.std.proofs.Common.{ℕ, ◌≡◌, ◌∙◌, List, [], Option, Some, None, sym, inl, inr}
use Rattle.std.proofs.lemmas.List.{get_or_past}
use Rattle.std.proofs.lemmas.Option.{slice_get_cases}
use Rattle.am_fits.proofs.texts.text_at.Goals as goal

none : (t : List ℕ) → ◌≡◌ {A = Option (List ℕ)} None (Some t) → ⊥
none t e = cc

pub returns-in-None : goal.returns-in-None
returns-in-None c = elim (slice_get_cases c.args.texts.now c.args.number).1 [
  | inl x ↦ absurd (none x.0 (c.in-None.ensures ∙ x.2))
  | inr past ↦ sym (get_or_past c.args.texts.now c.args.number [] past.0)
]
