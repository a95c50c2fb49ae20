use Rattle.std.proofs.Common.{arith, sym, subst, ◌∙◌, ◌^◌}
use Rattle.std.specs.Option.{option_copied, option_map}
use Rattle.am_runs.specs.Items.{text_of}
use Rattle.am_runs.specs.Items.{text_end}
use Rattle.am_runs.specs.Typed.{AllItems, texts}
use Rattle.am_runs.proofs.Taken.{AllItems-behind, held_first, held_none, fits_taken, taken_number}
use Rattle.am_runs.proofs.text.TextCursor.next.Goals as goal

pub returns-then-self-gt0-clause-next : goal.returns-then-self-gt0-clause-next
returns-then-self-gt0-clause-next c = sym c.self.view_is ∙ held_first c.self.inside.more (option_map (λ s. s.now) c.self.inside.value) (texts c.self.inside.runs) (omega arith)

pub invariant_of-self-in-Some-next_alike : goal.invariant_of-self-in-Some-next_alike
invariant_of-self-in-Some-next_alike c =
    let e = sym (c.in-None.ensures.none ∙ c.enter.ensures) ∙ c.in-Some-next_alike.ensures.next.1 in (
      AllItems-behind _ c.in-Some-next_alike.k _ c.next_alike.new.self (subst (AllItems text_end) e c.self.invariant.0),
      omega (arith, fits_taken c.in-Some-next_alike.k _ c.self.inside.runs c.next_alike.new.self (2 ^ 64) e (omega (arith, c.self.invariant.1))),
    )

pub returns-in-Some-next_alike-clause-next : goal.returns-in-Some-next_alike-clause-next
returns-in-Some-next_alike-clause-next c =
    let e = sym (c.in-None.ensures.none ∙ c.enter.ensures) ∙ c.in-Some-next_alike.ensures.next.1 in
    sym c.self.view_is ∙ held_none c.self.inside.more (option_map (λ s. s.now) c.self.inside.value) (texts c.self.inside.runs) (omega arith)
    ∙ taken_number text_of c.in-Some-next_alike.k (option_copied c.in-Some-next_alike.entry) (option_map (λ s. s.now) c.text_or_null-self-inside.result) c.self.inside.runs c.next_alike.new.self c.in-Some-next_alike.ensures.next.0 e c.text_or_null-self-inside.ensures
