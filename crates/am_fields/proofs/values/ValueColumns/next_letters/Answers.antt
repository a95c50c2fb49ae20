use Rattle.std.proofs.Common.{◌∙◌, sym}
use Rattle.am_fields.proofs.Runs.{letters_piece}
use Rattle.am_fields.proofs.values.ValueColumns.next_letters.Goals as goal

pub overflow_sub-self : goal.overflow_sub-self
overflow_sub-self c = (letters_piece c.self.inside.left c.next_letters-letters.result.now c.self.inside.cursor _ c.self.invariant c.next_letters-letters.ensures.next).few

pub invariant_of-self : goal.invariant_of-self
invariant_of-self c = (letters_piece c.self.inside.left c.next_letters-letters.result.now c.self.inside.cursor _ c.self.invariant c.next_letters-letters.ensures.next).full

pub returns-clause-next : goal.returns-clause-next
returns-clause-next c = sym c.self.view_is ∙ (letters_piece c.self.inside.left c.next_letters-letters.result.now c.self.inside.cursor _ c.self.invariant c.next_letters-letters.ensures.next).letters
