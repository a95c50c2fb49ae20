use Rattle.std.proofs.Common.{◌≡◌, ◌<◌, ◌≤◌, ◌++◌, length, Some, false, sym, subst}
use Rattle.std.specs.Prelude.{IfSome}
use Rattle.am_fields.proofs.Filled.{enough_filled, copied}
use Rattle.am_fields.proofs.flags.FilledColumn+bool+FlagCursor.copy_to.Goals as goal

pub copy_items-requires-clause-enough : goal.copy_items-requires-clause-enough
copy_items-requires-clause-enough c =
    subst (λ l. 0 < length l → c.args.n ≤ length l) (sym c.again-from.ensures) (enough_filled false c.args.n c.self.inside.left c.self.inside.cursor _ c.self.invariant c.self.view_is c.requires.enough).1

pub overflow_sub-self : goal.overflow_sub-self
overflow_sub-self c = (enough_filled false c.args.n c.self.inside.left c.self.inside.cursor _ c.self.invariant c.self.view_is c.requires.enough).0

pub invariant_of-self : goal.invariant_of-self
invariant_of-self c = (copied false c.args.n c.self.inside.left c.self.inside.cursor _ _ _ c.self.invariant c.self.view_is c.requires.enough c.again-from.ensures c.in_ok-copy_items.ensures.behind).0

pub returns-clause-ok : goal.returns-clause-ok
returns-clause-ok c =
    let w = copied false c.args.n c.self.inside.left c.self.inside.cursor _ _ _ c.self.invariant c.self.view_is c.requires.enough c.again-from.ensures c.in_ok-copy_items.ensures.behind in
    subst (λ l. IfSome c.args.to.now (λ items. c.copy_items.new.to ≡ Some (items ++ l))) w.2 c.in_ok-copy_items.ensures.ok

pub returns-clause-behind : goal.returns-clause-behind
returns-clause-behind c = (copied false c.args.n c.self.inside.left c.self.inside.cursor _ _ _ c.self.invariant c.self.view_is c.requires.enough c.again-from.ensures c.in_ok-copy_items.ensures.behind).1
