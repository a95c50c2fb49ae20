use Rattle.std.proofs.Common.{◌≡◌, ◌-◌, ◌++◌, Some, take, drop, replicate, arith, ap, ◌∙◌, subst}
use Rattle.std.specs.Prelude.{IfSome}
use Rattle.am_fields.proofs.Ahead.{drop-ahead, drop-behind, take-ahead, take-behind, appended_both}
use Rattle.am_fields.proofs.flags.CountedColumn+bool+FlagCursor.copy_to.Goals as goal

pub returns-then-n-self-clause-ok : goal.returns-then-n-self-clause-ok
returns-then-n-self-clause-ok c =
    let few = c.if-n-self.true in
    let first = take-ahead c.args.n c.self.inside.alike c.self.inside.item c.self.inside.behind (omega arith) ∙ ap (take c.args.n) c.self.view_is in
    subst (λ l. IfSome c.args.to.now (λ flags. c.push_alike.new.self ≡ Some (flags ++ l))) first c.in_ok-push_alike.ensures.ok

pub returns-then-n-self-clause-behind : goal.returns-then-n-self-clause-behind
returns-then-n-self-clause-behind c =
    let few = c.if-n-self.true in
    drop-ahead c.args.n c.self.inside.alike c.self.inside.item c.self.inside.behind (omega arith) ∙ ap (drop c.args.n) c.self.view_is

pub returns-clause-ok : goal.returns-clause-ok
returns-clause-ok c =
    let many = c.if-n-self.false in
    let alike = c.self.inside.alike in
    let first = take-behind c.args.n alike c.self.inside.item c.self.inside.behind (omega arith) ∙ ap (take c.args.n) c.self.view_is in
    appended_both c.args.to.now c.push_alike-2.new.self c.copy_to.new.to (replicate alike c.self.inside.item) (take (c.args.n - alike) c.again-from.result) (take c.args.n c.args.self.now)
    c.in_ok-push_alike-2.ensures.ok c.in_ok-copy_to.ensures.ok (ap (λ l. replicate alike c.self.inside.item ++ take (c.args.n - alike) l) c.again-from.ensures ∙ first)

pub returns-clause-behind : goal.returns-clause-behind
returns-clause-behind c =
    let many = c.if-n-self.false in
    let alike = c.self.inside.alike in
    c.in_ok-copy_to.ensures.behind ∙ ap (drop (c.args.n - alike)) c.again-from.ensures
    ∙ drop-behind c.args.n alike c.self.inside.item c.self.inside.behind (omega arith) ∙ ap (drop c.args.n) c.self.view_is
