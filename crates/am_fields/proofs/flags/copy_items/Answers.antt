use Rattle.std.proofs.Common.{◌≡◌, ◌<◌, ◌++◌, length, Some, false, subst, arith}
use Rattle.std.specs.Prelude.{OnOk, IfSome}
use Rattle.am_fields.proofs.Filled.{filled_nothing, filled_something}
use Rattle.am_fields.proofs.flags.copy_items.Goals as goal

pub returns-then-left-eq0-clause-ok : goal.returns-then-left-eq0-clause-ok
returns-then-left-eq0-clause-ok c =
    let none : length c.args.from.now ≡ 0 = omega arith in
    subst (λ l. OnOk c.push_alike.result (IfSome c.args.to.now (λ items. c.push_alike.new.self ≡ Some (items ++ l)))) (filled_nothing false c.args.n c.args.from.now none) c.push_alike.ensures.ok

pub returns-clause-ok : goal.returns-clause-ok
returns-clause-ok c =
    let some : 0 < length c.args.from.now = omega arith in
    subst (λ l. OnOk c.take.result (IfSome c.args.to.now (λ items. c.take.new.self ≡ Some (items ++ l)))) (filled_something false c.args.n c.args.from.now some) c.take.ensures.ok
