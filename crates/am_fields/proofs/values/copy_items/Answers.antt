use Rattle.std.proofs.Common.{◌≡◌, ◌<◌, ◌++◌, ◌∙◌, length, Some, None, sym, ap, subst, arith}
use Rattle.std.specs.Prelude.{OnOk, IfSome, unwrap_or}
use Rattle.am_runs.proofs.Spelled.{map_replicate}
use Rattle.am_fields.specs.Filling.{read_as}
use Rattle.am_fields.specs.Extras.{blank}
use Rattle.am_fields.proofs.Filled.{filled_nothing, filled_something}
use Rattle.am_fields.proofs.values.copy_items.Goals as goal

pub returns-then-left-eq0-clause-ok : goal.returns-then-left-eq0-clause-ok
returns-then-left-eq0-clause-ok c =
    let none : length c.args.from.now ≡ 0 = omega arith in
    let same = sym (map_replicate (λ x. unwrap_or x blank) c.args.n None) ∙ ap (read_as blank) (filled_nothing None c.args.n c.args.from.now none) in
    subst (λ l. OnOk c.push_nulls.result (IfSome c.args.to.now (λ items. c.push_nulls.new.self ≡ Some (items ++ l)))) same c.push_nulls.ensures.ok

pub returns-clause-ok : goal.returns-clause-ok
returns-clause-ok c =
    let some : 0 < length c.args.from.now = omega arith in
    subst (λ l. OnOk c.take.result (IfSome c.args.to.now (λ items. c.take.new.self ≡ Some (items ++ l)))) (ap (read_as blank) (filled_something None c.args.n c.args.from.now some)) c.take.ensures.ok
