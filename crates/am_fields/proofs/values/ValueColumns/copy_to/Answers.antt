use Rattle.std.proofs.Common.{◌≡◌, ◌<◌, ◌≤◌, ◌++◌, ◌∙◌, length, take, drop, Some, None, refl, sym, ap, subst, arith}
use Rattle.std.specs.Prelude.{IfSome, unwrap_or}
use Rattle.am_runs.proofs.Spelled.{map_take, map_drop}
use Rattle.am_fields.specs.Filling.{filled, read_as}
use Rattle.am_fields.specs.Extras.{blank}
use Rattle.am_fields.proofs.Filled.{enough_filled, copied}
use Rattle.am_fields.proofs.ReadAs.{length-read_as}
use Rattle.am_fields.proofs.values.ValueColumns.copy_to.Goals as goal

pub copy_items-requires-clause-enough : goal.copy_items-requires-clause-enough
copy_items-requires-clause-enough c =
    let items = filled None c.self.inside.left c.self.inside.cursor in
    let enough : c.args.n ≤ length items = omega (arith, c.requires.enough, ap length c.self.view_is, length-read_as blank items) in
    subst (λ l. 0 < length l → c.args.n ≤ length l) (sym c.again-from.ensures) (enough_filled None c.args.n c.self.inside.left c.self.inside.cursor _ c.self.invariant refl enough).1

pub overflow_sub-self : goal.overflow_sub-self
overflow_sub-self c =
    let items = filled None c.self.inside.left c.self.inside.cursor in
    let enough : c.args.n ≤ length items = omega (arith, c.requires.enough, ap length c.self.view_is, length-read_as blank items) in
    (enough_filled None c.args.n c.self.inside.left c.self.inside.cursor items c.self.invariant refl enough).0

pub invariant_of-self : goal.invariant_of-self
invariant_of-self c =
    let items = filled None c.self.inside.left c.self.inside.cursor in
    let enough : c.args.n ≤ length items = omega (arith, c.requires.enough, ap length c.self.view_is, length-read_as blank items) in
    (copied None c.args.n c.self.inside.left c.self.inside.cursor _ _ items c.self.invariant refl enough c.again-from.ensures c.in_ok-copy_items.ensures.behind).0

pub returns-clause-ok : goal.returns-clause-ok
returns-clause-ok c =
    let items = filled None c.self.inside.left c.self.inside.cursor in
    let enough : c.args.n ≤ length items = omega (arith, c.requires.enough, ap length c.self.view_is, length-read_as blank items) in
    let w = copied None c.args.n c.self.inside.left c.self.inside.cursor _ _ items c.self.invariant refl enough c.again-from.ensures c.in_ok-copy_items.ensures.behind in
    let same = ap (read_as blank) w.2 ∙ map_take (λ x. unwrap_or x blank) c.args.n items ∙ ap (take c.args.n) c.self.view_is in
    subst (λ l. IfSome c.args.to.now (λ items. c.copy_items.new.to ≡ Some (items ++ l))) same c.in_ok-copy_items.ensures.ok

pub returns-clause-behind : goal.returns-clause-behind
returns-clause-behind c =
    let items = filled None c.self.inside.left c.self.inside.cursor in
    let enough : c.args.n ≤ length items = omega (arith, c.requires.enough, ap length c.self.view_is, length-read_as blank items) in
    let w = copied None c.args.n c.self.inside.left c.self.inside.cursor _ _ items c.self.invariant refl enough c.again-from.ensures c.in_ok-copy_items.ensures.behind in
    ap (read_as blank) w.1 ∙ map_drop (λ x. unwrap_or x blank) c.args.n items ∙ ap (drop c.args.n) c.self.view_is
