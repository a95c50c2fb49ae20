use Rattle.std.proofs.Common.{◌≤◌, ◌∙◌, length, drop, None, refl, ap, arith}
use Rattle.std.specs.Prelude.{unwrap_or}
use Rattle.am_runs.proofs.Spelled.{map_drop}
use Rattle.am_fields.specs.Filling.{filled, read_as}
use Rattle.am_fields.specs.Extras.{blank}
use Rattle.am_fields.proofs.Filled.{enough_filled, copied}
use Rattle.am_fields.proofs.ReadAs.{length-read_as}
use Rattle.am_fields.proofs.values.ValueColumns.skip.Goals as goal

pub overflow_sub-self : goal.overflow_sub-self
overflow_sub-self c =
    let items = filled None c.self.inside.left c.self.inside.cursor in
    let enough : c.args.n ≤ length items = omega (arith, c.requires, ap length c.self.view_is, length-read_as blank items) in
    (enough_filled None c.args.n c.self.inside.left c.self.inside.cursor items c.self.invariant refl enough).0

pub invariant_of-self : goal.invariant_of-self
invariant_of-self c =
    let items = filled None c.self.inside.left c.self.inside.cursor in
    let enough : c.args.n ≤ length items = omega (arith, c.requires, ap length c.self.view_is, length-read_as blank items) in
    (copied None c.args.n c.self.inside.left c.self.inside.cursor _ _ items c.self.invariant refl enough refl c.skip.ensures).0

pub returns : goal.returns
returns c =
    let items = filled None c.self.inside.left c.self.inside.cursor in
    let enough : c.args.n ≤ length items = omega (arith, c.requires, ap length c.self.view_is, length-read_as blank items) in
    let w = copied None c.args.n c.self.inside.left c.self.inside.cursor _ _ items c.self.invariant refl enough refl c.skip.ensures in
    ap (read_as blank) w.1 ∙ map_drop (λ x. unwrap_or x blank) c.args.n items ∙ ap (drop c.args.n) c.self.view_is
