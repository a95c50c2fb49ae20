use Rattle.std.proofs.Common.{◌≡◌, length, rules}
use Rattle.am_fields.proofs.GroupLaws.{SpellsValues-full}
use Rattle.am_fields.proofs.GivenAlike.{values_not_given, values_not_so_many, numbers_stand}
use Rattle.am_fields.proofs.values.ValueColumns.given.Goals as goal

pub returns-in_default-clause-err : goal.returns-in_default-clause-err
returns-in_default-clause-err c = λ vs s g n. values_not_given c.args.numbers.now c.args.raw.now c.args.count c.in_default.ensures.err vs s g

pub returns-then-left-count-clause-err : goal.returns-then-left-count-clause-err
returns-then-left-count-clause-err c = λ vs s g n. values_not_so_many c.args.numbers.now c.args.raw.now c.args.count c.in-Ok.cursor c.in-Ok.ensures.ok.0 (search rules) vs s g

pub returns-clause-spelled : goal.returns-clause-spelled
returns-clause-spelled c =
    let n : length c.in-Ok.cursor ≡ c.args.count = search rules in
    SpellsValues-full c.args.count c.args.numbers.now c.args.raw.now c.in-Ok.cursor n c.in-Ok.ensures.ok.0

pub returns-clause-given : goal.returns-clause-given
returns-clause-given c =
    let n : length c.in-Ok.cursor ≡ c.args.count = search rules in
    numbers_stand c.args.numbers.now c.args.raw.now c.args.count c.in-Ok.cursor c.in-Ok.ensures.ok.0 c.in-Ok.ensures.ok.1 n
