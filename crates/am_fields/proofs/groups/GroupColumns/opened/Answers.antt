use Rattle.std.proofs.Common.{◌≡◌, List, map, arith, length, ◌∙◌, sym}
use Rattle.std.proofs.lemmas.List.{length-map}
use Rattle.am_types.specs.declared.OpId.{OpId}
use Rattle.am_values.specs.declared.Nulls.TheVariants.{AreRefused}
use Rattle.am_fields.specs.Columns.{SpellsNumbers}
use Rattle.am_fields.specs.Layout.{flat}
use Rattle.am_fields.specs.Groups.{counts}
use Rattle.am_fields.specs.Spelling.{SpellsGiven, SpellsGroups}
use Rattle.am_fields.proofs.Filled.{OnErr-from}
use Rattle.am_fields.proofs.ReadAs.{Reads-items}
use Rattle.am_fields.proofs.GroupLaws.{told-given, given-told, SpellsGroups-parts, lengths-if_spelled, length-parts, length-counts}
use Rattle.am_fields.proofs.groups.GroupColumns.opened.Goals as goal

pub returns-in_err-column-clause-err : goal.returns-in_err-column-clause-err
returns-in_err-column-clause-err c = OnErr-from c.from_residual.result ((groups : List (List OpId)) → SpellsGroups c.args.actors.now c.args.group.now c.args.actor.now c.args.counter.now groups → (c.args.nulls ≡ AreRefused → SpellsGiven c.args.count c.args.group.now) → length groups ≡ c.args.count → ⊥) (λ groups spelled given n.
    let found = Reads-items SpellsNumbers 0 c.args.group.now (map length groups) spelled.group_column in
    c.in_err-column.ensures.err found.0 found.1 (found.2 ∙ length-map groups length ∙ n))

pub returns-in_default-clause-err : goal.returns-in_default-clause-err
returns-in_default-clause-err c = λ groups spelled given n.
    let told = lengths-if_spelled c.args.group.now c.in_ok-column.column c.in_ok-column.ensures.spelled groups spelled.group_column (n ∙ sym c.in_ok-column.ensures.count) in
    let few = spelled.few in
    let many = c.in_default.ensures.none (λ f. told-given c.args.count c.args.group.now c.in_ok-column.column c.in_ok-column.ensures.spelled c.in_ok-column.ensures.count (given f)) in
    omega (arith, told, few, many)

pub returns-in_err-ids-clause-err : goal.returns-in_err-ids-clause-err
returns-in_err-ids-clause-err c = OnErr-from c.from_residual-in_err-ids.result ((groups : List (List OpId)) → SpellsGroups c.args.actors.now c.args.group.now c.args.actor.now c.args.counter.now groups → (c.args.nulls ≡ AreRefused → SpellsGiven c.args.count c.args.group.now) → length groups ≡ c.args.count → ⊥) (λ groups spelled given n.
    let told = lengths-if_spelled c.args.group.now c.in_ok-column.column c.in_ok-column.ensures.spelled groups spelled.group_column (n ∙ sym c.in_ok-column.ensures.count) in
    c.in_err-ids.ensures.err (flat groups) spelled.ids (sym told ∙ sym c.in-Some.ensures.some.0))

pub returns-clause-spelled : goal.returns-clause-spelled
returns-clause-spelled c =
    SpellsGroups-parts c.args.actors.now c.args.group.now c.args.actor.now c.args.counter.now c.in_ok-column.column c.in_ok-ids.ids c.in_ok-column.ensures.spelled c.in_ok-ids.ensures.spelled
    (sym c.in-Some.ensures.some.0 ∙ sym c.in_ok-ids.ensures.count)
    (omega (arith, c.in-Some.ensures.some.0, c.in-Some.ensures.some.1))

pub returns-clause-count : goal.returns-clause-count
returns-clause-count c = length-parts (counts c.in_ok-column.column) c.in_ok-ids.ids ∙ length-counts c.in_ok-column.column ∙ c.in_ok-column.ensures.count

pub returns-clause-given : goal.returns-clause-given
returns-clause-given c = λ f. given-told c.args.count c.args.group.now c.in_ok-column.column c.in_ok-column.ensures.spelled c.in_ok-column.ensures.count (c.in-Some.ensures.some.2 f)
