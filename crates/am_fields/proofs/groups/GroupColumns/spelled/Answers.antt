use Rattle.std.proofs.Common.{arith, refl, sym, map, length, ◌∙◌}
use Rattle.std.proofs.lemmas.List.{length-map}
use Rattle.am_fields.specs.Columns.{SpellsNumbers}
use Rattle.am_fields.specs.Layout.{flat}
use Rattle.am_fields.specs.Groups.{counts}
use Rattle.am_fields.proofs.ReadAs.{Reads-items}
use Rattle.am_fields.proofs.GroupLaws.{SpellsGroups-parts, lengths-if_spelled, length-parts, length-counts}
use Rattle.am_fields.proofs.groups.GroupColumns.spelled.Goals as goal

pub spelled-column-requires : goal.spelled-column-requires
spelled-column-requires c =
    let kn = c.requires.1 in
    let found = Reads-items SpellsNumbers 0 c.args.group.now (map length c.requires.0) kn.group_column in
    (found.0, found.1, found.2 ∙ length-map c.requires.0 length ∙ c.requires.2)

pub sum_of-total-requires : goal.sum_of-total-requires
sum_of-total-requires c =
    let kn = c.requires.1 in
    let told = lengths-if_spelled c.args.group.now c.spelled-column.result c.spelled-column.ensures.spelled c.requires.0 kn.group_column (c.requires.2 ∙ sym c.spelled-column.ensures.count) in
    let few = kn.few in
    omega (arith, told, few)

pub spelled-ids-requires : goal.spelled-ids-requires
spelled-ids-requires c = λ k.
    let kn = c.requires.1 in
    let told = lengths-if_spelled c.args.group.now c.spelled-column.result c.spelled-column.ensures.spelled c.requires.0 kn.group_column (c.requires.2 ∙ sym c.spelled-column.ensures.count) in
    ((refl, tt), (flat c.requires.0, kn.ids, sym told ∙ sym c.sum_of-total.ensures))

pub invariant_of-result : goal.invariant_of-result
invariant_of-result c = sym c.sum_of-total.ensures ∙ sym c.spelled-ids.ensures.count

pub returns-clause-spelled : goal.returns-clause-spelled
returns-clause-spelled c =
    let kn = c.requires.1 in
    let told = lengths-if_spelled c.args.group.now c.spelled-column.result c.spelled-column.ensures.spelled c.requires.0 kn.group_column (c.requires.2 ∙ sym c.spelled-column.ensures.count) in
    let few = kn.few in
    SpellsGroups-parts c.args.actors.now c.args.group.now c.args.actor.now c.args.counter.now c.spelled-column.result c.spelled-ids.result c.spelled-column.ensures.spelled c.spelled-ids.ensures.spelled
    (sym c.sum_of-total.ensures ∙ sym c.spelled-ids.ensures.count)
    (omega (arith, told, few))

pub returns-clause-count : goal.returns-clause-count
returns-clause-count c = length-parts (counts c.spelled-column.result) c.spelled-ids.result ∙ length-counts c.spelled-column.result ∙ c.spelled-column.ensures.count
