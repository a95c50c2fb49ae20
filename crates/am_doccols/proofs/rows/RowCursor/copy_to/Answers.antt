use Rattle.std.proofs.Common.{length, drop, ap, subst, ◌∙◌}
use Rattle.am_fields.specs.Layout.{flat}
use Rattle.am_fields.specs.Rooms.{IsOpenFor}
use Rattle.am_doccols.proofs.RowLaws.{HasFields}
use Rattle.am_doccols.proofs.FieldsAgain.{fields_again, rows_behind, even_behind}
use Rattle.am_doccols.proofs.RowsTaken.{cursor_fields, as_many, fields_front, takes}
use Rattle.am_doccols.proofs.rows.RowCursor.copy_to.Goals as goal

pub take-requires-clause-room : goal.take-requires-clause-room
take-requires-clause-room c = (c.requires.room).fields

pub take-requires-2-clause-places : goal.take-requires-2-clause-places
take-requires-2-clause-places c = (c.requires.room).places

pub take-requires-2-clause-counters : goal.take-requires-2-clause-counters
take-requires-2-clause-counters c = (c.requires.room).counters

pub copy_to-requires-clause-lengths : goal.copy_to-requires-clause-lengths
copy_to-requires-clause-lengths c = (c.requires.room).lengths

pub take-requires-clause-enough : goal.take-requires-clause-enough
take-requires-clause-enough c =
    let inv = c.self.invariant in
    let at = c.self.inside in
    let all = cursor_fields c.args.self.now at.objects at.keys at.ids at.inserts at.actions at.values at.succs at.expands at.marks inv.0 inv.1 inv.2 inv.3 inv.4 inv.5 inv.6 inv.7 c.self.view_is in
    let here : HasFields c.args.self.now c.again.result c.again-2.result c.again-ids_behind.result c.again-3.result c.again-4.result c.again-5.result c.again-succs_behind.result c.again-6.result c.again-7.result = fields_again c.args.self.now _ _ _ _ _ _ _ _ _ _ _ _ _ _ _ _ _ _ all c.again.ensures c.again-2.ensures c.again-ids_behind.ensures c.again-3.ensures c.again-4.ensures c.again-5.ensures c.again-succs_behind.ensures c.again-6.ensures c.again-7.ensures in
    let many = as_many c.args.n c.args.self.now _ _ _ _ _ _ _ _ _ here c.requires.enough in
    record { objects = many.objects; keys = many.keys; inserts = many.inserts; actions = many.actions; values = many.values; expands = many.expands; marks = many.marks }

pub take-requires-2-clause-enough : goal.take-requires-2-clause-enough
take-requires-2-clause-enough c =
    let inv = c.self.invariant in
    let at = c.self.inside in
    let all = cursor_fields c.args.self.now at.objects at.keys at.ids at.inserts at.actions at.values at.succs at.expands at.marks inv.0 inv.1 inv.2 inv.3 inv.4 inv.5 inv.6 inv.7 c.self.view_is in
    let here : HasFields c.args.self.now c.again.result c.again-2.result c.again-ids_behind.result c.again-3.result c.again-4.result c.again-5.result c.again-succs_behind.result c.again-6.result c.again-7.result = fields_again c.args.self.now _ _ _ _ _ _ _ _ _ _ _ _ _ _ _ _ _ _ all c.again.ensures c.again-2.ensures c.again-ids_behind.ensures c.again-3.ensures c.again-4.ensures c.again-5.ensures c.again-succs_behind.ensures c.again-6.ensures c.again-7.ensures in
    let many = as_many c.args.n c.args.self.now _ _ _ _ _ _ _ _ _ here c.requires.enough in
    many.ids

pub copy_to-requires-clause-enough : goal.copy_to-requires-clause-enough
copy_to-requires-clause-enough c =
    let inv = c.self.invariant in
    let at = c.self.inside in
    let all = cursor_fields c.args.self.now at.objects at.keys at.ids at.inserts at.actions at.values at.succs at.expands at.marks inv.0 inv.1 inv.2 inv.3 inv.4 inv.5 inv.6 inv.7 c.self.view_is in
    let here : HasFields c.args.self.now c.again.result c.again-2.result c.again-ids_behind.result c.again-3.result c.again-4.result c.again-5.result c.again-succs_behind.result c.again-6.result c.again-7.result = fields_again c.args.self.now _ _ _ _ _ _ _ _ _ _ _ _ _ _ _ _ _ _ all c.again.ensures c.again-2.ensures c.again-ids_behind.ensures c.again-3.ensures c.again-4.ensures c.again-5.ensures c.again-succs_behind.ensures c.again-6.ensures c.again-7.ensures in
    let many = as_many c.args.n c.args.self.now _ _ _ _ _ _ _ _ _ here c.requires.enough in
    many.succs

pub copy_to-requires-clause-places : goal.copy_to-requires-clause-places
copy_to-requires-clause-places c =
    let inv = c.self.invariant in
    let at = c.self.inside in
    let all = cursor_fields c.args.self.now at.objects at.keys at.ids at.inserts at.actions at.values at.succs at.expands at.marks inv.0 inv.1 inv.2 inv.3 inv.4 inv.5 inv.6 inv.7 c.self.view_is in
    let here : HasFields c.args.self.now c.again.result c.again-2.result c.again-ids_behind.result c.again-3.result c.again-4.result c.again-5.result c.again-succs_behind.result c.again-6.result c.again-7.result = fields_again c.args.self.now _ _ _ _ _ _ _ _ _ _ _ _ _ _ _ _ _ _ all c.again.ensures c.again-2.ensures c.again-ids_behind.ensures c.again-3.ensures c.again-4.ensures c.again-5.ensures c.again-succs_behind.ensures c.again-6.ensures c.again-7.ensures in
    let front = fields_front c.args.n c.args.self.now _ _ _ _ _ _ _ _ _ here in
    subst (λ m. IsOpenFor m c.args.succs.now.places) (ap (λ l. length (flat l)) front.succs) (c.requires.room).succ_places

pub copy_to-requires-clause-counters : goal.copy_to-requires-clause-counters
copy_to-requires-clause-counters c =
    let inv = c.self.invariant in
    let at = c.self.inside in
    let all = cursor_fields c.args.self.now at.objects at.keys at.ids at.inserts at.actions at.values at.succs at.expands at.marks inv.0 inv.1 inv.2 inv.3 inv.4 inv.5 inv.6 inv.7 c.self.view_is in
    let here : HasFields c.args.self.now c.again.result c.again-2.result c.again-ids_behind.result c.again-3.result c.again-4.result c.again-5.result c.again-succs_behind.result c.again-6.result c.again-7.result = fields_again c.args.self.now _ _ _ _ _ _ _ _ _ _ _ _ _ _ _ _ _ _ all c.again.ensures c.again-2.ensures c.again-ids_behind.ensures c.again-3.ensures c.again-4.ensures c.again-5.ensures c.again-succs_behind.ensures c.again-6.ensures c.again-7.ensures in
    let front = fields_front c.args.n c.args.self.now _ _ _ _ _ _ _ _ _ here in
    subst (λ m. IsOpenFor m c.args.succs.now.counters) (ap (λ l. length (flat l)) front.succs) (c.requires.room).succ_counters

pub invariant_of-self : goal.invariant_of-self
invariant_of-self c =
    let inv = c.self.invariant in
    let at = c.self.inside in
    even_behind c.args.n at.objects _ at.keys _ at.ids _ at.inserts _ at.actions _ at.values _ at.succs _ at.expands _ at.marks _ inv.0 inv.1 inv.2 inv.3 inv.4 inv.5 inv.6 inv.7 inv.8 ((c.in_ok-take.ensures.behind).objects ∙ ap (drop c.args.n) c.again.ensures) ((c.in_ok-take.ensures.behind).keys ∙ ap (drop c.args.n) c.again-2.ensures) (c.in_ok-take-2.ensures.behind ∙ ap (drop c.args.n) c.again-ids_behind.ensures) ((c.in_ok-take.ensures.behind).inserts ∙ ap (drop c.args.n) c.again-3.ensures) ((c.in_ok-take.ensures.behind).actions ∙ ap (drop c.args.n) c.again-4.ensures) ((c.in_ok-take.ensures.behind).values ∙ ap (drop c.args.n) c.again-5.ensures) (c.in_ok-copy_to.ensures.behind ∙ ap (drop c.args.n) c.again-succs_behind.ensures) ((c.in_ok-take.ensures.behind).expands ∙ ap (drop c.args.n) c.again-6.ensures) ((c.in_ok-take.ensures.behind).marks ∙ ap (drop c.args.n) c.again-7.ensures)

pub returns-clause-rows : goal.returns-clause-rows
returns-clause-rows c =
    let inv = c.self.invariant in
    let at = c.self.inside in
    let all = cursor_fields c.args.self.now at.objects at.keys at.ids at.inserts at.actions at.values at.succs at.expands at.marks inv.0 inv.1 inv.2 inv.3 inv.4 inv.5 inv.6 inv.7 c.self.view_is in
    let here : HasFields c.args.self.now c.again.result c.again-2.result c.again-ids_behind.result c.again-3.result c.again-4.result c.again-5.result c.again-succs_behind.result c.again-6.result c.again-7.result = fields_again c.args.self.now _ _ _ _ _ _ _ _ _ _ _ _ _ _ _ _ _ _ all c.again.ensures c.again-2.ensures c.again-ids_behind.ensures c.again-3.ensures c.again-4.ensures c.again-5.ensures c.again-succs_behind.ensures c.again-6.ensures c.again-7.ensures in
    takes c.args.actors.now c.args.n c.args.self.now (record { objects = c.again.result; keys = c.again-2.result; inserts = c.again-3.result; actions = c.again-4.result; values = c.again-5.result; expands = c.again-6.result; marks = c.again-7.result }) c.again-ids_behind.result c.again-succs_behind.result c.args.fields.now c.args.ids.now c.args.lengths.now c.args.succs.now _ _ _ _ here c.in_ok-take.ensures.fields c.in_ok-take-2.ensures.ids c.in_ok-copy_to.ensures.lengths c.in_ok-copy_to.ensures.ids

pub returns-clause-behind : goal.returns-clause-behind
returns-clause-behind c =
    let inv = c.self.invariant in
    let at = c.self.inside in
    let all = cursor_fields c.args.self.now at.objects at.keys at.ids at.inserts at.actions at.values at.succs at.expands at.marks inv.0 inv.1 inv.2 inv.3 inv.4 inv.5 inv.6 inv.7 c.self.view_is in
    rows_behind c.args.n c.args.self.now at.objects _ at.keys _ at.ids _ at.inserts _ at.actions _ at.values _ at.succs _ at.expands _ at.marks _ all ((c.in_ok-take.ensures.behind).objects ∙ ap (drop c.args.n) c.again.ensures) ((c.in_ok-take.ensures.behind).keys ∙ ap (drop c.args.n) c.again-2.ensures) (c.in_ok-take-2.ensures.behind ∙ ap (drop c.args.n) c.again-ids_behind.ensures) ((c.in_ok-take.ensures.behind).inserts ∙ ap (drop c.args.n) c.again-3.ensures) ((c.in_ok-take.ensures.behind).actions ∙ ap (drop c.args.n) c.again-4.ensures) ((c.in_ok-take.ensures.behind).values ∙ ap (drop c.args.n) c.again-5.ensures) (c.in_ok-copy_to.ensures.behind ∙ ap (drop c.args.n) c.again-succs_behind.ensures) ((c.in_ok-take.ensures.behind).expands ∙ ap (drop c.args.n) c.again-6.ensures) ((c.in_ok-take.ensures.behind).marks ∙ ap (drop c.args.n) c.again-7.ensures)
