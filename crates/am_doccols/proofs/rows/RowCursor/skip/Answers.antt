use Rattle.std.proofs.Common.{refl}
use Rattle.am_doccols.proofs.RowsTaken.{cursor_fields, as_many, fields_behind, still_even}
use Rattle.am_doccols.proofs.rows.RowCursor.skip.Goals as goal

pub skip-requires : goal.skip-requires
skip-requires c = λ k.
    let inv = c.self.invariant in
    let at = c.self.inside in
    let all = cursor_fields c.args.self.now at.objects at.keys at.ids at.inserts at.actions at.values at.succs at.expands at.marks inv.0 inv.1 inv.2 inv.3 inv.4 inv.5 inv.6 inv.7 c.self.view_is in
    ((refl, tt), (as_many c.args.n c.args.self.now _ _ _ _ _ _ _ _ _ all c.requires).objects)

pub skip-requires-2 : goal.skip-requires-2
skip-requires-2 c = λ k.
    let inv = c.self.invariant in
    let at = c.self.inside in
    let all = cursor_fields c.args.self.now at.objects at.keys at.ids at.inserts at.actions at.values at.succs at.expands at.marks inv.0 inv.1 inv.2 inv.3 inv.4 inv.5 inv.6 inv.7 c.self.view_is in
    ((refl, tt), (as_many c.args.n c.args.self.now _ _ _ _ _ _ _ _ _ all c.requires).keys)

pub skip-requires-3 : goal.skip-requires-3
skip-requires-3 c = λ k.
    let inv = c.self.invariant in
    let at = c.self.inside in
    let all = cursor_fields c.args.self.now at.objects at.keys at.ids at.inserts at.actions at.values at.succs at.expands at.marks inv.0 inv.1 inv.2 inv.3 inv.4 inv.5 inv.6 inv.7 c.self.view_is in
    ((refl, tt), (as_many c.args.n c.args.self.now _ _ _ _ _ _ _ _ _ all c.requires).ids)

pub skip-requires-4 : goal.skip-requires-4
skip-requires-4 c =
    let inv = c.self.invariant in
    let at = c.self.inside in
    let all = cursor_fields c.args.self.now at.objects at.keys at.ids at.inserts at.actions at.values at.succs at.expands at.marks inv.0 inv.1 inv.2 inv.3 inv.4 inv.5 inv.6 inv.7 c.self.view_is in
    (as_many c.args.n c.args.self.now _ _ _ _ _ _ _ _ _ all c.requires).inserts

pub skip-requires-5 : goal.skip-requires-5
skip-requires-5 c =
    let inv = c.self.invariant in
    let at = c.self.inside in
    let all = cursor_fields c.args.self.now at.objects at.keys at.ids at.inserts at.actions at.values at.succs at.expands at.marks inv.0 inv.1 inv.2 inv.3 inv.4 inv.5 inv.6 inv.7 c.self.view_is in
    (as_many c.args.n c.args.self.now _ _ _ _ _ _ _ _ _ all c.requires).actions

pub skip-requires-6 : goal.skip-requires-6
skip-requires-6 c =
    let inv = c.self.invariant in
    let at = c.self.inside in
    let all = cursor_fields c.args.self.now at.objects at.keys at.ids at.inserts at.actions at.values at.succs at.expands at.marks inv.0 inv.1 inv.2 inv.3 inv.4 inv.5 inv.6 inv.7 c.self.view_is in
    (as_many c.args.n c.args.self.now _ _ _ _ _ _ _ _ _ all c.requires).values

pub skip-requires-7 : goal.skip-requires-7
skip-requires-7 c =
    let inv = c.self.invariant in
    let at = c.self.inside in
    let all = cursor_fields c.args.self.now at.objects at.keys at.ids at.inserts at.actions at.values at.succs at.expands at.marks inv.0 inv.1 inv.2 inv.3 inv.4 inv.5 inv.6 inv.7 c.self.view_is in
    (as_many c.args.n c.args.self.now _ _ _ _ _ _ _ _ _ all c.requires).succs

pub skip-requires-8 : goal.skip-requires-8
skip-requires-8 c =
    let inv = c.self.invariant in
    let at = c.self.inside in
    let all = cursor_fields c.args.self.now at.objects at.keys at.ids at.inserts at.actions at.values at.succs at.expands at.marks inv.0 inv.1 inv.2 inv.3 inv.4 inv.5 inv.6 inv.7 c.self.view_is in
    (as_many c.args.n c.args.self.now _ _ _ _ _ _ _ _ _ all c.requires).expands

pub skip-requires-9 : goal.skip-requires-9
skip-requires-9 c =
    let inv = c.self.invariant in
    let at = c.self.inside in
    let all = cursor_fields c.args.self.now at.objects at.keys at.ids at.inserts at.actions at.values at.succs at.expands at.marks inv.0 inv.1 inv.2 inv.3 inv.4 inv.5 inv.6 inv.7 c.self.view_is in
    (as_many c.args.n c.args.self.now _ _ _ _ _ _ _ _ _ all c.requires).marks

pub invariant_of-self : goal.invariant_of-self
invariant_of-self c =
    let inv = c.self.invariant in
    let at = c.self.inside in
    rw (c.skip.ensures, c.skip-2.ensures, c.skip-3.ensures, c.skip-4.ensures, c.skip-5.ensures, c.skip-6.ensures, c.skip-7.ensures, c.skip-8.ensures, c.skip-9.ensures) (still_even c.args.n at.objects at.keys at.ids at.inserts at.actions at.values at.succs at.expands at.marks inv.0 inv.1 inv.2 inv.3 inv.4 inv.5 inv.6 inv.7 inv.8)

pub returns : goal.returns
returns c =
    let inv = c.self.invariant in
    let at = c.self.inside in
    let all = cursor_fields c.args.self.now at.objects at.keys at.ids at.inserts at.actions at.values at.succs at.expands at.marks inv.0 inv.1 inv.2 inv.3 inv.4 inv.5 inv.6 inv.7 c.self.view_is in
    rw (c.skip.ensures, c.skip-2.ensures, c.skip-3.ensures, c.skip-4.ensures, c.skip-5.ensures, c.skip-6.ensures, c.skip-7.ensures, c.skip-8.ensures, c.skip-9.ensures) (fields_behind c.args.n c.args.self.now _ _ _ _ _ _ _ _ _ all)
