use Rattle.std.proofs.Common.{◌≡◌, ◌∷◌, ◌∙◌, refl, sym, ap, length, List, true, ℤ, map, option_map}
use Rattle.std.proofs.Common.{rules}
use mir.Val.{to_z, of_z}
use mir.Syntax.{w128}
use Rattle.am_types.specs.declared.Row.{Row}
use Rattle.am_types.specs.Values.{amount}
use Rattle.am_types.specs.Views.{id_of, key_of, object_of, value_of}
use Rattle.am_doccols.specs.Rows.{row_from, rows_from}
use Rattle.am_view.specs.Reads.{slot, is_counter_row}
use Rattle.am_view.specs.Seen.{seen_by}
use Rattle.am_view.specs.Steps.{ahead, later, tally, entry_at, walk}
use Rattle.am_view.proofs.Scanned.{next_row, next_length, nothing, something}
use Rattle.am_view.proofs.scan.Scan.next_into.Goals as goal

pub returns-then-is_hidden-clause-hidden : goal.returns-then-is_hidden-clause-hidden
returns-then-is_hidden-clause-hidden c = λ _.
    let r : Row = row_from (c.pass.ensures.0, (c.pass-then-is_hidden.ensures.0, (c.pass-then-is_hidden-2.ensures.0, (c.next-insert.result, (c.next-action.result, (value_of c.next-value.result, (c.pass-then-is_hidden-3.ensures.0, (c.next-expand.result, option_map (λ s. s.now) c.next-mark.result)))))))) in
    let step = sym c.self.view_is ∙ next_row _ _ _ _ _ _ _ _ _ _ _ _ _ _ _ _ _ _ _ _ _ _ _ _ _ _ _ c.pass.ensures.1 c.pass-then-is_hidden.ensures.1 c.pass-then-is_hidden-2.ensures.1 c.next-insert.ensures c.next-action.ensures c.next-value.ensures c.pass-then-is_hidden-3.ensures.1 c.next-expand.ensures c.next-mark.ensures in
    let count : length r.succs ≡ c.next-count.result = next_length c.self.inside.succs _ r.succs _ _ c.next-count.result c.self.invariant.9 c.pass-then-is_hidden-3.ensures.1 c.next-count.ensures in
    ap (walk (seen_by c.args.clock.now)) step ∙ c.if-is_hidden.ensures.hidden refl r _ refl refl count

pub returns-then-is_removed-clause-hidden : goal.returns-then-is_removed-clause-hidden
returns-then-is_removed-clause-hidden c = λ _.
    let r : Row = row_from (c.pass-then-is_removed.ensures.0, (c.pass-then-is_removed-2.ensures.0, (c.pass-then-is_removed-3.ensures.0, (c.next-insert.result, (c.next-action.result, (value_of c.next-value.result, (c.succs_at.new.succs, (c.next-expand.result, option_map (λ s. s.now) c.next-mark.result)))))))) in
    let step = sym c.self.view_is ∙ next_row _ _ _ _ _ _ _ _ _ _ _ _ _ _ _ _ _ _ _ _ _ _ _ _ _ _ _ c.pass-then-is_removed.ensures.1 c.pass-then-is_removed-2.ensures.1 c.pass-then-is_removed-3.ensures.1 c.next-insert.ensures c.next-action.ensures c.next-value.ensures c.succs_at.ensures c.next-expand.ensures c.next-mark.ensures in
    ap (walk (seen_by c.args.clock.now)) step ∙ c.if-is_removed.ensures.removed refl r _ refl refl refl

pub returns-in_default-clause-hidden : goal.returns-in_default-clause-hidden
returns-in_default-clause-hidden c = λ _.
    let see = seen_by c.args.clock.now in
    let k = c.slot_at-slot.ensures.0 in
    let r : Row = row_from (object_of c.next-obj.result, (k, (id_of c.next-id.result, (c.next-insert.result, (c.next-action.result, (value_of c.next-value.result, (c.succs_at.new.succs, (c.next-expand.result, option_map (λ s. s.now) c.next-mark.result)))))))) in
    let step = sym c.self.view_is ∙ next_row _ _ _ _ _ _ _ _ _ _ _ _ _ _ _ _ _ _ _ _ _ _ _ _ _ _ _ c.next-obj.ensures c.slot_at-slot.ensures.1 c.next-id.ensures c.next-insert.ensures c.next-action.ensures c.next-value.ensures c.succs_at.ensures c.next-expand.ensures c.next-mark.ensures in
    let behind : List Row = rows_from c.next-obj.new.self c.slot_at-slot.new.keys c.next-id.new.self c.next-insert.new.self c.next-action.new.self c.next-value.new.self c.succs_at.new.column c.next-expand.new.self c.next-mark.new.self in
    let counter : is_counter_row r ≡ true → c.total.result ≡ tally see (amount r.value) r.succs (map later (ahead r.obj (slot r) behind)) = λ is.
    c.total.ensures.counter r refl refl is
    ∙ ap (λ clock. tally (seen_by clock) (amount r.value) c.is_removed.new.succs (map later (ahead r.obj (key_of c.slot_at-slot.result) behind))) (c.covers.ensures.same ∙ c.is_removed.ensures.same)
    ∙ ap (λ ids. tally see (amount r.value) ids (map later (ahead r.obj (key_of c.slot_at-slot.result) behind))) (c.if-is_removed.ensures.unread refl r refl refl is)
    ∙ ap (λ at. tally see (amount r.value) r.succs (map later (ahead r.obj at behind))) c.slot_at-slot.ensures.2 in
    ap (walk see) step
    ∙ nothing see r behind c.total.result c.in_default.is counter (λ is. c.total.ensures.other r refl refl is)
    ∙ ap (walk see) (sym c.total.ensures.rows)

pub returns-clause-shown : goal.returns-clause-shown
returns-clause-shown c = λ _.
    let see = seen_by c.args.clock.now in
    let k = c.slot_at-slot.ensures.0 in
    let r : Row = row_from (object_of c.next-obj.result, (k, (id_of c.next-id.result, (c.next-insert.result, (c.next-action.result, (value_of c.next-value.result, (c.succs_at.new.succs, (c.next-expand.result, option_map (λ s. s.now) c.next-mark.result)))))))) in
    let step = sym c.self.view_is ∙ next_row _ _ _ _ _ _ _ _ _ _ _ _ _ _ _ _ _ _ _ _ _ _ _ _ _ _ _ c.next-obj.ensures c.slot_at-slot.ensures.1 c.next-id.ensures c.next-insert.ensures c.next-action.ensures c.next-value.ensures c.succs_at.ensures c.next-expand.ensures c.next-mark.ensures in
    let behind : List Row = rows_from c.next-obj.new.self c.slot_at-slot.new.keys c.next-id.new.self c.next-insert.new.self c.next-action.new.self c.next-value.new.self c.succs_at.new.column c.next-expand.new.self c.next-mark.new.self in
    let counter : is_counter_row r ≡ true → c.total.result ≡ tally see (amount r.value) r.succs (map later (ahead r.obj (slot r) behind)) = λ is.
    c.total.ensures.counter r refl refl is
    ∙ ap (λ clock. tally (seen_by clock) (amount r.value) c.is_removed.new.succs (map later (ahead r.obj (key_of c.slot_at-slot.result) behind))) (c.covers.ensures.same ∙ c.is_removed.ensures.same)
    ∙ ap (λ ids. tally see (amount r.value) ids (map later (ahead r.obj (key_of c.slot_at-slot.result) behind))) (c.if-is_removed.ensures.unread refl r refl refl is)
    ∙ ap (λ at. tally see (amount r.value) r.succs (map later (ahead r.obj at behind))) c.slot_at-slot.ensures.2 in
    let t : ℤ = c.in-Some.total in
    let covered : see r.id ≡ true = ap (λ k. seen_by k r.id) (sym c.is_removed.ensures.same) ∙ sym c.covers.ensures.covered ∙ c.if-not-covers.false in
    let back : to_z w128 (of_z w128 t) ≡ t = search rules in
    ap (walk see) step
    ∙ something see r behind c.total.result t c.in-Some.is covered (c.if-is_hidden.ensures.entry refl r refl) counter (λ is. c.total.ensures.other r refl refl is) (λ is. c.if-is_removed.ensures.stays refl r refl refl refl is)
    ∙ ap (λ z. entry_at r z ∷ walk see behind) (sym back)
    ∙ ap (λ at. record { obj = r.obj; slot = at; id = r.id; action = r.action; value = r.value; total = to_z w128 (of_z w128 t) } ∷ walk see behind) (sym c.slot_at-slot.ensures.2)
    ∙ ap (λ rs. record { obj = r.obj; slot = key_of c.slot_at-slot.result; id = r.id; action = r.action; value = r.value; total = to_z w128 (of_z w128 t) } ∷ walk see rs) (sym c.total.ensures.rows)
