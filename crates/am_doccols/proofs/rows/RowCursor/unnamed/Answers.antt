use Rattle.std.proofs.Common.{◌∙◌, ap, arith, drop, length, map, subst, sym, take}
use Rattle.std.specs.List.{AllByRecursion}
use Rattle.std.proofs.lemmas.List.{length-map}
use Rattle.am_types.specs.declared.Row.{Row}
use Rattle.am_runs.proofs.Spelled.{map_drop, map_take}
use Rattle.am_doccols.specs.Skipping.{IsUnnamed}
use Rattle.am_doccols.proofs.RowsTaken.{cursor_fields}
use Rattle.am_doccols.proofs.Skipped.{all_mapped}
use Rattle.am_doccols.proofs.rows.RowCursor.unnamed.Goals as goal

pub returns-clause-few : goal.returns-clause-few
returns-clause-few c =
    let inv = c.self.invariant in
    let at = c.self.inside in
    let all = cursor_fields c.args.self.now at.objects at.keys at.ids at.inserts at.actions at.values at.succs at.expands at.marks inv.0 inv.1 inv.2 inv.3 inv.4 inv.5 inv.6 inv.7 c.self.view_is in
    omega (arith, c.count_unnamed.ensures.few, ap length all.ids, length-map c.args.self.now (λ (r : Row). r.id))

pub returns-clause-unnamed : goal.returns-clause-unnamed
returns-clause-unnamed c =
    let inv = c.self.invariant in
    let at = c.self.inside in
    let all = cursor_fields c.args.self.now at.objects at.keys at.ids at.inserts at.actions at.values at.succs at.expands at.marks inv.0 inv.1 inv.2 inv.3 inv.4 inv.5 inv.6 inv.7 c.self.view_is in
    let n = c.count_unnamed.result in
    let front = map_take (λ (r : Row). r.id) n c.args.self.now ∙ ap (take n) all.ids in
    all_mapped (IsUnnamed c.args.counters.now) (λ (r : Row). r.id) (take n c.args.self.now) (subst (λ l. AllByRecursion (IsUnnamed c.args.counters.now) l) (sym front) c.count_unnamed.ensures.unnamed)

pub returns-clause-next : goal.returns-clause-next
returns-clause-next c r rest e =
    let inv = c.self.invariant in
    let at = c.self.inside in
    let all = cursor_fields c.args.self.now at.objects at.keys at.ids at.inserts at.actions at.values at.succs at.expands at.marks inv.0 inv.1 inv.2 inv.3 inv.4 inv.5 inv.6 inv.7 c.self.view_is in
    let n = c.count_unnamed.result in
    let behind = map_drop (λ (r : Row). r.id) n c.args.self.now ∙ ap (drop n) all.ids in
    c.count_unnamed.ensures.next r.id (map (λ (r : Row). r.id) rest) (sym behind ∙ ap (map (λ (r : Row). r.id)) e)
