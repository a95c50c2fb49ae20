use Rattle.std.proofs.Common.{◌≡◌, ◌∙◌, map, length, get_or, sym, ap, subst, arith}
use Rattle.std.proofs.Math.ListN.{get_or-map}
use Rattle.std.proofs.lemmas.List.{length-map}
use Rattle.am_types.specs.declared.Row.{Row}
use Rattle.am_types.specs.Rows.{row_of}
use Rattle.am_types.specs.Views.{id_of}
use Rattle.am_places.specs.Numbered.{operation_of, ids_of}
use Rattle.am_places.specs.Rising.{HasAt}
use Rattle.am_rows.specs.declared.kept.Kept.{Kept}
use Rattle.am_rows.specs.Lent.{ids_in, kept_operation, lent_row}
use Rattle.am_rows.specs.Making.{row_in}
use Rattle.am_rows.specs.Naming.{naming}
use Rattle.am_rows.proofs.Made.{length-named, list_at}
use Rattle.am_rows.proofs.lent.LentRows.get.Goals as goal

pub index-requires : goal.index-requires
index-requires c =
    let A = map operation_of c.self.inside.operations.items in
    let lists = c.self.inside.succs.items in
    let count : length lists ≡ length A = sym (length-map lists ids_in) ∙ ap length c.self.invariant.named ∙ length-named A c.self.invariant.sound in
    let there = subst (λ l. HasAt (map operation_of l) (id_of c.id.result) c.in-Some.at) c.as_slice.ensures.value c.in-Some.ensures in
    let low = there.0 in
    omega arith

pub returns : goal.returns
returns c =
    let A = map operation_of c.self.inside.operations.items in
    let lists = c.self.inside.succs.items in
    let kept = c.self.inside.kept.items in
    let k = c.index-kept.result.now in
    let x = operation_of k.placed.operation in
    let at = c.in-Some.at in
    let list = c.index.result.now in
    let F : Kept → Row = λ k. row_in A (kept_operation k) in
    let there : HasAt A x.id at = subst (λ i. HasAt A i at) c.id.ensures (subst (λ l. HasAt (map operation_of l) (id_of c.id.result) at) c.as_slice.ensures.value c.in-Some.ensures) in
    let named : ids_in list ≡ naming A x.id = list_at A c.self.invariant.sound (map ids_in lists) c.self.invariant.named x.id at (ids_in list) there (ap ids_in c.index.ensures ∙ sym (get_or-map ids_in lists at list)) in
    let same : row_of (ids_of c.as_slice-in-Some.result.now) x ≡ F k = ap (λ ns. row_of (ids_of ns) x) c.as_slice-in-Some.ensures.value ∙ ap (λ ss. row_of ss x) named in
    same ∙ ap F c.index-kept.ensures ∙ sym (get_or-map F kept c.args.i k) ∙ (λ j. get_or (c.self.view_is j) c.args.i (sym same j))
