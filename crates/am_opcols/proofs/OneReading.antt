-- Columns spell at most one list of operations.
use Rattle.std.proofs.Common.{◌≡◌, ℕ, List, [], ◌∷◌, length, map, ap, None, false}
use Rattle.std.specs.List.{AllByRecursion}
use Rattle.am_types.specs.declared.RawValue.{RawValue}
use Rattle.am_types.specs.declared.Op.{Op}
use Rattle.am_runs.specs.Typed.{JoinsTexts}
use Rattle.am_flags.specs.Flags.{JoinsFlags}
use Rattle.am_colmeta.specs.Metadata.{column_at}
use Rattle.am_values.specs.Columns.{AllGood}
use Rattle.am_fields.proofs.Filled.{Fills-same}
use Rattle.am_fields.proofs.OneColumn.{texts_one, flags_one}
use Rattle.am_fields.proofs.Lists.{same_map_pair, same_from_map, same_lengths}
use Rattle.am_fields.proofs.GroupLaws.{actions_one}
use Rattle.am_fields.proofs.OneReading.{mapped, object_columns-same, key_columns-same, value_columns-same, group_columns-same, IsKind}
use Rattle.am_opcols.specs.Columns.{SpellsOps}
use Rattle.am_opcols.specs.Rows.{Fields}

abbrev fields : Op → Fields
fields o = (o.obj, (o.key, (o.insert, (o.action, (o.value, (o.preds, (o.expand, o.mark)))))))

back : Fields → Op
back f = record { obj = f.0; key = f.1.0; insert = f.1.1.0; action = f.1.1.1.0; value = f.1.1.1.1.0; preds = f.1.1.1.1.1.0; expand = f.1.1.1.1.1.1.0; mark = f.1.1.1.1.1.1.1 }

fields-same : (x y : Op) → fields x ≡ fields y → x ≡ y
unfolding back
fields-same x y e = ap back e

kinds_of : (vs : List RawValue) → AllGood vs → AllByRecursion IsKind vs
kinds_of [] all = tt
kinds_of (v ∷ vs) all = ((all.0).kind, kinds_of vs all.1)

pub ops-same : (actors : List (List ℕ)) (columns : List (ℕ × List ℕ)) (xs ys : List Op) → SpellsOps actors columns xs → SpellsOps actors columns ys → xs ≡ ys
ops-same actors columns xs ys p q =
    let a = p.spelled in
    let b = q.spelled in
    let action = actions_one (column_at columns 66) (map (λ o. o.action) xs) (map (λ o. o.action) ys) a.1.1.1.1.1.1.0 b.1.1.1.1.1.1.0 in
    let n : length xs ≡ length ys = same_lengths (λ o. o.action) xs ys action in
    let obj = object_columns-same actors columns (map (λ o. o.obj) xs) (map (λ o. o.obj) ys) (a.0, (a.1.0, tt)) (b.0, (b.1.0, tt)) (mapped (λ o. o.obj) xs ys n) in
    let key = key_columns-same actors columns (map (λ o. o.key) xs) (map (λ o. o.key) ys) (a.1.1.0, (a.1.1.1.0, (a.1.1.1.1.0, tt))) (b.1.1.0, (b.1.1.1.0, (b.1.1.1.1.0, tt))) (mapped (λ o. o.key) xs ys n) in
    let insert = Fills-same JoinsFlags false flags_one (column_at columns 52) (map (λ o. o.insert) xs) (map (λ o. o.insert) ys) a.1.1.1.1.1.0 b.1.1.1.1.1.0 (mapped (λ o. o.insert) xs ys n) in
    let a' = a.1.1.1.1.1.1.1 in
    let b' = b.1.1.1.1.1.1.1 in
    let value = value_columns-same actors columns (map (λ o. o.value) xs) (map (λ o. o.value) ys) (kinds_of (map (λ o. o.value) xs) (p.within).values) (kinds_of (map (λ o. o.value) ys) (q.within).values) (a'.0, (a'.1.0, tt)) (b'.0, (b'.1.0, tt)) in
    let preds = group_columns-same 112 actors columns (map (λ o. o.preds) xs) (map (λ o. o.preds) ys) (a'.1.1.0, (a'.1.1.1.0, (a'.1.1.1.1.0, tt))) (b'.1.1.0, (b'.1.1.1.0, (b'.1.1.1.1.0, tt))) in
    let expand = Fills-same JoinsFlags false flags_one (column_at columns 148) (map (λ o. o.expand) xs) (map (λ o. o.expand) ys) a'.1.1.1.1.1.0 b'.1.1.1.1.1.0 (mapped (λ o. o.expand) xs ys n) in
    let mark = Fills-same JoinsTexts None texts_one (column_at columns 165) (map (λ o. o.mark) xs) (map (λ o. o.mark) ys) a'.1.1.1.1.1.1.0 b'.1.1.1.1.1.1.0 (mapped (λ o. o.mark) xs ys n) in
    same_from_map {A = Fields} fields fields-same xs ys
    (same_map_pair (λ o. o.obj) (λ o. (o.key, (o.insert, (o.action, (o.value, (o.preds, (o.expand, o.mark))))))) xs ys obj
    (same_map_pair (λ o. o.key) (λ o. (o.insert, (o.action, (o.value, (o.preds, (o.expand, o.mark)))))) xs ys key
    (same_map_pair (λ o. o.insert) (λ o. (o.action, (o.value, (o.preds, (o.expand, o.mark))))) xs ys insert
    (same_map_pair (λ o. o.action) (λ o. (o.value, (o.preds, (o.expand, o.mark)))) xs ys action
    (same_map_pair (λ o. o.value) (λ o. (o.preds, (o.expand, o.mark))) xs ys value
    (same_map_pair (λ o. o.preds) (λ o. (o.expand, o.mark)) xs ys preds
    (same_map_pair (λ o. o.expand) (λ o. o.mark) xs ys expand mark)))))))
