-- The canonical columns of operation rows spell them.
use Rattle.std.proofs.Common.{◌≡◌, ℕ, ◌<◌, ◌≤◌, ◌^◌, List, [], ◌∷◌, length, map, sym, arith, subst, Option, Some}
use Rattle.std.specs.Prelude.{ℤ, IfSome, IsUtf8}
use Rattle.std.specs.List.{AllByRecursion}
use Rattle.std.proofs.lemmas.List.{length-map}
use Rattle.am_types.specs.declared.OpId.{OpId}
use Rattle.am_types.specs.declared.ObjId.{ObjId}
use Rattle.am_types.specs.declared.ObjId.TheVariants.{Root, Made}
use Rattle.am_types.specs.declared.Key.{Key}
use Rattle.am_types.specs.declared.Key.TheVariants as keys
use Rattle.am_types.specs.declared.RawValue.{RawValue}
use Rattle.am_types.specs.declared.Row.{Row}
use Rattle.am_types.specs.Fine.{IsObject, IsKey}
use Rattle.am_types.specs.Values.{Good}
use Rattle.am_colmeta.specs.Metadata.{body, not_empty, column_at}
use Rattle.am_colmeta.proofs.Judging.{found_without_empty}
use Rattle.am_colmeta.proofs.Entries.{body-not_empty}
use Rattle.am_values.specs.Columns.{metadata}
use Rattle.am_fields.specs.Actors.{IfListed}
use Rattle.am_fields.specs.Limits.{IsWithin, IsObjectWithin, IsKeyWithin}
use Rattle.am_fields.specs.Columns.{SpellsNumbers, SpellsDeltas, SpellsTexts, SpellsFlags, SpellsActors, SpellsCounts, SpellsColumns, spellings}
use Rattle.am_fields.specs.Layout.{object_actor, object_counter, key_actor, key_counter, key_string, id_actor, id_counter, flat}
use Rattle.am_fields.specs.Writing.{AllFit, IsWord, IsShortText}
use Rattle.am_fields.proofs.CanonicalLaws.{keys_middling, ids_middling}
use Rattle.am_fields.proofs.PlaceLaws.{IsKnown}
use Rattle.am_fields.proofs.Spelled.{numbers_spelled, texts_spelled, texts_short, deltas_spelled, flags_spelled, rare_flags_spelled, actors_spelled}
use Rattle.am_doccols.specs.Columns.{row_columns, AreRowsWithin, SpellsRows, written_rows}
use Rattle.am_doccols.specs.Conditions.{IsIdFor, IsRowFor, IsReadable, succ_count}
use Rattle.am_doccols.proofs.BackLaws.{row_keys, row_values, row_ids, row_succs, ids_within}
use Rattle.am_doccols.proofs.RowsWritten.{ascending}
use Rattle.am_doccols.proofs.Spelling.{fit_map, all_map, mapped, known, ids_known, id_within, given_fit, counts_spelled, lengths_fit, column_within}

object_within : (o : ObjId) → IsObject o → IsObjectWithin o
object_within Root h = tt
object_within (Made i) h = id_within i h

key_within : (k : Key) → IsKey k → IsKeyWithin k
key_within (keys.Name n) h = tt
key_within keys.Head h = tt
key_within (keys.Elem i) h = id_within i h

succ_within : (actors : List (List ℕ)) (i : OpId) → IsIdFor actors i → IsWithin i
succ_within actors i h = id_within i h.within

all_ids_within : (actors : List (List ℕ)) (ids : List OpId) → AllByRecursion (IsIdFor actors) ids → AllByRecursion IsWithin ids
all_ids_within actors [] all = tt
all_ids_within actors (i ∷ ids) all = (succ_within actors i all.0, all_ids_within actors ids all.1)

within : (actors : List (List ℕ)) (rows : List Row) → AllByRecursion (IsRowFor actors) rows → AllByRecursion IsReadable rows → length rows ≤ 2 ^ 22 → succ_count rows ≤ 2 ^ 22 → AreRowsWithin rows
within actors rows each readable few few_succs = record {
  objects = all_map (λ r. r.obj) IsObjectWithin (IsRowFor actors) (λ r f. object_within r.obj f.object) rows each;
  keys = all_map (λ r. r.key) IsKeyWithin (IsRowFor actors) (λ r f. key_within r.key f.key) rows each;
  ids = all_ids_within actors (map (λ r. r.id) rows) (row_ids actors rows each);
  actions = all_map (λ r. r.action) (λ a. a ≤ 7) IsReadable (λ r f. f.action) rows readable;
  values = row_values actors rows each;
  succs = all_ids_within actors (flat (map (λ r. r.succs) rows)) (row_succs actors rows each);
  few = few;
  few_succs = few_succs;
}

objects_known : (actors : List (List ℕ)) (rows : List Row) → AllByRecursion (IsRowFor actors) rows → AllByRecursion (IsKnown actors) (map object_actor (map (λ r. r.obj) rows))
objects_known actors rows each =
    all_map object_actor (IsKnown actors) (λ o. IfListed actors (object_actor o)) (λ o h. known actors (object_actor o) h) (map (λ r. r.obj) rows)
    (all_map (λ r. r.obj) (λ o. IfListed actors (object_actor o)) (IsRowFor actors) (λ r f. f.object_listed) rows each)

keys_known : (actors : List (List ℕ)) (rows : List Row) → AllByRecursion (IsRowFor actors) rows → AllByRecursion (IsKnown actors) (map key_actor (map (λ r. r.key) rows))
keys_known actors rows each =
    all_map key_actor (IsKnown actors) (λ k. IfListed actors (key_actor k)) (λ k h. known actors (key_actor k) h) (map (λ r. r.key) rows)
    (all_map (λ r. r.key) (λ k. IfListed actors (key_actor k)) (IsRowFor actors) (λ r f. f.key_listed) rows each)

object_counter_fits : (o : ObjId) → IsObject o → IfSome (object_counter o) IsWord
object_counter_fits Root h = tt
object_counter_fits (Made i) h = let small : i.counter < 2 ^ 53 = h.high in omega arith

key_utf8 : (k : Key) → IsKey k → IfSome (key_string k) IsUtf8
key_utf8 (keys.Name n) h = h
key_utf8 keys.Head h = tt
key_utf8 (keys.Elem i) h = tt

actions_fit : (rows : List Row) → AllByRecursion IsReadable rows → AllFit IsWord (map Some (map (λ r. r.action) rows))
actions_fit rows each = given_fit (map (λ r. r.action) rows) (all_map (λ r. r.action) (λ n. n < 2 ^ 64) IsReadable (λ r f. let small : r.action ≤ 7 = f.action in omega arith) rows each)

metadata_fits : (v : RawValue) → Good v → metadata v < 2 ^ 64
metadata_fits v good = omega (arith, good.kind, good.short)

columns_spelled : (actors : List (List ℕ)) (rows : List Row) → AllByRecursion (IsRowFor actors) rows → AllByRecursion IsReadable rows → length rows ≤ 2 ^ 22 → succ_count rows ≤ 2 ^ 22
    → length actors < 2 ^ 64 → length (body (written_rows actors rows)) < 2 ^ 64 → SpellsColumns actors (written_rows actors rows) (row_columns rows)
columns_spelled actors rows each readable few few_succs some_actors short =
    let all = spellings actors (row_columns rows) in
    let at : (s : ℕ) → column_at all s ≡ column_at (not_empty all) s = λ s. sym (found_without_empty all s (ascending actors rows)) in
    let size : length (body all) < 2 ^ 64 = subst (λ (b : List ℕ). length b < 2 ^ 64) (body-not_empty all) short in
    let objects = map (λ r. r.obj) rows in
    let ks = map (λ r. r.key) rows in
    let ids = map (λ r. r.id) rows in
    let values = map (λ r. r.value) rows in
    let groups = map (λ r. r.succs) rows in
    let succs = flat groups in
    let good : AllByRecursion Good values = row_values actors rows each in
    let few_rows : length rows ≤ 2 ^ 32 = omega arith in
    let few_ids : length succs ≤ 2 ^ 32 = omega arith in
    let names : AllByRecursion (λ x. IfSome x IsUtf8) (map key_string ks) = fit_map key_string IsUtf8 IsKey key_utf8 ks (row_keys actors rows each) in
    let strings : AllFit IsShortText (map key_string ks) = texts_short (map key_string ks) (mapped (λ r. r.key) key_string rows (2 ^ 32) few_rows) (let l = column_within all 21 in omega arith) names in
    let texts : AllByRecursion (λ x. IfSome x IsUtf8) (map (λ r. r.mark) rows) = all_map (λ r. r.mark) (λ x. IfSome x IsUtf8) IsReadable (λ r f. f.mark) rows readable in
    let marks : AllFit IsShortText (map (λ r. r.mark) rows) = texts_short (map (λ r. r.mark) rows) (omega (arith, length-map rows (λ r. r.mark))) (let l = column_within all 165 in omega arith) texts in
    let A : List (Option (List ℕ)) → List ℕ → Type 0 = λ xs b. SpellsActors actors b xs in
    let N : List (Option ℕ) → List ℕ → Type 0 = λ xs b. SpellsNumbers b xs in
    let D : List (Option ℤ) → List ℕ → Type 0 = λ xs b. SpellsDeltas b xs in
    let T : List (Option (List ℕ)) → List ℕ → Type 0 = λ xs b. SpellsTexts b xs in
    (subst (A (map object_actor objects)) (at 1) (actors_spelled actors (map object_actor objects) some_actors (objects_known actors rows each) (mapped (λ r. r.obj) object_actor rows (2 ^ 32) few_rows)), (subst (N (map object_counter objects)) (at 2) (numbers_spelled (map object_counter objects) (fit_map object_counter IsWord IsObject object_counter_fits objects (all_map (λ r. r.obj) IsObject (IsRowFor actors) (λ r f. f.object) rows each)) (mapped (λ r. r.obj) object_counter rows (2 ^ 32) few_rows)), (subst (A (map key_actor ks)) (at 17) (actors_spelled actors (map key_actor ks) some_actors (keys_known actors rows each) (mapped (λ r. r.key) key_actor rows (2 ^ 32) few_rows)), (subst (D (map key_counter ks)) (at 19) (deltas_spelled (map key_counter ks) (keys_middling ks (row_keys actors rows each)) (mapped (λ r. r.key) key_counter rows (2 ^ 32) few_rows)), (subst (T (map key_string ks)) (at 21) (texts_spelled (map key_string ks) strings (mapped (λ r. r.key) key_string rows (2 ^ 32) few_rows)), (subst (A (map id_actor ids)) (at 33) (actors_spelled actors (map id_actor ids) some_actors (ids_known actors ids (row_ids actors rows each)) (mapped (λ r. r.id) id_actor rows (2 ^ 32) few_rows)), (subst (D (map id_counter ids)) (at 35) (deltas_spelled (map id_counter ids) (ids_middling ids (ids_within actors ids (row_ids actors rows each))) (mapped (λ r. r.id) id_counter rows (2 ^ 32) few_rows)), (subst (λ b. SpellsFlags b (map (λ r. r.insert) rows)) (at 52) (flags_spelled (map (λ r. r.insert) rows) (omega (arith, length-map rows (λ r. r.insert)))), (subst (λ b. SpellsNumbers b (map Some (map (λ r. r.action) rows))) (at 66) (numbers_spelled (map Some (map (λ r. r.action) rows)) (actions_fit rows readable) (mapped (λ r. r.action) (λ (n : ℕ). Some n) rows (2 ^ 32) few_rows)), (subst (λ b. SpellsCounts b (map metadata values)) (at 86) (counts_spelled (map metadata values) (all_map metadata (λ n. n < 2 ^ 64) Good metadata_fits values good) (mapped (λ r. r.value) metadata rows (2 ^ 32) few_rows)), (sym (at 87), (subst (λ b. SpellsCounts b (map length groups)) (at 128) (counts_spelled (map length groups) (lengths_fit groups (2 ^ 22) few_succs (omega arith)) (mapped (λ r. r.succs) length rows (2 ^ 32) few_rows)), (subst (A (map id_actor succs)) (at 129) (actors_spelled actors (map id_actor succs) some_actors (ids_known actors succs (row_succs actors rows each)) (omega (arith, length-map succs id_actor))), (subst (D (map id_counter succs)) (at 131) (deltas_spelled (map id_counter succs) (ids_middling succs (ids_within actors succs (row_succs actors rows each))) (omega (arith, length-map succs id_counter))), (subst (λ b. SpellsFlags b (map (λ r. r.expand) rows)) (at 148) (rare_flags_spelled (map (λ r. r.expand) rows) (omega (arith, length-map rows (λ r. r.expand)))), (subst (T (map (λ r. r.mark) rows)) (at 165) (texts_spelled (map (λ r. r.mark) rows) marks (omega (arith, length-map rows (λ r. r.mark)))), tt))))))))))))))))

pub rows_spelled : (actors : List (List ℕ)) (rows : List Row) → AllByRecursion (IsRowFor actors) rows → AllByRecursion IsReadable rows → length rows ≤ 2 ^ 22 → succ_count rows ≤ 2 ^ 22
    → length actors < 2 ^ 64 → length (body (written_rows actors rows)) < 2 ^ 64 → SpellsRows actors (written_rows actors rows) rows
rows_spelled actors rows each readable few few_succs some_actors short = record {
  spelled = columns_spelled actors rows each readable few few_succs some_actors short;
  within = within actors rows each readable few few_succs;
}
