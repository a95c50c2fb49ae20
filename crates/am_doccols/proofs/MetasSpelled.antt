-- The canonical columns of change rows spell them.
use Rattle.std.proofs.Common.{◌≡◌, ℕ, ◌<◌, ◌≤◌, ◌^◌, List, [], ◌∷◌, length, map, refl, sym, arith, subst, Option, Some, inl}
use Rattle.std.specs.Prelude.{ℤ, IfSome, IsUtf8}
use Rattle.std.specs.List.{AllByRecursion}
use Rattle.std.proofs.lemmas.List.{length-map}
use Rattle.am_types.specs.declared.RawValue.{RawValue}
use Rattle.am_types.specs.declared.Meta.{Meta}
use Rattle.am_types.specs.Documents.{unless_empty}
use Rattle.am_types.specs.Values.{Good}
use Rattle.am_colmeta.specs.Metadata.{body, not_empty, column_at}
use Rattle.am_colmeta.proofs.Judging.{found_without_empty}
use Rattle.am_colmeta.proofs.Entries.{body-not_empty}
use Rattle.am_values.specs.Columns.{metadata}
use Rattle.am_fields.specs.Actors.{IsListed}
use Rattle.am_fields.specs.Extras.{extra_value, IsExtra, IsShortExtra}
use Rattle.am_fields.specs.Limits.{IsShortActor, IsBelow, IsTime}
use Rattle.am_fields.specs.Columns.{SpellsDeltas, SpellsActors, SpellsCounts, SpellsTimes, SpellsMessages, SpellsExtras, SpellsColumns, spellings}
use Rattle.am_fields.specs.Layout.{whole, flat}
use Rattle.am_fields.specs.Writing.{AllFit, IsShortText}
use Rattle.am_fields.proofs.PlaceLaws.{IsKnown, found}
use Rattle.am_fields.proofs.Spelled.{texts_spelled, texts_short, deltas_spelled, actors_spelled}
use Rattle.am_doccols.specs.Columns.{meta_columns, AreMetasWithin, SpellsMetas, written_metas}
use Rattle.am_doccols.specs.Conditions.{IsMetaFor, IsReadableMeta, dep_count}
use Rattle.am_doccols.proofs.MetasWritten.{ascending, times_again, messages_again, extras_again, seqs_middling, maxes_middling, times_middling, deps_middling, extras_good}
use Rattle.am_doccols.proofs.Spelling.{all_map, all_flat, mapped, counts_spelled, lengths_fit, column_within}

metadata_fits : (v : RawValue) → Good v → metadata v < 2 ^ 64
metadata_fits v good = omega (arith, good.kind, good.short)

are_extras : (extras : List (List ℕ)) → AllByRecursion IsExtra (map extra_value extras)
are_extras [] = tt
are_extras (x ∷ extras) = (inl refl, are_extras extras)

short_extra : (extra : List ℕ) → Good (extra_value extra) → IsShortExtra extra
short_extra extra good = (good.bytes, good.short)

authors_known : (actors : List (List ℕ)) (metas : List Meta) → AllByRecursion (IsMetaFor actors) metas → AllByRecursion (IsKnown actors) (map Some (map (λ m. m.actor) metas))
authors_known actors metas each =
    all_map Some (IsKnown actors) (IsListed actors) (λ a h. found actors a h) (map (λ m. m.actor) metas)
    (all_map (λ m. m.actor) (IsListed actors) (IsMetaFor actors) (λ m f. f.actor) metas each)

message_utf8 : (text : List ℕ) → IsUtf8 text → IfSome (unless_empty text) IsUtf8
message_utf8 [] h = tt
message_utf8 (b ∷ text) h = h

below : (n : ℕ) (deps : List ℕ) → AllByRecursion (λ i. i < n) deps → AllByRecursion (IsBelow 0 n) deps
below n [] all = tt
below n (i ∷ deps) all = ((omega arith, all.0), below n deps all.1)

-- the numbers of changes count from 1
seqs_within : (actors : List (List ℕ)) (n : ℕ) (metas : List Meta) → AllByRecursion (IsMetaFor actors) metas → AllByRecursion (IsReadableMeta n) metas → AllByRecursion (IsBelow 1 (2 ^ 53)) (map (λ m. m.seq) metas)
seqs_within actors n [] each readable = tt
seqs_within actors n (m ∷ metas) each readable = (((readable.0).seq, (each.0).seq), seqs_within actors n metas each.1 readable.1)

within : (actors : List (List ℕ)) (metas : List Meta) → AllByRecursion (IsMetaFor actors) metas → AllByRecursion (IsReadableMeta (length metas)) metas → length metas ≤ 2 ^ 20 → dep_count metas ≤ 2 ^ 22 → AreMetasWithin metas
within actors metas each readable few few_deps =
    let n = length metas in
    record {
      authors = all_map (λ m. m.actor) IsShortActor (IsReadableMeta n) (λ m f. f.actor) metas readable;
      seqs = seqs_within actors n metas each readable;
      maxes = all_map (λ m. m.max) (IsBelow 0 (2 ^ 53)) (IsMetaFor actors) (λ m f. (omega arith, f.max)) metas each;
      times = all_map (λ m. m.time) IsTime (IsMetaFor actors) (λ m f. f.time) metas each;
      deps = all_flat (IsBelow 0 n) (map (λ m. m.deps) metas) (all_map (λ m. m.deps) (λ deps. AllByRecursion (IsBelow 0 n) deps) (IsReadableMeta n) (λ m f. below n m.deps f.deps) metas readable);
      extras = all_map (λ m. m.extra) IsShortExtra (IsMetaFor actors) (λ m f. short_extra m.extra f.extra) metas each;
      few = few;
      few_deps = few_deps;
    }

columns_spelled : (actors : List (List ℕ)) (metas : List Meta) → AllByRecursion (IsMetaFor actors) metas → AllByRecursion (IsReadableMeta (length metas)) metas → length metas ≤ 2 ^ 20 → dep_count metas ≤ 2 ^ 22
    → length actors < 2 ^ 64 → length (body (written_metas actors metas)) < 2 ^ 64 → SpellsColumns actors (written_metas actors metas) (meta_columns metas)
columns_spelled actors metas each readable few few_deps some_actors short =
    let all = spellings actors (meta_columns metas) in
    let at : (s : ℕ) → column_at all s ≡ column_at (not_empty all) s = λ s. sym (found_without_empty all s (ascending actors metas)) in
    let size : length (body all) < 2 ^ 64 = subst (λ (b : List ℕ). length b < 2 ^ 64) (body-not_empty all) short in
    let authors = map (λ m. m.actor) metas in
    let seqs = map (λ m. m.seq) metas in
    let maxes = map (λ m. m.max) metas in
    let times = map (λ m. m.time) metas in
    let messages = map (λ m. m.message) metas in
    let groups = map (λ m. m.deps) metas in
    let deps = flat groups in
    let extras = map (λ m. m.extra) metas in
    let few_metas : length metas ≤ 2 ^ 32 = omega arith in
    let texts : AllByRecursion (λ x. IfSome x IsUtf8) (map unless_empty messages) =
    all_map unless_empty (λ x. IfSome x IsUtf8) IsUtf8 message_utf8 messages (all_map (λ m. m.message) IsUtf8 (IsReadableMeta (length metas)) (λ m f. f.message) metas readable) in
    let strings : AllFit IsShortText (map unless_empty messages) = texts_short (map unless_empty messages) (mapped (λ m. m.message) unless_empty metas (2 ^ 32) few_metas) (let l = column_within all 53 in omega arith) texts in
    let D : List (Option ℤ) → List ℕ → Type 0 = λ xs b. SpellsDeltas b xs in
    (subst (λ b. SpellsActors actors b (map Some authors)) (at 1) (actors_spelled actors (map Some authors) some_actors (authors_known actors metas each) (mapped (λ m. m.actor) (λ (n : List ℕ). Some n) metas (2 ^ 32) few_metas)), (subst (D (map whole seqs)) (at 3) (deltas_spelled (map whole seqs) (seqs_middling actors metas each) (mapped (λ m. m.seq) whole metas (2 ^ 32) few_metas)), (subst (D (map whole maxes)) (at 19) (deltas_spelled (map whole maxes) (maxes_middling actors metas each) (mapped (λ m. m.max) whole metas (2 ^ 32) few_metas)), (subst (λ b. SpellsTimes b times) (at 35) (map Some times, deltas_spelled (map Some times) (times_middling actors metas each) (mapped (λ m. m.time) (λ (n : ℤ). Some n) metas (2 ^ 32) few_metas), times_again times), (subst (λ b. SpellsMessages b messages) (at 53) (map unless_empty messages, texts_spelled (map unless_empty messages) strings (mapped (λ m. m.message) unless_empty metas (2 ^ 32) few_metas), messages_again messages), (subst (λ b. SpellsCounts b (map length groups)) (at 64) (counts_spelled (map length groups) (lengths_fit groups (2 ^ 22) few_deps (omega arith)) (mapped (λ m. m.deps) length metas (2 ^ 32) few_metas)), (subst (D (map whole deps)) (at 67) (deltas_spelled (map whole deps) (deps_middling actors metas each) (omega (arith, length-map deps whole))), (subst (λ b. SpellsExtras b extras) (at 86) (map extra_value extras, counts_spelled (map metadata (map extra_value extras)) (all_map metadata (λ n. n < 2 ^ 64) Good metadata_fits (map extra_value extras) (extras_good actors metas each)) (omega (arith, length-map (map extra_value extras) metadata, length-map extras extra_value, length-map metas (λ m. m.extra))), (are_extras extras, extras_again extras)), (sym (at 87), tt)))))))))

pub metas_spelled : (actors : List (List ℕ)) (metas : List Meta) → AllByRecursion (IsMetaFor actors) metas → AllByRecursion (IsReadableMeta (length metas)) metas → length metas ≤ 2 ^ 20 → dep_count metas ≤ 2 ^ 22
    → length actors < 2 ^ 64 → length (body (written_metas actors metas)) < 2 ^ 64 → SpellsMetas actors (written_metas actors metas) metas
metas_spelled actors metas each readable few few_deps some_actors short = record {
  spelled = columns_spelled actors metas each readable few few_deps some_actors short;
  within = within actors metas each readable few few_deps;
}
