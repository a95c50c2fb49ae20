-- The columns that were finished, of rows and of change rows.
--     row_texts text, meta_texts text     each specification beside its bytes, ascending
--     MetasFinished w text                the bytes are what the writers of change rows give
use Rattle.std.specs.Prelude.{◌≡◌, ℕ, List, [], ◌∷◌, IfSome}
use Rattle.am_delta.specs.Deltas.{CanonDeltas}
use Rattle.am_values.specs.Columns.{CanonValues}
use Rattle.am_fields.specs.Columns.{numbers_bytes, texts_bytes}
use Rattle.am_fields.specs.Specifications as specifications
use Rattle.am_doccols.specs.MetaSpecifications as meta_specifications
use Rattle.am_doccols.specs.declared.meta_columns.MetaColumns.{MetaColumns}
use Rattle.am_doccols.specs.declared.finished.RowText.{RowText}
use Rattle.am_doccols.specs.declared.meta_finished.MetaText.{MetaText}

abbrev pub row_texts : RowText → List (ℕ × List ℕ)
row_texts text =
    (specifications.object_actor, text.fields.object_actor)
    ∷ (specifications.object_counter, text.fields.object_counter)
    ∷ (specifications.key_actor, text.fields.key_actor)
    ∷ (specifications.key_counter, text.fields.key_counter)
    ∷ (specifications.key_name, text.fields.key_name)
    ∷ (specifications.id_actor, text.ids.places)
    ∷ (specifications.id_counter, text.ids.counters)
    ∷ (specifications.insert, text.fields.insert)
    ∷ (specifications.action, text.fields.action)
    ∷ (specifications.value_metadata, text.fields.numbers)
    ∷ (specifications.value_raw, text.fields.raw)
    ∷ (specifications.succ_count, text.ids.lengths)
    ∷ (specifications.succ_actor, text.ids.succ_places)
    ∷ (specifications.succ_counter, text.ids.succ_counters)
    ∷ (specifications.expand, text.fields.expand)
    ∷ (specifications.mark, text.fields.mark)
    ∷ []

abbrev pub meta_texts : MetaText → List (ℕ × List ℕ)
meta_texts text =
    (meta_specifications.author, text.actor)
    ∷ (meta_specifications.seq, text.seq)
    ∷ (meta_specifications.max, text.max)
    ∷ (meta_specifications.time, text.time)
    ∷ (meta_specifications.message, text.message)
    ∷ (meta_specifications.dep_count, text.lengths)
    ∷ (meta_specifications.dep_index, text.deps)
    ∷ (meta_specifications.extra_metadata, text.numbers)
    ∷ (meta_specifications.extra_raw, text.raw)
    ∷ []

pub record MetasFinished (w : MetaColumns) (text : MetaText) : Type 0 where
  pub actor : IfSome w.actor (λ items. text.actor ≡ numbers_bytes items)
  pub seq : IfSome w.seq (CanonDeltas text.seq)
  pub max : IfSome w.max (CanonDeltas text.max)
  pub time : IfSome w.time (CanonDeltas text.time)
  pub message : IfSome w.message (λ items. text.message ≡ texts_bytes items)
  pub lengths : IfSome w.lengths (λ items. text.lengths ≡ numbers_bytes items)
  pub deps : IfSome w.deps (CanonDeltas text.deps)
  pub values : IfSome w.extra (CanonValues text.numbers text.raw)
