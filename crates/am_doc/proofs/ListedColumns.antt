-- The canonical columns of a document are such as it may have, and their metadata fit 64 bits.
use Rattle.std.proofs.Common.{ℕ, ◌<◌, ◌≤◌, ◌^◌, List, [], ◌∷◌, length, refl, arith, length-append}
use Rattle.std.specs.Prelude.{Contains}
use Rattle.std.specs.List.{AllByRecursion}
use Rattle.am_types.specs.declared.Meta.{Meta}
use Rattle.am_types.specs.declared.Row.{Row}
use Rattle.am_colmeta.specs.Metadata.{listing, body, not_empty, IsPair, AreListed}
use Rattle.am_colmeta.proofs.Collecting.{Ascend-not_empty}
use Rattle.am_fields.specs.Columns.{spellings}
use Rattle.am_doccols.specs.Columns.{meta_columns, row_columns, written_metas, written_rows}
use Rattle.am_doccols.proofs.MetasWritten as metas_written
use Rattle.am_doccols.proofs.RowsWritten as rows_written
use Rattle.am_doc.specs.Spelling.{meta_specifications, row_specifications, AreColumns}

-- what holds of each specification holds of those that are listed
each_column : (P : ℕ → Type 0) (cs : List (ℕ × List ℕ)) → AllByRecursion (λ c. P c.0) cs → AllByRecursion (λ pair. P pair.0) (listing (not_empty cs))
each_column P [] all = tt
each_column P ((s, []) ∷ cs) all = each_column P cs all.1
each_column P ((s, (b ∷ bytes)) ∷ cs) all = (all.0, each_column P cs all.1)

pairs_short : (cs : List (ℕ × List ℕ)) → AllByRecursion (λ c. c.0 < 2 ^ 64) cs → length (body (not_empty cs)) < 2 ^ 64 → AllByRecursion IsPair (listing (not_empty cs)) × (length (listing (not_empty cs)) ≤ length cs)
pairs_short [] all h = (tt, omega arith)
pairs_short ((s, []) ∷ cs) all h = let more = pairs_short cs all.1 h in (more.0, let count = more.1 in omega arith)
pairs_short ((s, (b ∷ bytes)) ∷ cs) all h =
    let l = length-append (b ∷ bytes) (body (not_empty cs)) in
    let more = pairs_short cs all.1 (omega arith) in
    (((all.0, omega arith), more.0), let count = more.1 in omega arith)

-- ---- change rows

metas_known : (actors : List (List ℕ)) (metas : List Meta) → AllByRecursion (λ c. Contains meta_specifications c.0) (spellings actors (meta_columns metas))
metas_known actors metas =
    ((0, omega arith, refl), ((1, omega arith, refl), ((2, omega arith, refl), ((3, omega arith, refl), ((4, omega arith, refl), ((5, omega arith, refl), ((6, omega arith, refl), ((7, omega arith, refl), ((8, omega arith, refl), tt)))))))))

metas_low : (actors : List (List ℕ)) (metas : List Meta) → AllByRecursion (λ c. c.0 < 2 ^ 64) (spellings actors (meta_columns metas))
metas_low actors metas = (omega arith, (omega arith, (omega arith, (omega arith, (omega arith, (omega arith, (omega arith, (omega arith, (omega arith, tt)))))))))

pub are_metas : (actors : List (List ℕ)) (metas : List Meta) → AreColumns meta_specifications (written_metas actors metas)
are_metas actors metas =
    let all = spellings actors (meta_columns metas) in
    record { ascend = Ascend-not_empty all (metas_written.ascending actors metas); known = each_column (λ s. Contains meta_specifications s) all (metas_known actors metas) }

pub metas_listed : (actors : List (List ℕ)) (metas : List Meta) → length (body (written_metas actors metas)) < 2 ^ 64 → AreListed (listing (written_metas actors metas))
metas_listed actors metas h =
    let w = pairs_short (spellings actors (meta_columns metas)) (metas_low actors metas) h in
    let count : length (listing (written_metas actors metas)) ≤ 9 = w.1 in
    (omega arith, w.0)

-- ---- operation rows

rows_known : (actors : List (List ℕ)) (rows : List Row) → AllByRecursion (λ c. Contains row_specifications c.0) (spellings actors (row_columns rows))
rows_known actors rows =
    ((0, omega arith, refl), ((1, omega arith, refl), ((2, omega arith, refl), ((3, omega arith, refl), ((4, omega arith, refl), ((5, omega arith, refl), ((6, omega arith, refl), ((7, omega arith, refl), ((8, omega arith, refl), ((9, omega arith, refl), ((10, omega arith, refl), ((11, omega arith, refl), ((12, omega arith, refl), ((13, omega arith, refl), ((14, omega arith, refl), ((15, omega arith, refl), tt))))))))))))))))

rows_low : (actors : List (List ℕ)) (rows : List Row) → AllByRecursion (λ c. c.0 < 2 ^ 64) (spellings actors (row_columns rows))
rows_low actors rows = (omega arith, (omega arith, (omega arith, (omega arith, (omega arith, (omega arith, (omega arith, (omega arith, (omega arith, (omega arith, (omega arith, (omega arith, (omega arith, (omega arith, (omega arith, (omega arith, tt))))))))))))))))

pub are_rows : (actors : List (List ℕ)) (rows : List Row) → AreColumns row_specifications (written_rows actors rows)
are_rows actors rows =
    let all = spellings actors (row_columns rows) in
    record { ascend = Ascend-not_empty all (rows_written.ascending actors rows); known = each_column (λ s. Contains row_specifications s) all (rows_known actors rows) }

pub rows_listed : (actors : List (List ℕ)) (rows : List Row) → length (body (written_rows actors rows)) < 2 ^ 64 → AreListed (listing (written_rows actors rows))
rows_listed actors rows h =
    let w = pairs_short (spellings actors (row_columns rows)) (rows_low actors rows) h in
    let count : length (listing (written_rows actors rows)) ≤ 16 = w.1 in
    (omega arith, w.0)
