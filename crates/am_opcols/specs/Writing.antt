-- What is written of the operations of a change.
--     written_columns author ops     the canonical columns of the operations, those with bytes
use Rattle.std.specs.Prelude.{ℕ, List, ◌∷◌}
use Rattle.am_types.specs.declared.Op.{Op}
use Rattle.am_colmeta.specs.Metadata.{not_empty}
use Rattle.am_fields.specs.Columns.{spellings}
use Rattle.am_opcols.specs.Columns.{op_columns}
use Rattle.am_opcols.specs.Others.{others}

abbrev pub written_columns : List ℕ → List Op → List (ℕ × List ℕ)
written_columns author ops = not_empty (spellings (author ∷ others author ops) (op_columns ops))
