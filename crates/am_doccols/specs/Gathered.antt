-- Rows that are gathered before they are written.
--     operation id op          the operation beside its id
--     operation_in g           the operation of a row beside its id
--     rows_given gs ids        the rows gs, each with as many of the ids as it has successors, in their order
--     total gs                 how many successors they have in all
--     AreGiven actors gs ids   they have just these ids as successors, and each row may be written
--     with_gathered x gs       the fields x, and behind them those of the rows
--     rows_gathered failed written gs ids     what was written, and behind it the rows that are gathered
--     IsGathering ..           while memory is had, the rows that are gathered may be written behind those that were
use Rattle.std.specs.Prelude.{◌≡◌, ℕ, ◌+◌, List, [], ◌∷◌, ◌++◌, length, map, take, drop, Option, Some, None, Bool, true, false}
use Rattle.std.specs.List.{AllByRecursion}
use Rattle.am_types.specs.declared.IdRef.{IdRef}
use Rattle.am_types.specs.declared.Op.{Op}
use Rattle.am_types.specs.declared.OpId.{OpId}
use Rattle.am_types.specs.declared.Row.{Row}
use Rattle.am_types.specs.Operations.{Operation}
use Rattle.am_types.specs.Rows.{row_of}
use Rattle.am_types.specs.Views.{id_of}
use Rattle.am_fields.specs.Held.{FieldLists}
use Rattle.am_doccols.specs.declared.gathered.GatheredRow.{GatheredRow}
use Rattle.am_doccols.specs.Conditions.{IsRowFor}
use Rattle.am_doccols.specs.Front.{HasRoomFor}

abbrev pub operation : IdRef → Op → Operation
operation id op = record { id = id_of id; op = op }

abbrev pub operation_in : GatheredRow → Operation
operation_in g = operation g.id g.op.now

abbrev pub rows_given : List GatheredRow → List OpId → List Row
rows_given [] ids = []
rows_given (g ∷ gs) ids = row_of (take g.succs ids) (operation_in g) ∷ rows_given gs (drop g.succs ids)

abbrev pub total : List GatheredRow → ℕ
total [] = 0
total (g ∷ gs) = g.succs + total gs

pub record AreGiven (actors : List (List ℕ)) (gs : List GatheredRow) (ids : List OpId) : Type 0 where
  pub count : total gs ≡ length ids
  pub all : AllByRecursion (IsRowFor actors) (rows_given gs ids)

abbrev pub with_gathered : FieldLists → List GatheredRow → FieldLists
with_gathered x gs = record {
  objects = x.objects ++ map (λ g. g.op.now.obj) gs;
  keys = x.keys ++ map (λ g. g.op.now.key) gs;
  inserts = x.inserts ++ map (λ g. g.op.now.insert) gs;
  actions = x.actions ++ map (λ g. g.op.now.action) gs;
  values = x.values ++ map (λ g. g.op.now.value) gs;
  expands = x.expands ++ map (λ g. g.op.now.expand) gs;
  marks = x.marks ++ map (λ g. g.op.now.mark) gs;
}

abbrev pub rows_gathered : Bool → Option (List Row) → List GatheredRow → List IdRef → Option (List Row)
rows_gathered true written gs ids = None
rows_gathered false None gs ids = None
rows_gathered false (Some rows) gs ids = Some (rows ++ rows_given gs (map id_of ids))

pub record IsGatheringRows (actors : List (List ℕ)) (written : Option (List Row)) (gs : List GatheredRow) (ids : List IdRef) : Type 0 where
  pub rows : List Row
  pub are_written : written ≡ Some rows
  pub given : AreGiven actors gs (map id_of ids)
  pub room : HasRoomFor rows (rows_given gs (map id_of ids))

abbrev pub IsGathering : Bool → List (List ℕ) → Option (List Row) → List GatheredRow → List IdRef → Type 0
IsGathering true actors written gs ids = Unit {0}
IsGathering false actors written gs ids = IsGatheringRows actors written gs ids
