-- What a reader has read, as plain data.
--     front_of r     the parts that a lent front stands for
--     places_in heads bytes     a number for each head, or None where there are no bytes
--     table_with r metas rows places     the table with these actors, heads, rows and places
use Rattle.std.specs.Prelude.{ℕ, List, [], ◌∷◌, length, Option, Some, None}
use Rattle.am_types.specs.declared.Hash.{Hash}
use Rattle.am_types.specs.declared.Meta.{Meta}
use Rattle.am_types.specs.declared.Row.{Row}
use Rattle.am_types.specs.declared.Table.{Table}
use Rattle.am_colmeta.specs.Reading.{parts, first_number}
use Rattle.am_doc.specs.Fronts.{Front}
use Rattle.am_doc.specs.declared.front.FrontRef.{FrontRef}

abbrev pub front_of : FrontRef → Front
front_of r = record { actors = r.actors; heads = r.heads; metas = r.metas; rows = r.rows }

abbrev pub places_in : ℕ → List ℕ → Option (List ℕ)
places_in heads [] = None
places_in heads (byte ∷ bytes) = Some (parts first_number heads (byte ∷ bytes))

abbrev pub table_with : List (List ℕ) → List Hash → List Meta → List Row → List ℕ → Table
table_with actors heads metas rows suffix = record {
  actors = actors;
  heads = heads;
  metas = metas;
  rows = rows;
  suffix = places_in (length heads) suffix;
}
