-- Changes with what was built of them, which an empty store can take over.
--     IsBuilt es b         graph and index are those of the entries es, which are a valid set, and the document has their rows
use Rattle.std.specs.Prelude.{◌≡◌, List}
use Rattle.am_types.specs.declared.Hash.{Hash}
use Rattle.am_types.specs.declared.Change.{Change}
use Rattle.am_types.specs.Members.{changes}
use Rattle.am_types.specs.Operations.{all_operations}
use Rattle.am_types.specs.Rows.{rows}
use Rattle.am_types.specs.ValidSets.{Valid}
use Rattle.am_fits.specs.Indexes.{AreOf}
use Rattle.am_delivery.specs.Waiting.{members_of}
use Rattle.am_store.specs.declared.file_changes.Built.{Built}

pub record IsBuilt (es : List (Hash × Change)) (b : Built) : Type 0 where
  pub of_set : AreOf (members_of es) b.graph b.index
  pub valid : Valid (members_of es)
  pub rows_are : b.doc.rows ≡ rows (all_operations (changes (members_of es)))
