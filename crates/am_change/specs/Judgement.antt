-- How the contents of a change chunk are judged.
--     Judges bytes result     the answer is the right one for the contents: a fine change with these contents; or that
--                             a column is compressed; or that neither is so. Want of memory may come at any time.
--     HasOwnHashes C          each member of a set of changes stands beside its own hash
use Rattle.std.specs.Prelude.{◌≡◌, ℕ, List, All, Result, Ok, Err, ⊤}
use Rattle.am_types.specs.declared.Change.{Change}
use Rattle.am_types.specs.Fine.{Fine}
use Rattle.am_types.specs.Members.{Member}
use Rattle.am_change.specs.declared.fault.ChangeFault.{ChangeFault}
use Rattle.am_change.specs.declared.fault.ChangeFault.TheVariants.{BadChange, CompressedColumn, NoMemory}
use Rattle.am_change.specs.Contents.{contents, hash}
use Rattle.am_change.specs.Fronts.{IsCompressed}

abbrev pub Judges : List ℕ → Result Change ChangeFault → Type 0
Judges bytes (Ok c) = Fine c × (bytes ≡ contents c)
Judges bytes (Err CompressedColumn) = IsCompressed bytes
Judges bytes (Err BadChange) = (¬ IsCompressed bytes) × ((c : Change) → Fine c → bytes ≡ contents c → ⊥)
Judges bytes (Err NoMemory) = ⊤

abbrev pub HasOwnHashes : List Member → Type 0
HasOwnHashes C = All (λ m. m.hash.0 ≡ hash m.change) C
