-- What is rebuilt from a document.
--     bare t              the table t without the places of the heads, which are no part of a history
--     IsHistoryOf t cs    the changes cs, each beside its own hash, are the history of the table t, and no others are
--     Rebuilds t result   the answer is the right one for the table t: the changes of its history, which has the stated heads;
--                         or the least hash that is among just one of its heads and the stated ones; or that it has no history
--     without_hashes result      the answer without the hashes
--     changes_rebuilt result     the answer's changes alone
--     AreOwn pairs        each change stands behind its own hash
-- Where there is no memory nothing is said.
use Rattle.std.specs.Prelude.{◌≡◌, List, map, None, Result, Ok, Err, Vec, vec_items, ⊤}
use Rattle.std.specs.Global.{Global}
use Rattle.am_types.specs.declared.Hash.{Hash}
use Rattle.am_types.specs.declared.Change.{Change}
use Rattle.am_types.specs.declared.Table.{Table}
use Rattle.am_types.specs.Members.{heads}
use Rattle.am_types.specs.Documents.{History}
use Rattle.am_change.specs.Hashes.{with_hashes}
use Rattle.am_delivery.specs.Waiting.{members_of}
use Rattle.am_rebuild.specs.Judged.{IsLeastApart}
use Rattle.am_rebuild.specs.declared.fault.RebuildFault.{RebuildFault}
use Rattle.am_rebuild.specs.declared.rebuilt.Rebuilt.{Rebuilt}
use Rattle.am_rebuild.specs.declared.fault.RebuildFault.TheVariants.{NoHistory, HeadsMismatch, NoMemory}

abbrev pub bare : Table → Table
bare t = record { actors = t.actors; heads = t.heads; metas = t.metas; rows = t.rows; suffix = None }

pub record IsHistoryOf (t : Table) (cs : List Change) : Type 0 where
  pub history : History t (with_hashes cs)
  pub one : (ds : List Change) → History t (with_hashes ds) → ds ≡ cs

abbrev pub Rebuilds : Table → Result (List Change) RebuildFault → Type 0
Rebuilds t (Ok cs) = IsHistoryOf t cs × (heads (with_hashes cs) ≡ t.heads)
Rebuilds t (Err (HeadsMismatch h)) = (cs : List Change) × IsHistoryOf t cs × IsLeastApart (heads (with_hashes cs)) t.heads h
Rebuilds t (Err NoHistory) = (cs : List Change) → History t (with_hashes cs) → ⊥
Rebuilds t (Err NoMemory) = ⊤

abbrev pub changes_of : List (Hash × Change) → List Change
changes_of pairs = map (λ e. e.1) pairs

abbrev pub without_hashes : Result (Vec (Hash × Change) Global) RebuildFault → Result (List Change) RebuildFault
without_hashes (Ok pairs) = Ok (changes_of (vec_items pairs))
without_hashes (Err fault) = Err fault

abbrev pub changes_rebuilt : Result Rebuilt RebuildFault → Result (List Change) RebuildFault
changes_rebuilt (Ok r) = Ok (changes_of (vec_items r.entries))
changes_rebuilt (Err fault) = Err fault

abbrev pub AreOwn : List (Hash × Change) → Type 0
AreOwn pairs = members_of pairs ≡ with_hashes (changes_of pairs)
