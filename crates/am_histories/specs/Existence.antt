-- Whether a table has a history.
--     HistoryOrNone     each table has a history, whose members stand beside the hashes that f gives, or it has none
-- It is proved without the law of excluded middle, by tests that tell which of the two it is.
use Rattle.std.specs.Prelude.{List, ◌⊎◌}
use Rattle.am_types.specs.declared.Change.{Change}
use Rattle.am_types.specs.declared.Hash.{Hash}
use Rattle.am_types.specs.declared.Table.{Table}
use Rattle.am_types.specs.Members.{Member}
use Rattle.am_types.specs.Documents.{History}
use Rattle.am_histories.specs.Laws.{AreHashedBy}

abbrev pub HistoryOrNone : Type 0
HistoryOrNone = (f : Change → Hash) (t : Table) → ((C : List Member) × AreHashedBy f C × History t C) ⊎ ((C : List Member) → AreHashedBy f C → History t C → ⊥)
