-- What a store keeps, and what a delivery does to it.
--     Kept                        the two sets of a store, closed and waiting
--     nothing                     the two sets of an empty store
--     IsKept k                    what holds of the two sets of each store
--     counts_with t n             the totals t of a closed set, beside the number n of the waiting changes
--     counts_of k                 the counts of the sets k: of the closed one its changes, operations, predecessors and
--                                 dependencies; and how many changes wait
--     Takes old L r new           the members L, delivered to the sets old, leave the sets new, each in some order, with the
--                                 report r
--     Delivered old cs r new      the same of the changes cs, each beside its own hash
use Rattle.std.specs.Prelude.{ℕ, ◌≡◌, ◌+◌, List, [], ◌++◌, length, IsPermutation}
use Rattle.am_types.specs.declared.Change.{Change}
use Rattle.am_types.specs.declared.Totals.{Totals}
use Rattle.am_types.specs.Members.{Member, changes}
use Rattle.am_types.specs.Totals.{totals_of}
use Rattle.am_types.specs.Deliver.{AreStored, deliver}
use Rattle.am_change.specs.Hashes.{with_hashes}
use Rattle.am_change.specs.Judgement.{HasOwnHashes}
use Rattle.am_store.specs.declared.report.Report.{Report}
use Rattle.am_store.specs.declared.report.Counts.{Counts}

pub record Kept : Type 0 where
  pub closed : List Member
  pub waiting : List Member

abbrev pub nothing : Kept
nothing = record { closed = []; waiting = [] }

-- the closed set is valid, the waiting changes are fine and lack a dependency, hashes are distinct, and each change
-- stands beside its own
pub record IsKept (k : Kept) : Type 0 where
  pub stored : AreStored k.closed k.waiting
  pub own_hashes : HasOwnHashes (k.closed ++ k.waiting)

abbrev pub counts_with : Totals → ℕ → Counts
counts_with t n = record { changes = t.changes; operations = t.operations; preds = t.preds; links = t.links; waiting = n }

abbrev pub counts_of : Kept → Counts
counts_of k = counts_with (totals_of (changes k.closed)) (length k.waiting)

pub record Takes (old : Kept) (L : List Member) (report : Report) (new : Kept) : Type 0 where
  pub closed : IsPermutation (deliver old.closed old.waiting L).closed new.closed
  pub waiting : IsPermutation (deliver old.closed old.waiting L).waiting new.waiting
  pub rejected : report.rejected ≡ (deliver old.closed old.waiting L).rejected
  pub added : length old.closed + report.added ≡ length new.closed
  pub wait : report.waiting ≡ length new.waiting

abbrev pub Delivered : Kept → List Change → Report → Kept → Type 0
Delivered old cs report new = Takes old (with_hashes cs) report new
