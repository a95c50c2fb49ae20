-- What the fields of a store stand for, and how faults are told.
--     IsWhole s                   the sets are kept well; the contents are those of the document of the closed set, whose graph
--                                 and index are kept; the counts are right; and where it is known what the waiting changes
--                                 lack, it is so
--     MatchLoad fault P           P holds of the first bad chunk, where there is one
use Rattle.std.specs.Prelude.{◌≡◌, ⊤}
use Rattle.am_types.specs.Documents.{table}
use Rattle.am_delivery.specs.Waiting.{members_of, waiting_of, IsTracked}
use Rattle.am_doc.specs.Contents.{body}
use Rattle.am_fits.specs.Indexes.{AreOf}
use Rattle.am_store.specs.Kept.{Kept, IsKept, counts_of}
use Rattle.am_store.specs.declared.fault.LoadError.{LoadError}
use Rattle.am_store.specs.declared.fault.ReadFault.{ReadFault}
use Rattle.am_store.specs.declared.fault.ReadFault.TheVariants as read_fault
use Rattle.am_store.specs.declared.store.Store.TheInside.{Inside}

abbrev pub kept_in : Inside → Kept
kept_in s = record { closed = members_of s.closed.entries; waiting = waiting_of s.waiting.changes }

pub record IsWhole (s : Inside) : Type 0 where
  pub kept : IsKept (kept_in s)
  pub contents : s.contents ≡ body (table (kept_in s).closed)
  pub of_set : AreOf (kept_in s).closed s.graph s.index
  pub counts : s.counts ≡ counts_of (kept_in s)
  pub tracked : IsTracked (kept_in s).closed (kept_in s).waiting s.waiting.pending

abbrev pub MatchLoad : ReadFault → (LoadError → Type 0) → Type 0
MatchLoad (read_fault.Load e) P = P e
MatchLoad read_fault.NoMemory P = ⊤
