-- What is kept while the document lacks changes.
--     IsUnsettled u     no change is joining, both sets are kept well, and where it is known what the waiting changes lack, it is so
use Rattle.std.specs.Prelude.{◌≡◌, ◌++◌}
use Rattle.am_delivery.specs.Waiting.{members_of, waiting_of, IsTracked}
use Rattle.am_store.specs.Kept.{Kept, IsKept}
use Rattle.am_store.specs.declared.unsettled.Unsettled.TheInside.{Inside}

abbrev pub unsettled_in : Inside → Kept
unsettled_in u = record { closed = members_of u.set.old; waiting = waiting_of u.waiting.changes }

pub record IsUnsettled (u : Inside) : Type 0 where
  pub rest : members_of (u.set.old ++ u.set.fresh) ≡ members_of u.set.old
  pub kept : IsKept (unsettled_in u)
  pub tracked : IsTracked (unsettled_in u).closed (unsettled_in u).waiting u.waiting.pending
