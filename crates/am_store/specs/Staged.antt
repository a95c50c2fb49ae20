-- What a staged store keeps.
--     Staged               the two sets of a store, and whether its document has all of the closed set
--     at_rest k            the document has all
--     seen store ahead     what is seen of both: what is ahead, where there is something, and else the store
use Rattle.std.specs.Prelude.{Bool, true, false, Option, None, Some}
use Rattle.am_store.specs.Kept.{Kept}

pub record Staged : Type 0 where
  pub kept : Kept
  pub settled : Bool

abbrev pub at_rest : Kept → Staged
at_rest k = record { kept = k; settled = true }

abbrev pub seen : Kept → Option Kept → Staged
seen store None = at_rest store
seen store (Some ahead) = record { kept = ahead; settled = false }
