-- Operations by numbers.
--     IsNumber A o n     n is the number of the object o: 0 for the root, else one more than the place among the operations
--                        A of the one that made it
--     IsRanked A r       r has the number of its object, and its operation's place among A
--     ranked_cmp p q     by the number of the object, then by slot, then by the operation's place
use Rattle.std.specs.Prelude.{ℕ, ◌≡◌, ◌<◌, ◌-◌, List}
use Rattle.std.specs.Ordering.{nat_cmp, ordering_then}
use Rattle.std.specs.declared.cmp.Ordering.{Ordering}
use Rattle.am_types.specs.declared.ObjId.{ObjId}
use Rattle.am_types.specs.declared.ObjId.TheVariants.{Root, Made}
use Rattle.am_types.specs.Operations.{Operation}
use Rattle.am_places.specs.Placed.{rank_cmp, slot_rank}
use Rattle.am_places.specs.Rising.{HasAt}
use Rattle.am_rows.specs.Lent.{kept_operation}
use Rattle.am_rows.specs.declared.ranked.Ranked.{Ranked}

abbrev pub IsNumber : List Operation → ObjId → ℕ → Type 0
IsNumber A Root n = n ≡ 0
IsNumber A (Made i) n = (0 < n) × HasAt A i (n - 1)

pub record IsRanked (A : List Operation) (r : Ranked) : Type 0 where
  pub object : IsNumber A (kept_operation r.kept).op.obj r.object
  pub at : HasAt A (kept_operation r.kept).id r.kept.at

abbrev pub ranked_cmp : Ranked → Ranked → Ordering
ranked_cmp p q = ordering_then (nat_cmp p.object q.object) (ordering_then (rank_cmp (slot_rank p.kept.placed.slot) (slot_rank q.kept.placed.slot)) (nat_cmp p.kept.at q.kept.at))
