-- What deliveries leave depends on their changes alone, not on their order, their repeats or how they were shared out.
--     AreToldBy D k                what a store keeps is told by the members D: the closed set is the greatest valid set within D,
--                                  and the others of D wait that lack a dependency in it
--     ComesInAnyOrder old L new    the sets old were left by some deliveries, whichever one names; then new are left by these with
--                                  L behind them, and where no two members of all of them clash, new is told by the members alone
use Rattle.std.specs.Prelude.{◌≡◌, ◌↔◌, false, List, [], ◌∷◌, ◌++◌, Contains}
use Rattle.am_types.specs.Members.{Member, holds_deps}
use Rattle.am_types.specs.ValidSets.{IsGreatest}
use Rattle.am_types.specs.Deliver.{StandFor}
use Rattle.am_delivery.specs.Laws.{NoneClash, AreMembers}
use Rattle.am_store.specs.Kept.{Kept}

pub record AreToldBy (D : List Member) (k : Kept) : Type 0 where
  pub closed : IsGreatest D k.closed
  pub waiting : (m : Member) → Contains k.waiting m ↔ (Contains D m × (holds_deps k.closed m.change ≡ false))

pub record ComesInAnyOrder (old : Kept) (L : List Member) (new : Kept) : Type 0 where
  pub stands : (Ls : List (List Member)) → StandFor old.closed old.waiting Ls → StandFor new.closed new.waiting (Ls ++ L ∷ [])
  pub told : (Ls : List (List Member)) (D : List Member) → StandFor old.closed old.waiting Ls → AreMembers D (Ls ++ L ∷ []) → NoneClash D → AreToldBy D new
