-- Small changes, for tests.
--     sample actor seq deps     a change without operations
--     bare c                    c has no operations and one dependency at most, is its actor's first, and starts at 1
--     isnt_bare m               the change of m isn't bare
--     Kept C B W pending        what a delivery asks for and leaves: C is at rest with the members B, and W waits beside it
use Rattle.std.specs.Prelude.{ℕ, ◌≡◌, Bool, not, ◌&&◌, ◌==◌, nat_lt, List, [], length, pos, Option}
use Rattle.am_types.specs.declared.Hash.{Hash}
use Rattle.am_types.specs.declared.Change.{Change}
use Rattle.am_types.specs.Members.{Member}
use Rattle.am_types.specs.Deliver.{AreStored}
use Rattle.am_delivery.specs.Waiting.{IsTracked}
use Rattle.am_delivery.specs.declared.Pending.{Pending}

abbrev pub sample : List ℕ → ℕ → List Hash → Change
sample actor seq deps = record { deps = deps; actor = actor; seq = seq; start = 1; time = pos 0; message = []; ops = []; extra = [] }

abbrev pub bare : Change → Bool
bare c = c.seq == 1 && (c.start == 1 && (length c.ops == 0 && nat_lt (length c.deps) 2))

abbrev pub isnt_bare : Member → Bool
isnt_bare m = not (bare m.change)

pub record Kept (C B W : List Member) (pending : Option Pending) : Type 0 where
  pub rest : C ≡ B
  pub stored : AreStored C W
  pub tracked : IsTracked C W pending
