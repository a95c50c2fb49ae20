use Rattle.std.proofs.Common.{◌≡◌, Bor, map, take}
use Rattle.am_types.specs.declared.Change.{Change}
use Rattle.am_store.proofs.staging.lent.Given as goal

abbrev pub invariant-loop-change : goal.invariant-loop-change
invariant-loop-change l = map (λ (x : Bor Change). x.now) l.list.items ≡ take l.change-index l.changes
