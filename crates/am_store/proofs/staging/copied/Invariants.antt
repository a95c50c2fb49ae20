use Rattle.std.proofs.Common.{◌≡◌, Bor, map, take}
use Rattle.am_types.specs.declared.Change.{Change}
use Rattle.am_store.proofs.staging.copied.Given as goal

abbrev pub invariant-loop-change : goal.invariant-loop-change
invariant-loop-change l = l.list.items ≡ map (λ (x : Bor Change). x.now) (take l.change-index l.changes)
