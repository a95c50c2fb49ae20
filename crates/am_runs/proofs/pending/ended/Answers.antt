use Rattle.std.proofs.Common.{◌≡◌, [], length, arith, ap}
use Rattle.std.proofs.lemmas.List.{nil_from_length}
use Rattle.std.proofs.lemmas.Grind.{common_steps}
use Rattle.am_runs.specs.declared.pending.PendingKind.TheVariants as pending
use Rattle.am_runs.proofs.Finishing.{finished, finished_bare}
use Rattle.am_runs.proofs.pending.ended.Goals as goal
use Rattle.am_runs.proofs.pending.ended.Goals.{in-Nulls+else-is_empty, in_default}

pub returns-then-is_empty : goal.returns-then-is_empty
returns-then-is_empty g c = λ list l h. finished_bare _ _ _ _ _ _ list c.in-Nulls.is (nil_from_length _ (grind (arith, common_steps))) h

pub returns : goal.returns
returns g c =
    let not_bare : c.args.pending.kind ≡ pending.Nulls → c.args.done.items ≡ [] → ⊥ = elim c.match-pending.branch [
      | in-Nulls+else-is_empty w ↦ λ k e. (let n = ap length e in grind (arith, common_steps))
      | in_default w ↦ λ k e. w.in_default.not-Nulls k
    ] in
    λ list l h. finished _ _ _ _ _ _ _ list not_bare l c.in_ok-close.ensures h
