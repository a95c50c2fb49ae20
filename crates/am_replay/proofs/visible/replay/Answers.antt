use Rattle.std.proofs.Common.{◌≡◌, ◌∙◌, map, ap, sym, subst, IfOk}
use Rattle.am_types.specs.Operations.{all_operations, ascending}
use Rattle.am_places.specs.Numbered.{operation_of}
use Rattle.am_places.specs.Sound.{Sound}
use Rattle.am_replay.specs.Placed.{entries_in}
use Rattle.am_replay.proofs.Agreeing.{entries_are}
use Rattle.am_replay.proofs.visible.replay.Goals as goal

pub read-requires : goal.read-requires
read-requires c = record { sound = subst (λ ns. Sound (map operation_of ns)) (sym c.as_slice.ensures.value) c.in_ok-operations.ensures.sound }

pub returns : goal.returns
returns c =
    let sorted : map operation_of c.as_slice.result.now ≡ ascending (all_operations c.args.changes.now) =
    ap (map operation_of) c.as_slice.ensures.value ∙ c.in_ok-operations.ensures.operations in
    subst (λ es. IfOk c.read.result (λ d. d.entries ≡ es)) (ap entries_in sorted ∙ entries_are (all_operations c.args.changes.now)) c.read.ensures
