use Rattle.std.proofs.Common.{◌∙◌, map, ap}
use Rattle.std.proofs.lemmas.Result.{IfOk-weaker}
use Rattle.am_places.specs.Numbered.{operation_of}
use Rattle.am_merge.proofs.Aimed.{operation_in, starts_sorted}
use Rattle.am_merge.proofs.added.beginning.Goals as goal

pub returns : goal.returns
returns c =
    IfOk-weaker c.stack_of.result _ _
    (λ all e.
    e
    ∙ ap (map operation_in) (c.as_slice.ensures.value ∙ c.in_ok-sort_starts.ensures)
    ∙ starts_sorted (map operation_of c.args.operations.now) _ c.in_ok-starts.ensures c.requires.ascends)
    c.stack_of.ensures
