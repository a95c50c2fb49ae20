use Rattle.std.proofs.Common.{◌∙◌, ap, map}
use Rattle.am_types.specs.Views.{id_of, object_of}
use Rattle.am_merge.specs.Naming.{named_of, references}
use Rattle.am_merge.specs.Stacks.{stacked}
use Rattle.am_merge.specs.Turns.{pushed}
use Rattle.am_merge.specs.Walk.{hanging}
use Rattle.am_merge.proofs.Stopping.{hung_are}
use Rattle.am_merge.proofs.stops.push_element.Goals as goal

pub returns : goal.returns
returns c A t =
    c.in_ok-push_each.ensures
    ∙ ap (λ l. pushed l (stacked c.args.waiting.now.items))
    (hung_are A c.named_in.result.now (object_of c.args.obj) (id_of c.args.id) (c.named_in.ensures (references (hanging A)) (ap (map named_of) c.as_slice.ensures.value ∙ t.hanging_is)))
