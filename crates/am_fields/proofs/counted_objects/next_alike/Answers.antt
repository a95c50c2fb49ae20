use Rattle.am_types.specs.Views.{object_of}
use Rattle.am_fields.proofs.Alike.{alike_before}
use Rattle.am_fields.proofs.counted_objects.next_alike.Goals as goal

pub returns : goal.returns
returns c =
    let like = c.like-count in
    alike_before like.result.1 (object_of like.result.0) c.args.objects.now like.new.self c.skip.new.self like.ensures.like like.ensures.same c.skip.ensures
