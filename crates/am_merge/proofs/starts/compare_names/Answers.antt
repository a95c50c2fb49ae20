use Rattle.std.proofs.Common.{refl, sym}
use Rattle.am_merge.specs.Fronts.{front_at}
use Rattle.am_merge.specs.Walk.{name_in}
use Rattle.am_merge.proofs.Fronts.{after, before}
use Rattle.am_merge.proofs.Keys.{same_number}
use Rattle.am_merge.proofs.starts.compare_names.Goals as goal

pub returns-in-Less : goal.returns-in-Less
returns-in-Less c =
    sym (before (name_in c.args.a.now.operation.op.key) (name_in c.args.b.now.operation.op.key) (front_at c.args.a.now.operation) (front_at c.args.b.now.operation)
    c.in-Less.ensures.bytes.0 c.in-Less.ensures.bytes.1 refl refl (sym c.in-Less.ensures.order))

pub compare_ends-requires : goal.compare_ends-requires
compare_ends-requires c = same_number (front_at c.args.a.now.operation) (front_at c.args.b.now.operation) (sym c.in-Equal.ensures.order)

pub returns-in-Greater : goal.returns-in-Greater
returns-in-Greater c =
    sym (after (name_in c.args.a.now.operation.op.key) (name_in c.args.b.now.operation.op.key) (front_at c.args.a.now.operation) (front_at c.args.b.now.operation)
    c.in-Greater.ensures.bytes.0 c.in-Greater.ensures.bytes.1 refl refl (sym c.in-Greater.ensures.order))
