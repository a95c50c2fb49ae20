use Rattle.std.proofs.Common.{◌∙◌, ◌++◌, map, arith}
use Rattle.am_places.specs.Numbered.{operation_of}
use Rattle.am_merge.specs.Walk.{walked}
use Rattle.am_merge.proofs.rows.walk_all.Goals as goal

pub walk_rows-requires : goal.walk_rows-requires
walk_rows-requires c = omega (arith, c.requires.few, c.in_ok-walk.ensures.few)

pub returns : goal.returns
returns c t =
    let A = map operation_of c.args.operations.now in
    c.in_ok-walk_rows.ensures A t
    ∙ (λ i. c.in_ok-walk.ensures.none c.args.tables.now.named.items i ++ walked A c.args.rows.now (c.in_ok-walk.ensures.left i) (c.in_ok-walk.ensures.waiting i))
