use Rattle.std.proofs.Common.{ap, ◌∙◌}
use Rattle.std.specs.BTreeMap.{insert_entry}
use Rattle.am_types.specs.Order.{hash_cmp}
use Rattle.am_delivery.specs.Waiting.{unboxed}
use Rattle.am_delivery.proofs.Boxes.{unboxed_insert}
use Rattle.am_store.proofs.copies.insert_copy.Goals as goal

pub returns : goal.returns
returns c =
    let es = c.args.map.now.entries in
    ap unboxed c.in_ok-insert.ensures.entries ∙ unboxed_insert c.args.hash c.in_ok-boxed.boxed es ∙ ap (insert_entry hash_cmp (unboxed es) c.args.hash) (c.in_ok-boxed.ensures.ok ∙ c.in_ok-twin.ensures)
