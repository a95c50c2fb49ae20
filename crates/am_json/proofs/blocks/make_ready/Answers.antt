use Rattle.std.proofs.Common.{sym, ◌∙◌}
use Rattle.am_types.specs.Views.{object_of}
use Rattle.am_json.proofs.Parted.{again}
use Rattle.am_json.proofs.blocks.make_ready.Goals as goal

pub returns-then-is_last-clause-ok : goal.returns-then-is_last-clause-ok
returns-then-is_last-clause-ok c =
    let last = c.is_last.ensures in
    let test = sym (rw c.deref.ensures.value at last) ∙ c.if-is_last.true in
    again c.args.blocks.now.items c.args.list.now.items (object_of c.args.object) c.requires test
