use Rattle.std.proofs.Common.{refl, sym, ◌∙◌}
use Rattle.am_types.specs.Views.{object_of}
use Rattle.am_json.proofs.Parted.{again, anew}
use Rattle.am_json.proofs.blocks.begin.Goals as goal

pub returns-then-is_last-clause-ok : goal.returns-then-is_last-clause-ok
returns-then-is_last-clause-ok c =
    let last = c.is_last.ensures in
    let test = sym (rw c.deref.ensures.value at last) ∙ c.if-is_last.true in
    again c.args.blocks.now.items c.args.entries.now (object_of c.args.object) c.requires test

pub returns-clause-ok : goal.returns-clause-ok
returns-clause-ok c =
    let last = c.is_last.ensures in
    let test = sym (rw c.deref.ensures.value at last) ∙ c.if-is_last.false in
    rw c.in_ok-push.ensures.items (anew c.args.blocks.now.items c.args.entries.now (object_of c.args.object) c.requires test _ refl refl)
