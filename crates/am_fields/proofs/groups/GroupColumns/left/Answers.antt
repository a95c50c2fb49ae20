use Rattle.std.proofs.Common.{◌∙◌, sym}
use Rattle.am_fields.proofs.Copies.{group_count}
use Rattle.am_fields.proofs.groups.GroupColumns.left.Goals as goal

pub returns : goal.returns
returns c =
    let at = c.self.inside in
    c.left.ensures ∙ sym (group_count at.count at.ids c.args.self.now c.self.view_is)
