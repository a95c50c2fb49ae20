use Rattle.std.proofs.Common.{◌∙◌, length, map, sym, ap}
use Rattle.am_fields.specs.Groups.{counts}
use Rattle.am_fields.proofs.GroupLaws.{lengths-parts}
use Rattle.am_fields.proofs.groups.GroupColumns.lengths.Goals as goal

pub returns : goal.returns
returns c =
    let at = c.self.inside in
    c.of.ensures ∙ ap counts c.again.ensures ∙ sym (lengths-parts (counts at.count) at.ids c.self.invariant) ∙ ap (map length) c.self.view_is
