use Rattle.std.proofs.Common.{refl, sym, ap, ◌∙◌, length}
use Rattle.am_opcols.proofs.OpLaws.{length-ops}
use Rattle.am_opcols.proofs.cursor.OpCursor.left.Goals as goal

pub returns : goal.returns
returns c =
    let r = c.self.inside in
    let even = c.self.invariant in
    c.left.ensures
    ∙ sym (length-ops r.objects r.keys r.inserts r.actions r.values r.preds r.expands r.marks
    (record { objects = even.0; keys = even.1; inserts = even.2; actions = refl; values = even.3; preds = even.4; expands = even.5; marks = even.6 }))
    ∙ ap length c.self.view_is
