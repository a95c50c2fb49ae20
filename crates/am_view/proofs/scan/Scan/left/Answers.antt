use Rattle.std.proofs.Common.{sym, ap, ◌∙◌, length}
use Rattle.std.proofs.lemmas.List.{length-map}
use Rattle.am_doccols.proofs.RowsTaken.{cursor_fields}
use Rattle.am_view.proofs.scan.Scan.left.Goals as goal

pub returns : goal.returns
returns c =
    let inv = c.self.invariant in
    let at = c.self.inside in
    let all = cursor_fields c.args.self.now at.objects at.keys at.ids at.inserts at.actions at.values at.succs at.expands at.marks inv.0 inv.1 inv.2 inv.3 inv.4 inv.5 inv.6 inv.7 c.self.view_is in
    c.left.ensures ∙ sym (ap length all.actions) ∙ length-map c.args.self.now (λ r. r.action)
