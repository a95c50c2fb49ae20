use Rattle.std.proofs.Common.{refl, sym, ap, ◌∙◌, length}
use Rattle.am_doccols.proofs.MetaLaws.{length-metas}
use Rattle.am_doccols.proofs.metas.MetaCursor.left.Goals as goal

pub returns : goal.returns
returns c =
    let r = c.self.inside in
    let even = c.self.invariant in
    c.left.ensures
    ∙ sym (length-metas r.authors r.seqs r.maxes r.times r.messages r.deps r.extras
    (record { authors = refl; seqs = even.0; maxes = even.1; times = even.2; messages = even.3; deps = even.4; extras = even.5 }))
    ∙ ap length c.self.view_is
