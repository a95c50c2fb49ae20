use Rattle.std.proofs.Common.{refl, ◌∙◌}
use Rattle.am_cache.proofs.Texts.{text_after_look}
use Rattle.am_cache.proofs.cache.Cache.get.Goals as goal

pub returns : goal.returns
returns c =
    let is = c.self.view_is ∙ c.note_look.ensures in (
      (refl, λ _. tt, is),
      record {
        after = tt;
        text = c.peek.ensures ∙ text_after_look c.args.view.now c.args.self.now c.self.inside.views.entries c.self.inside.hits is;
      },
    )
