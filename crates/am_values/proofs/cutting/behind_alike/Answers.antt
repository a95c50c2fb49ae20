use Rattle.std.proofs.Common.{◌≡◌, ◌*◌, drop, sym, subst, refl}
use Rattle.am_values.specs.Cutting.{AreAlikeCut, width}
use Rattle.am_values.proofs.Alike.{alike_none, none_behind}
use Rattle.am_values.proofs.cutting.behind_alike.Goals as goal

pub returns-in-None-clause-some : goal.returns-in-None-clause-some
returns-in-None-clause-some c =
    subst (λ x. AreAlikeCut c.args.count x c.args.raw.now × (c.args.raw.now ≡ drop (c.args.count * width x) c.args.raw.now)) (sym c.in-None.is)
    (alike_none c.args.count c.args.raw.now, none_behind c.args.count 0 c.args.raw.now refl)
