use Rattle.std.proofs.Common.{◌++◌, refl, ap, ◌∙◌}
use Rattle.am_runs.proofs.Neighbours.{apart_at, whole_front, whole_last}
use Rattle.am_runs.proofs.pending.extend_apart.Goals as goal

pub returns : goal.returns
returns g c = λ start list a h. apart_at _ _ _ _ _ _ start _ _ _ _ _ _ _ _ _ list c.requires.kind a refl refl
    (c.in_ok-extend.ensures.front ∙ ap (λ f. (c.args.p.now.kept.front ++ c.args.p.now.kept.last) ++ f) (whole_front _ _ _ _ _ _ _ _ a))
    (c.in_ok-extend.ensures.last ∙ whole_last _ _ _ _ _ _ _ _ a) h
