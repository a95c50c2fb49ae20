use Rattle.std.proofs.Common.{drop, ap, sym, ◌∙◌}
use Rattle.std.proofs.lemmas.List.{drop_min}
use Rattle.std.specs.Prelude.{min}
use Rattle.am_colmeta.specs.Reading.{parts, first_prefixed}
use Rattle.am_colmeta.proofs.Counted.{length-parts}
use Rattle.am_colmeta.proofs.actors.ActorList.skip.Goals as goal

pub returns-then-self-gt0 : goal.returns-then-self-gt0
returns-then-self-gt0 c =
    let count = c.self.inside.count in
    let all = parts first_prefixed count c.self.inside.bytes.now in
    let long = length-parts first_prefixed count c.self.inside.bytes.now c.self.invariant.0 in
    c.behind_even-self-inside.ensures.left ∙ ap (λ m. drop m all) (c.min-n.ensures ∙ ap (min c.args.n) (sym long)) ∙ drop_min c.args.n all ∙ ap (drop c.args.n) c.self.view_is
