use Rattle.std.proofs.Common.{◌≡◌, ◌≤◌, ◌∙◌, replicate, ap, arith}
use Rattle.std.proofs.lemmas.Grind.{common_steps}
use Rattle.am_view.proofs.LetterRows.{fewer_alike}
use Rattle.am_view.proofs.scan.insertions.Goals as goal

pub returns-clause-inserts : goal.returns-clause-inserts
returns-clause-inserts c =
    let known = c.known_alike-insert in
    let few : c.min.result ≤ known.result.1 = grind (arith, common_steps) in
    fewer_alike c.min.result known.result.1 known.result.0 c.args.inserts.now few known.ensures.like ∙ ap (λ b. replicate c.min.result b) c.if-not-insert.false

pub returns-clause-lengths : goal.returns-clause-lengths
returns-clause-lengths c =
    let known = c.known_alike-length in
    let few : c.min.result ≤ known.result.1 = grind (arith, common_steps) in
    let none : known.result.0 ≡ 0 = omega arith in
    fewer_alike c.min.result known.result.1 known.result.0 c.args.lengths.now few known.ensures.like ∙ ap (λ n. replicate c.min.result n) none
