use Rattle.std.proofs.Common.{◌++◌, ◌∷◌, [], sym, ap, ◌∙◌}
use Rattle.am_leb.proofs.SignedLaws.{leb-one}
use Rattle.am_leb.proofs.signed.push_magnitude.Goals as goal

pub returns-then-magnitude-lt64-clause-ok : goal.returns-then-magnitude-lt64-clause-ok
returns-then-magnitude-lt64-clause-ok c =
    c.in_ok-push.ensures.items
    ∙ ap (λ b. c.args.out.now.items ++ b ∷ []) c.bits_of.ensures.value
    ∙ ap (λ l. c.args.out.now.items ++ l) (sym (leb-one c.args.negative c.args.magnitude c.if-magnitude-lt64.true))
