use Rattle.std.proofs.Common.{◌++◌, sym, ap, ◌∙◌}
use Rattle.am_leb.proofs.Laws.{uleb-one}
use Rattle.am_leb.proofs.unsigned.push_u.Goals as goal

pub returns-then-n-lt128-clause-ok : goal.returns-then-n-lt128-clause-ok
returns-then-n-lt128-clause-ok c = c.in_ok-push.ensures.items ∙ ap (λ l. c.args.out.now.items ++ l) (sym (uleb-one c.args.n c.if-n-lt128.true))
