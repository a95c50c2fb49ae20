use Rattle.std.proofs.Common.{Some, ap, ◌∙◌}
use Rattle.am_colmeta.proofs.ReadBack.{low_number}
use Rattle.am_colmeta.proofs.parts.number_at.Goals as goal

pub returns-then-first-lt128-clause-read : goal.returns-then-first-lt128-clause-read
returns-then-first-lt128-clause-read c =
    ap (λ n. Some (n, c.in-Some.rest.now)) c.from.ensures ∙ low_number c.args.bytes.now c.in-Some.rest.now c.in-Some.first.now c.if-first-lt128.true c.in-Some.ensures.cases.0
