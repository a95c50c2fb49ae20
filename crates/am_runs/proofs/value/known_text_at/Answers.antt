use Rattle.std.proofs.Common.{◌≡◌, ◌+◌, ◌-◌, take, drop, arith, ap, subst, ◌∙◌}
use Rattle.std.specs.Str.{IsUtf8}
use Rattle.am_runs.proofs.LiteralTexts.{text_of-front, text_known}
use Rattle.am_runs.proofs.value.known_text_at.Goals as goal

pub known_text-requires : goal.known_text-requires
known_text-requires c =
    let x = c.args.bytes.now in
    let n = c.in-Ok.n in
    let len = c.in-Ok.len in
    let same : n ≡ len + n - len = omega arith in
    subst (λ m. IsUtf8 (take m (drop len x))) same (text_known x n len c.in-Ok.ensures.exact c.requires).1

pub returns-in-Ok-clause-value : goal.returns-in-Ok-clause-value
returns-in-Ok-clause-value c =
    let x = c.args.bytes.now in
    let n = c.in-Ok.n in
    let len = c.in-Ok.len in
    let same : len + n - len ≡ n = omega arith in
    c.known_text.ensures ∙ ap (λ m. take m (drop len x)) same ∙ text_of-front x n len c.in-Ok.ensures.exact (text_known x n len c.in-Ok.ensures.exact c.requires).0
