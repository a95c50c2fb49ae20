use Rattle.std.proofs.Common.{◌≡◌, ◌<◌, Err, take, length, arith, rules, sym, ◌∙◌, ◌++◌, ◌∷◌, []}
use Rattle.am_leb.specs.declared.LebFault.TheVariants.{Short, Long, Large}
use Rattle.am_frame.proofs.Parts.{cut_parts}
use Rattle.am_frame.proofs.HeadLaws.{is_high, short_number, short_rest, no_number}
use Rattle.am_frame.proofs.cut.sized_at.Goals as goal

pub returns-in-Err-Short-clause-short : goal.returns-in-Err-Short-clause-short
returns-in-Err-Short-clause-short c = λ e.
    let bytes = c.args.bytes.now in
    let is : c.read_u.result ≡ Err Short = search rules in
    let all = c.read_u.ensures.short.0 is in
    let n = c.completed.ensures bytes (is_high bytes all.1 (λ i. omega (arith, c.type_inv.bytes i))) all.0 in
    short_number bytes n.0 n.1 ((c.one_spelling.ensures n.0 (bytes ++ 1 ∷ [])).0 n.2)

pub returns-in-Err-Long-clause-bad : goal.returns-in-Err-Long-clause-bad
returns-in-Err-Long-clause-bad c = λ e.
    let is : c.read_u.result ≡ Err Long = search rules in
    no_number c.args.bytes.now Long (sym c.read_u.ensures.exact ∙ is) (λ e. cc)

pub returns-in-Err-Large-clause-bad : goal.returns-in-Err-Large-clause-bad
returns-in-Err-Large-clause-bad c = λ e.
    let is : c.read_u.result ≡ Err Large = search rules in
    no_number c.args.bytes.now Large (sym c.read_u.ensures.exact ∙ is) (λ e. cc)

pub returns-then-count-body-clause-short : goal.returns-then-count-body-clause-short
returns-then-count-body-clause-short c = λ e.
    let bytes = c.args.bytes.now in
    let found = c.in-Ok.ensures.found in
    let spelled = (c.one_spelling.ensures c.in-Ok.found.0 (take c.in-Ok.found.1 bytes)).0 found.2 in
    let few : length c.split_at.result.1.now < c.in-Ok.found.0 = grind arith in
    short_rest bytes c.split_at.result.1.now c.in-Ok.found.0 c.in-Ok.found.1 spelled found.0 c.split_at.ensures.back few

pub returns-clause-found : goal.returns-clause-found
returns-clause-found c =
    let found = c.in-Ok.ensures.found in
    let spelled = (c.one_spelling.ensures c.in-Ok.found.0 (take c.in-Ok.found.1 c.args.bytes.now)).0 found.2 in
    let parts = cut_parts c.args.bytes.now c.split_at.result.1.now c.split_at-2.result.0.now c.split_at-2.result.1.now c.in-Ok.found.0 c.in-Ok.found.1 spelled found.1 c.split_at.ensures.back c.split_at-2.ensures.front c.split_at-2.ensures.back c.split_at-2.ensures.front_len in
    (parts.0, parts.1, omega (arith, found.0, c.split_at-2.ensures.front_len))
