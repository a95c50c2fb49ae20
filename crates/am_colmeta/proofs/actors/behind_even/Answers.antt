use Rattle.std.proofs.Common.{◌-◌, sym, ap, subst, ◌∙◌, IsSome, arith}
use Rattle.am_colmeta.specs.Even.{AreEven}
use Rattle.am_colmeta.specs.Reading.{parts, behind, first_prefixed}
use Rattle.am_colmeta.proofs.EvenLaws.{even_behind}
use Rattle.am_colmeta.proofs.actors.behind_even.Goals as goal

pub overflow_mul-n : goal.overflow_mul-n
overflow_mul-n c =
    let at = even_behind c.args.size c.args.n c.args.count c.args.bytes.now c.requires.some c.requires.few (λ i. omega (arith, c.type_inv.bytes i)) c.requires.there c.requires.even in
    omega (arith, at.room, c.slice_known.ensures)

pub split_at-requires : goal.split_at-requires
split_at-requires c =
    let at = even_behind c.args.size c.args.n c.args.count c.args.bytes.now c.requires.some c.requires.few (λ i. omega (arith, c.type_inv.bytes i)) c.requires.there c.requires.even in
    at.room

pub returns-clause-left : goal.returns-clause-left
returns-clause-left c =
    let at = even_behind c.args.size c.args.n c.args.count c.args.bytes.now c.requires.some c.requires.few (λ i. omega (arith, c.type_inv.bytes i)) c.requires.there c.requires.even in
    ap (parts first_prefixed (c.args.count - c.args.n)) c.split_at.ensures.back ∙ at.left

pub returns-clause-there : goal.returns-clause-there
returns-clause-there c =
    let at = even_behind c.args.size c.args.n c.args.count c.args.bytes.now c.requires.some c.requires.few (λ i. omega (arith, c.type_inv.bytes i)) c.requires.there c.requires.even in
    subst (λ l. IsSome (behind first_prefixed (c.args.count - c.args.n) l)) (sym c.split_at.ensures.back) at.there

pub returns-clause-even : goal.returns-clause-even
returns-clause-even c =
    let at = even_behind c.args.size c.args.n c.args.count c.args.bytes.now c.requires.some c.requires.few (λ i. omega (arith, c.type_inv.bytes i)) c.requires.there c.requires.even in
    subst (λ l. AreEven c.args.size (parts first_prefixed (c.args.count - c.args.n) l)) (sym c.split_at.ensures.back) at.even
