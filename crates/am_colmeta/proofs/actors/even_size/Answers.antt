use Rattle.std.proofs.Common.{◌≡◌, ◌+◌, ◌-◌, length, sym, ap, subst, ◌∙◌, arith, length-append}
use Rattle.std.specs.List.{AllByRecursion}
use Rattle.am_colmeta.specs.Actors.{prefixed}
use Rattle.am_colmeta.specs.Even.{AreEven}
use Rattle.am_colmeta.specs.Reading.{parts, first_prefixed}
use Rattle.am_colmeta.proofs.Counted.{parts-one}
use Rattle.am_colmeta.proofs.ReadBack.{prefixed_back}
use Rattle.am_colmeta.proofs.EvenLaws.{even_from}
use Rattle.am_colmeta.proofs.actors.even_size.Goals as goal

pub returns : goal.returns
returns c =
    let first = c.in-Some.first.now in
    let others = c.in-Some.others.now in
    let read = sym c.in-Some.ensures in
    let stands = (prefixed_back.found c.args.bytes.now first others (λ i. omega (arith, c.type_inv.bytes i)) read).1 in
    let long : length c.args.bytes.now ≡ length (prefixed first) + length others = ap length stands ∙ length-append (prefixed first) others in
    let size : length c.args.bytes.now - length others ≡ length (prefixed first) = omega (arith, long) in
    let all = c.loop-actor.invariant (subst (AllByRecursion (λ a. length a ≡ length first)) (sym c.in_default-next.ensures.end.0) tt) in
    subst (AreEven (length c.args.bytes.now - length others)) (sym (parts-one first_prefixed c.args.count c.args.bytes.now first others (omega arith) read))
    (even_from (length c.args.bytes.now - length others) first (parts first_prefixed (c.args.count - 1) others) size all)
