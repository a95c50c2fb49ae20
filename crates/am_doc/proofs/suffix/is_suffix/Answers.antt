use Rattle.std.proofs.Common.{rules, ◌≡◌, ◌<◌, ◌≤◌, ◌^◌, [], length, refl, ap, subst, arith, ◌∙◌}
use Rattle.std.proofs.lemmas.List.{nil_from_length}
use Rattle.am_doc.specs.Spelling.{IsSuffix}
use Rattle.am_doc.specs.Reading.{places_in}
use Rattle.am_doc.proofs.Places.{suffix_right, suffix_none, suffix_again}
use Rattle.am_doc.proofs.suffix.is_suffix.Goals as goal

pub returns-then-is_empty-clause-only : goal.returns-then-is_empty-clause-only
returns-then-is_empty-clause-only c = λ places s.
    let zero : length c.args.bytes.now ≡ 0 = search rules in
    let none : c.args.bytes.now ≡ [] = nil_from_length c.args.bytes.now zero in
    (refl, ap (places_in c.args.heads) none ∙ suffix_none c.args.heads c.args.metas places (subst (λ b. IsSuffix c.args.heads c.args.metas b places) none s))

pub returns-clause-right : goal.returns-clause-right
returns-clause-right c = λ h.
    let some : 0 < c.args.heads = search rules in
    let filled : 0 < length c.args.bytes.now = search rules in
    let w = c.are_numbers.ensures.0 h in
    suffix_right c.args.heads c.args.metas c.args.bytes.now (λ i. omega (arith, c.type_inv.bytes i)) some filled w.0 w.1

pub returns-clause-only : goal.returns-clause-only
returns-clause-only c = λ places s.
    let filled : 0 < length c.args.bytes.now = search rules in
    let small : c.args.metas ≤ 2 ^ 64 = omega (arith, c.ranges.metas.fits) in
    let w = suffix_again c.args.heads c.args.metas c.args.bytes.now places small filled s in
    (c.are_numbers.ensures.1 (w.0, w.1), w.2)
