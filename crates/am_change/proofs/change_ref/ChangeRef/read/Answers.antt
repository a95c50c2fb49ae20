use Rattle.std.proofs.Common.{◌≡◌, refl, arith, sym, subst}
use Rattle.am_types.specs.Fine.{Fine}
use Rattle.am_opcols.proofs.CanonicalLaws.{length-preds}
use Rattle.am_change.specs.Building.{front_of, change_with}
use Rattle.am_change.proofs.Parsing.{no_front, no_change, same_change, ops_within}
use Rattle.am_change.proofs.InPlace.{own_contents, canonical_as}
use Rattle.am_change.proofs.change_ref.ChangeRef.read.Goals as goal

pub returns-in_default-clause-judged : goal.returns-in_default-clause-judged
returns-in_default-clause-judged c = no_front c.args.contents.now c.length_known.ensures (λ f rest is e. c.in_default.ensures.only f rest is e)

pub returns-in_default-behind_front-clause-judged : goal.returns-in_default-behind_front-clause-judged
returns-in_default-behind_front-clause-judged c =
    no_change c.args.contents.now (front_of c.in-Some.front) c.in-Some.rest.now c.length_known.ensures c.in-Some.ensures.some.0 c.in-Some.ensures.some.1 (λ h. absurd (cc (c.if-compressed.ensures.some.1 h)))
    (λ d fine s e r b. c.in_default-behind_front.ensures.only d fine s e r)

pub are_fine-requires : goal.are_fine-requires
are_fine-requires c =
    let behind = c.in-Some-behind_front.behind in
    let within = (c.in-Some-behind_front.ensures.spelled).within in
    record {
      hashes = c.in-Some.ensures.some.2;
      message = c.in-Some-behind_front.ensures.message;
      some = c.in-Some-behind_front.ensures.some;
      short = c.in-Some-behind_front.ensures.few;
      few = within.few;
      few_preds = omega (arith, within.few_preds, length-preds behind.ops);
    }

pub returns-then-not-are_fine-clause-judged : goal.returns-then-not-are_fine-clause-judged
returns-then-not-are_fine-clause-judged c =
    let behind = c.in-Some-behind_front.behind in
    no_change c.args.contents.now (front_of c.in-Some.front) c.in-Some.rest.now c.length_known.ensures c.in-Some.ensures.some.0 c.in-Some.ensures.some.1 (λ h. absurd (cc (c.if-compressed.ensures.some.1 h)))
    (λ d fine s e r b.
    let got = c.in-Some-behind_front.ensures.only d fine s e r in
    let same : change_with (front_of c.in-Some.front) behind.ops behind.extra.now ≡ d = same_change (front_of c.in-Some.front) behind.ops behind.extra.now d e got.0 got.1 in
    absurd (cc (c.if-not-are_fine.ensures.1 (subst Fine (sym same) fine))))

pub returns-then-not-is_canonical-clause-judged : goal.returns-then-not-is_canonical-clause-judged
returns-then-not-is_canonical-clause-judged c =
    let behind = c.in-Some-behind_front.behind in
    no_change c.args.contents.now (front_of c.in-Some.front) c.in-Some.rest.now c.length_known.ensures c.in-Some.ensures.some.0 c.in-Some.ensures.some.1 (λ h. absurd (cc (c.if-compressed.ensures.some.1 h)))
    (λ d fine s e r b.
    let got = c.in-Some-behind_front.ensures.only d fine s e r in
    absurd (cc (c.if-not-is_canonical.ensures.1 (canonical_as (front_of c.in-Some.front) behind.columns behind.ops d e got.0 got.2))))

pub invariant_of-result : goal.invariant_of-result
invariant_of-result c =
    let behind = c.in-Some-behind_front.behind in
    (c.in-Some.ensures.some.2, c.in-Some-behind_front.ensures.message, c.in-Some-behind_front.ensures.some, c.in-Some-behind_front.ensures.few, ops_within behind.ops (c.in-Some-behind_front.ensures.spelled).within)

pub returns-clause-judged : goal.returns-clause-judged
returns-clause-judged c =
    let behind = c.in-Some-behind_front.behind in
    let canonical = c.if-not-is_canonical.ensures.0 refl in
    (c.if-not-are_fine.ensures.0 refl, own_contents c.args.contents.now c.in-Some.rest.now (front_of c.in-Some.front) behind.columns behind.ops behind.extra.now c.in-Some.ensures.some.1 c.in-Some-behind_front.ensures.joined c.in-Some-behind_front.ensures.listed canonical.0 canonical.1)
