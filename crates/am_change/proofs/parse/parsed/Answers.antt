use Rattle.std.proofs.Common.{◌≡◌, ◌∷◌, All, refl, sym, subst, ap, ◌∙◌, arith}
use Rattle.std.specs.List.{AllByRecursion}
use Rattle.std.proofs.lemmas.List.Elements.{All-from_recursion, recursion_from_All}
use Rattle.am_types.specs.Values.{Good}
use Rattle.am_types.specs.declared.Op.{Op}
use Rattle.am_types.specs.declared.Change.{Change}
use Rattle.am_types.specs.Fine.{Fine, FineOp}
use Rattle.am_opcols.specs.Columns.{SpellsOps}
use Rattle.am_opcols.specs.Others.{others}
use Rattle.am_opcols.specs.Writing.{written_columns}
use Rattle.am_opcols.proofs.CanonicalLaws.{length-preds}
use Rattle.am_change.specs.Contents.{contents}
use Rattle.am_change.specs.Building.{front_of, change_with}
use Rattle.am_change.proofs.Parsing.{no_front, no_change, same_change, ops_within, good_values}
use Rattle.am_change.proofs.InPlace.{own_contents, canonical_as}
use Rattle.am_change.proofs.parse.parsed.Goals as goal

pub returns-in_default : goal.returns-in_default
returns-in_default c = no_front c.args.bytes.now c.length_known.ensures (λ f rest is e. c.in_default.ensures.only f rest is e)

pub returns-in_default-behind_front : goal.returns-in_default-behind_front
returns-in_default-behind_front c =
    no_change c.args.bytes.now (front_of c.in-Some.front) c.in-Some.rest.now c.length_known.ensures c.in-Some.ensures.some.0 c.in-Some.ensures.some.1 (λ h. absurd (cc (c.if-compressed.ensures.some.1 h)))
    (λ d fine s e r b. c.in_default-behind_front.ensures.only d fine s e r)

pub is_fine_beside-requires : goal.is_fine_beside-requires
is_fine_beside-requires c =
    let within = (c.in-Some-behind_front.ensures.spelled).within in
    record {
      hashes = c.in-Some.ensures.some.2;
      message = c.in-Some-behind_front.ensures.message;
      some = c.in-Some-behind_front.ensures.some;
      short = c.in-Some-behind_front.ensures.few;
      few = omega (arith, within.few, c.left-count.ensures);
    }

pub returns-then-not-is_fine_beside : goal.returns-then-not-is_fine_beside
returns-then-not-is_fine_beside c =
    let behind = c.in-Some-behind_front.behind in
    no_change c.args.bytes.now (front_of c.in-Some.front) c.in-Some.rest.now c.length_known.ensures c.in-Some.ensures.some.0 c.in-Some.ensures.some.1 (λ h. absurd (cc (c.if-compressed.ensures.some.1 h)))
    (λ d fine s e r b.
    let got = c.in-Some-behind_front.ensures.only d fine s e r in
    let same : change_with (front_of c.in-Some.front) behind.ops behind.extra.now ≡ d = same_change (front_of c.in-Some.front) behind.ops behind.extra.now d e got.0 got.1 in
    absurd (cc (c.if-not-is_fine_beside.ensures.only behind.ops (sym c.left-count.ensures) (subst Fine (sym same) fine))))

pub change_in-requires : goal.change_in-requires
change_in-requires c =
    let behind = c.in-Some-behind_front.behind in
    record {
      hashes = c.in-Some.ensures.some.2;
      message = c.in-Some-behind_front.ensures.message;
      some = c.in-Some-behind_front.ensures.some;
      few = c.in-Some-behind_front.ensures.few;
      within = ops_within behind.ops (c.in-Some-behind_front.ensures.spelled).within;
    }

pub are_fine_with_values-requires : goal.are_fine_with_values-requires
are_fine_with_values-requires c =
    let behind = c.in-Some-behind_front.behind in
    let whole : c.in-Ok.change ≡ change_with (front_of c.in-Some.front) behind.ops behind.extra.now = c.in-Ok.ensures in
    let read : c.as_slice.result.now ≡ behind.ops = c.as_slice.ensures ∙ ap (λ (x : Change). x.ops) whole in
    subst (AllByRecursion (λ (op : Op). Good op.value)) (sym read) (good_values behind.ops ((c.in-Some-behind_front.ensures.spelled).within.values))

pub returns-then-not-are_fine_with_values : goal.returns-then-not-are_fine_with_values
returns-then-not-are_fine_with_values c =
    let behind = c.in-Some-behind_front.behind in
    let whole : c.in-Ok.change ≡ change_with (front_of c.in-Some.front) behind.ops behind.extra.now = c.in-Ok.ensures in
    no_change c.args.bytes.now (front_of c.in-Some.front) c.in-Some.rest.now c.length_known.ensures c.in-Some.ensures.some.0 c.in-Some.ensures.some.1 (λ h. absurd (cc (c.if-compressed.ensures.some.1 h)))
    (λ d fine s e r b.
    let got = c.in-Some-behind_front.ensures.only d fine s e r in
    let own : c.as_slice.result.now ≡ d.ops = c.as_slice.ensures ∙ ap (λ (x : Change). x.ops) whole ∙ got.0 in
    absurd (cc (c.if-not-are_fine_with_values.ensures.1 (recursion_from_All FineOp c.as_slice.result.now (subst (All FineOp) (sym own) fine.ops)))))

pub is_canonical_of-requires : goal.is_canonical_of-requires
is_canonical_of-requires c =
    let behind = c.in-Some-behind_front.behind in
    let whole : c.in-Ok.change ≡ change_with (front_of c.in-Some.front) behind.ops behind.extra.now = c.in-Ok.ensures in
    let same : c.as_slice-2.result.now ≡ behind.ops = c.as_slice-2.ensures ∙ ap (λ (x : Change). x.ops) whole in
    record {
      spelled = subst (SpellsOps ((front_of c.in-Some.front).actor ∷ (front_of c.in-Some.front).others) behind.columns) (sym same) c.in-Some-behind_front.ensures.spelled;
      ascend = c.in-Some-behind_front.ensures.ascend;
      known = c.in-Some-behind_front.ensures.are_known;
    }

pub returns-then-not-canonical : goal.returns-then-not-canonical
returns-then-not-canonical c =
    let behind = c.in-Some-behind_front.behind in
    let whole : c.in-Ok.change ≡ change_with (front_of c.in-Some.front) behind.ops behind.extra.now = c.in-Ok.ensures in
    let own : c.as_slice-2.result.now ≡ behind.ops = c.as_slice-2.ensures ∙ ap (λ (x : Change). x.ops) whole in
    no_change c.args.bytes.now (front_of c.in-Some.front) c.in-Some.rest.now c.length_known.ensures c.in-Some.ensures.some.0 c.in-Some.ensures.some.1 (λ h. absurd (cc (c.if-compressed.ensures.some.1 h)))
    (λ d fine s e r b.
    let got = c.in-Some-behind_front.ensures.only d fine s e r in
    absurd (let no = c.if-not-canonical.true in cc (c.in-Ok-is_canonical_of.ensures.1 (canonical_as (front_of c.in-Some.front) behind.columns c.as_slice-2.result.now d e (own ∙ got.0) got.2))))

pub returns : goal.returns
returns c =
    let behind = c.in-Some-behind_front.behind in
    let whole : c.in-Ok.change ≡ change_with (front_of c.in-Some.front) behind.ops behind.extra.now = c.in-Ok.ensures in
    let f = front_of c.in-Some.front in
    let own : c.as_slice-2.result.now ≡ behind.ops = c.as_slice-2.ensures ∙ ap (λ (x : Change). x.ops) whole in
    let canonical = c.in-Ok-is_canonical_of.ensures.0 (let yes = c.if-not-canonical.false in cc) in
    let told = own_contents c.args.bytes.now c.in-Some.rest.now f behind.columns behind.ops behind.extra.now c.in-Some.ensures.some.1 c.in-Some-behind_front.ensures.joined c.in-Some-behind_front.ensures.listed
    (canonical.0 ∙ ap (others f.actor) own) (canonical.1 ∙ ap (written_columns f.actor) own) in
    let within = (c.in-Some-behind_front.ensures.spelled).within in
    let read : c.as_slice.result.now ≡ behind.ops = c.as_slice.ensures ∙ ap (λ (x : Change). x.ops) whole in
    let each : All FineOp behind.ops = subst (All FineOp) read (All-from_recursion FineOp c.as_slice.result.now (c.if-not-are_fine_with_values.ensures.0 refl)) in
    let fine = c.if-not-is_fine_beside.ensures.fine refl behind.ops (sym c.left-count.ensures) (omega (arith, within.few_preds, length-preds behind.ops)) each in
    (subst Fine (sym whole) fine, subst (λ (x : Change). c.args.bytes.now ≡ contents x) (sym whole) told)
