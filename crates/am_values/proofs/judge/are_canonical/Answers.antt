use Rattle.std.proofs.Common.{arith, refl}
use Rattle.am_values.proofs.Judged.{canonical_from, canonical_to, canonical_numbers}
use Rattle.am_values.proofs.judge.are_canonical.Goals as goal

pub returns-in-Err : goal.returns-in-Err
returns-in-Err c = (
  λ e. absurd (cc),
  λ w.
      let v = canonical_numbers c.args.meta.now c.args.raw.now c.args.most w in
      absurd (omega (arith, c.in-Err.ensures.err v.0 v.1, v.2)),
)

pub returns-in-Ok : goal.returns-in-Ok
returns-in-Ok c =
    let list = c.if-not-is_canonical.ensures.0 refl in (
      λ e. let told = c.are_cut.ensures.0 e in canonical_from c.args.meta.now c.args.raw.now c.args.most c.in-Ok.numbers list.0 list.1 c.in-Ok.ensures.ok.0 c.in-Ok.ensures.ok.1 (told.1 refl) told.0,
      λ w. let told = canonical_to c.args.meta.now c.args.raw.now c.args.most c.in-Ok.numbers c.in-Ok.ensures.ok.0 w in c.are_cut.ensures.1 (told.1, λ f. told.0),
    )
