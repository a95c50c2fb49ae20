use Rattle.std.proofs.Common.{arith, sym, subst, map, ◌≡◌}
use Rattle.std.specs.Option.{option_map}
use Rattle.std.proofs.lemmas.List.{length-map}
use Rattle.am_runs.proofs.Spelled.{one_unsigned}
use Rattle.am_values.specs.declared.nulls.Nulls.TheVariants.{AreRefused}
use Rattle.am_values.specs.Columns.{metadata, NoneNull}
use Rattle.am_values.specs.Cutting.{AreCut}
use Rattle.am_values.proofs.Alike.{none_null-values, none_null-numbers}
use Rattle.am_values.proofs.Cuts.{length-values, joins_values, cut_spelled}
use Rattle.am_values.proofs.cursor.ValueCursor.opened.Goals as goal

pub returns-then-are_cut-clause-ok : goal.returns-then-are_cut-clause-ok
returns-then-are_cut-clause-ok c =
    let told = c.are_cut.ensures.0 c.if-are_cut.true in
    let cut = subst (λ l. AreCut l c.args.raw.now) c.again.ensures told.0 in (
      joins_values c.args.meta.now c.in-Ok.numbers c.args.raw.now c.in-Ok.ensures.ok.0 cut,
      λ f. none_null-values c.in-Ok.numbers c.args.raw.now (subst NoneNull c.again.ensures (told.1 f)),
      omega (arith, c.in-Ok.ensures.ok.1, length-values c.in-Ok.numbers c.args.raw.now),
    )

pub returns-in-Err-clause-err : goal.returns-in-Err-clause-err
returns-in-Err-clause-err c = λ values j n. omega (arith, c.in-Err.ensures.err (map (option_map metadata) values) j.numbers_are, length-map values (option_map metadata))

pub returns-else-are_cut-clause-err : goal.returns-else-are_cut-clause-err
returns-else-are_cut-clause-err c = λ values j n.
    let same = one_unsigned _ _ _ j.numbers_are c.in-Ok.ensures.ok.0 in
    let cut : AreCut c.in-Ok.numbers c.args.raw.now = subst (λ l. AreCut l c.args.raw.now) same (subst (AreCut (map (option_map metadata) values)) (sym j.raw_are) (cut_spelled values j.good)) in
    let null : c.args.nulls ≡ AreRefused → NoneNull c.in-Ok.numbers = λ f. subst NoneNull same (none_null-numbers values (n f)) in
    let yes = c.are_cut.ensures.1 (subst (λ l. AreCut l c.args.raw.now) (sym c.again.ensures) cut, λ f. subst NoneNull (sym c.again.ensures) (null f)) in
    let no = c.if-are_cut.false in
    absurd (cc)
