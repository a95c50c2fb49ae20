use Rattle.std.proofs.Common.{sym, subst, map, ◌∙◌}
use Rattle.std.specs.Option.{option_map}
use Rattle.std.proofs.lemmas.List.{length-map}
use Rattle.am_runs.proofs.Spelled.{one_unsigned}
use Rattle.am_values.specs.Columns.{metadata}
use Rattle.am_values.specs.Cutting.{AreCut}
use Rattle.am_values.proofs.Cuts.{length-values, joins_values, cut_spelled}
use Rattle.am_values.proofs.cursor.ValueCursor.spelled.Goals as goal

pub spelled-numbers-requires : goal.spelled-numbers-requires
spelled-numbers-requires c =
    let j = c.requires.1 in
    (map (option_map metadata) c.requires.0, j.numbers_are, length-map c.requires.0 (option_map metadata) ∙ c.requires.2)

pub invariant_of-result : goal.invariant_of-result
invariant_of-result c =
    let j = c.requires.1 in
    let same = one_unsigned _ _ _ j.numbers_are c.spelled-numbers.ensures.spelled in
    let cut : AreCut c.spelled-numbers.result c.args.raw.now = subst (λ l. AreCut l c.args.raw.now) same (subst (AreCut (map (option_map metadata) c.requires.0)) (sym j.raw_are) (cut_spelled c.requires.0 j.good)) in
    cut

pub returns-clause-spelled : goal.returns-clause-spelled
returns-clause-spelled c =
    let j = c.requires.1 in
    let same = one_unsigned _ _ _ j.numbers_are c.spelled-numbers.ensures.spelled in
    let cut : AreCut c.spelled-numbers.result c.args.raw.now = subst (λ l. AreCut l c.args.raw.now) same (subst (AreCut (map (option_map metadata) c.requires.0)) (sym j.raw_are) (cut_spelled c.requires.0 j.good)) in
    joins_values c.args.meta.now c.spelled-numbers.result c.args.raw.now c.spelled-numbers.ensures.spelled cut

pub returns-clause-count : goal.returns-clause-count
returns-clause-count c = length-values c.spelled-numbers.result c.args.raw.now ∙ c.spelled-numbers.ensures.count
