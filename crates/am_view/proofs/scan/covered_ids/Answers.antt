use Rattle.std.proofs.Common.{◌≡◌, ◌∙◌, true, refl, sym}
use Rattle.am_types.specs.Views.{id_of}
use Rattle.am_view.specs.Seen.{seen_by}
use Rattle.am_view.proofs.LetterRows.{all_covered, first_rising}
use Rattle.am_view.proofs.scan.covered_ids.Goals as goal

pub returns-then-is_everything-clause-covered : goal.returns-then-is_everything-clause-covered
returns-then-is_everything-clause-covered c = all_covered (λ i. seen_by c.args.clock.now i ≡ true) _ (c.if-is_everything.ensures refl)

pub returns-clause-covered : goal.returns-clause-covered
returns-clause-covered c =
    let next = c.next_rising_within-count in
    first_rising (λ i. seen_by c.args.clock.now i ≡ true) c.covered.result next.result.1 (id_of next.result.0) c.args.ids.now _ (sym c.columns.ensures.columns ∙ next.ensures.next) c.covered.ensures.few c.covered.ensures.covered
