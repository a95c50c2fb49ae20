use Rattle.std.proofs.Common.{◌≡◌, map}
use Rattle.std.proofs.lemmas.List.Elements.{same_from_all_zip}
use Rattle.am_fits.specs.declared.table.Table.{Table}
use Rattle.am_fits.specs.Words.{words_of}
use Rattle.am_fits.proofs.Places.{cloned_map}
use Rattle.am_fits.proofs.TableLaws.{copied_table, copied_facts}
use Rattle.am_fits.proofs.table.Table.copy.Goals as goal

words : (c : goal.In_ok-runs) → words_of (record { authors = c.in_ok-authors.authors; names = c.in_ok-names.names }) ≡ words_of c.args.self.now.texts
words c = λ j. record {
  authors = c.in_ok-authors.ensures j;
  names = c.in_ok-names.ensures j;
}

kept : (c : goal.In_ok-runs) → c.in_ok-kept.kept.items ≡ c.args.self.now.kept.items
kept c = same_from_all_zip _ c.args.self.now.kept.items c.in_ok-kept.kept.items c.in_ok-kept.ensures.cases.0 (λ p q h. h)

spans : (c : goal.In_ok-runs) → c.in_ok-spans.spans.items ≡ c.args.self.now.spans.items
spans c = same_from_all_zip _ c.args.self.now.spans.items c.in_ok-spans.spans.items c.in_ok-spans.ensures.cases.0 (λ p q h. h)

runs : (c : goal.In_ok-runs) → map (λ v. v.items) c.in_ok-runs.runs.items ≡ map (λ v. v.items) c.args.self.now.runs.items
runs c = cloned_map (λ v. v.items) _ (λ v w r. same_from_all_zip _ v.items w.items r.0 (λ x y h. h)) c.args.self.now.runs.items c.in_ok-runs.runs.items c.in_ok-runs.ensures.cases.0

pub returns-clause-facts : goal.returns-clause-facts
returns-clause-facts c =
    let twin : Table = record { texts = record { authors = c.in_ok-authors.authors; names = c.in_ok-names.names }; kept = c.in_ok-kept.kept; spans = c.in_ok-spans.spans; runs = c.in_ok-runs.runs } in
    copied_facts c.args.self.now twin c.requires (words c) (kept c) (spans c) (runs c)

pub returns-clause-table : goal.returns-clause-table
returns-clause-table c = copied_table c.args.self.now _ c.requires (words c) (kept c) (spans c) (runs c)
