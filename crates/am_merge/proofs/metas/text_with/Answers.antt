use Rattle.std.proofs.Common.{ℕ, List, Option, Bor, map, option_map, sym, subst, ◌∙◌}
use Rattle.std.specs.List.{AllByRecursion}
use Rattle.am_types.specs.declared.Change.{Change}
use Rattle.am_colmeta.specs.Metadata.{metadata, listing, body}
use Rattle.am_doccols.specs.Conditions.{IsMetaFor}
use Rattle.am_merge.specs.ChangeRows.{change_rows}
use Rattle.am_merge.proofs.RowsText.{text_after, OnOk-both}
use Rattle.am_merge.proofs.Weaving.{text_of}
use Rattle.am_merge.proofs.metas.text_with.Goals as goal

abbrev all_lent : List (Option (Bor Change)) → List (Option Change)
all_lent ts = map (λ t. option_map (λ (c : Bor Change). c.now) t) ts

pub push_turns-all-requires : goal.push_turns-all-requires
push_turns-all-requires c = record {
  empty = c.in_ok-writer.ensures.metas;
  fine = c.requires.fine;
  all = subst (λ (actors : List (List ℕ)). AllByRecursion (IsMetaFor actors) (change_rows c.args.places.now (all_lent c.args.turns.now) c.args.rest.now)) (sym c.in_ok-writer.ensures.actors) c.requires.all;
  few = c.requires.few;
  few_deps = c.requires.few_deps;
}

pub returns-clause-metadata : goal.returns-clause-metadata
returns-clause-metadata c =
    text_after c.push_turns-all.result c.finish.result c.and.result _ _ c.and.ensures
    (OnOk-both c.push_turns-all.result _ _ _
    (λ actors rows text h. text_of c.push_turns-all.new.writer.1 (change_rows c.args.places.now (all_lent c.args.turns.now) c.args.rest.now) rows (λ x. metadata (listing x)) text.0 c.push_turns-all.new.writer.0 c.args.actors.now (actors ∙ c.in_ok-writer.ensures.actors) h)
    c.push_turns-all.ensures.actors c.push_turns-all.ensures.rows)
    c.finish.ensures.metadata

pub returns-clause-body : goal.returns-clause-body
returns-clause-body c =
    text_after c.push_turns-all.result c.finish.result c.and.result _ _ c.and.ensures
    (OnOk-both c.push_turns-all.result _ _ _
    (λ actors rows text h. text_of c.push_turns-all.new.writer.1 (change_rows c.args.places.now (all_lent c.args.turns.now) c.args.rest.now) rows body text.1 c.push_turns-all.new.writer.0 c.args.actors.now (actors ∙ c.in_ok-writer.ensures.actors) h)
    c.push_turns-all.ensures.actors c.push_turns-all.ensures.rows)
    c.finish.ensures.body
