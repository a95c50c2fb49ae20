use Rattle.std.proofs.Common.{◌≡◌, ◌∙◌, [], Some, map, subst, sym}
use Rattle.std.specs.Prelude.{IfOk}
use Rattle.std.proofs.lemmas.List.{nil_from_length}
use Rattle.am_types.specs.Limits.{most_operations}
use Rattle.am_places.specs.Numbered.{operation_of}
use Rattle.am_colmeta.specs.Metadata.{body, listing, metadata}
use Rattle.am_doccols.specs.Columns.{written_rows}
use Rattle.am_merge.specs.Carrying.{CanCarry}
use Rattle.am_merge.specs.Plans.{carried}
use Rattle.am_merge.specs.Walk.{beginning, walked}
use Rattle.am_merge.proofs.rows.text_with.Goals as goal

pub fresh_text-requires-clause-can : goal.fresh_text-requires-clause-can
fresh_text-requires-clause-can c =
    let A = map operation_of c.args.operations.now in
    let none : c.args.rows.now ≡ [] = nil_from_length c.args.rows.now (sym c.left.ensures ∙ c.if-left-eq0.true) in
    subst (λ rs. CanCarry c.args.actors.now (Some []) (walked A rs most_operations (beginning A)) rs) none c.requires.can

pub walked_text-requires : goal.walked_text-requires
walked_text-requires c = record {
  tables = record {
    named = c.in_ok-tables.ensures.named;
    hanging_is = c.in_ok-tables.ensures.hanging_is;
    ascends = c.requires.ascends;
    distinct = c.requires.distinct;
  };
  few_added = c.requires.few_added;
  few = c.requires.few;
  can = c.requires.can;
}

pub returns-then-left-eq0-clause-metadata : goal.returns-then-left-eq0-clause-metadata
returns-then-left-eq0-clause-metadata c =
    let A = map operation_of c.args.operations.now in
    let none : c.args.rows.now ≡ [] = nil_from_length c.args.rows.now (sym c.left.ensures ∙ c.if-left-eq0.true) in
    subst (λ rs. IfOk c.fresh_text.result (λ text. text.0 ≡ metadata (listing (written_rows c.args.actors.now (carried (walked A rs most_operations (beginning A)) rs))))) (sym none) c.fresh_text.ensures.metadata

pub returns-then-left-eq0-clause-body : goal.returns-then-left-eq0-clause-body
returns-then-left-eq0-clause-body c =
    let A = map operation_of c.args.operations.now in
    let none : c.args.rows.now ≡ [] = nil_from_length c.args.rows.now (sym c.left.ensures ∙ c.if-left-eq0.true) in
    subst (λ rs. IfOk c.fresh_text.result (λ text. text.1 ≡ body (written_rows c.args.actors.now (carried (walked A rs most_operations (beginning A)) rs)))) (sym none) c.fresh_text.ensures.body

pub returns-clause-metadata : goal.returns-clause-metadata
returns-clause-metadata c = c.walked_text.ensures.metadata

pub returns-clause-body : goal.returns-clause-body
returns-clause-body c = c.walked_text.ensures.body
