use Rattle.std.proofs.Common.{◌≡◌, ◌∙◌, ◌++◌, [], List, Some, map, subst, sym}
use Rattle.std.specs.Prelude.{IfOk}
use Rattle.am_types.specs.Limits.{most_operations}
use Rattle.am_places.specs.Numbered.{operation_of}
use Rattle.am_colmeta.specs.Metadata.{body, listing, metadata}
use Rattle.am_doccols.specs.Columns.{written_rows}
use Rattle.am_merge.specs.Carrying.{CanCarry}
use Rattle.am_merge.specs.Plans.{Event, carried}
use Rattle.am_merge.specs.Stops.{copies, events_of}
use Rattle.am_merge.specs.Walk.{beginning, walked}
use Rattle.am_merge.proofs.rows.walked_text.Goals as goal

pub carried_text-requires : goal.carried_text-requires
carried_text-requires c =
    let A = map operation_of c.args.operations.now in
    let events : events_of c.as_slice.result.now c.as_slice-2.result.now ++ copies c.in_ok-walk.walk.skipped ≡ walked A c.args.rows.now most_operations (beginning A) =
    (λ i. events_of (c.as_slice.ensures.value i) (c.as_slice-2.ensures.value i) ++ copies c.in_ok-walk.walk.skipped) ∙ c.in_ok-walk.ensures c.requires.tables in
    subst (λ (es : List Event). CanCarry c.args.actors.now (Some []) es c.args.rows.now) (sym events) c.requires.can

pub returns-clause-metadata : goal.returns-clause-metadata
returns-clause-metadata c =
    let A = map operation_of c.args.operations.now in
    let events : events_of c.as_slice.result.now c.as_slice-2.result.now ++ copies c.in_ok-walk.walk.skipped ≡ walked A c.args.rows.now most_operations (beginning A) =
    (λ i. events_of (c.as_slice.ensures.value i) (c.as_slice-2.ensures.value i) ++ copies c.in_ok-walk.walk.skipped) ∙ c.in_ok-walk.ensures c.requires.tables in
    subst (λ (es : List Event). IfOk c.carried_text.result (λ text. text.0 ≡ metadata (listing (written_rows c.args.actors.now (carried es c.args.rows.now))))) events c.carried_text.ensures.metadata

pub returns-clause-body : goal.returns-clause-body
returns-clause-body c =
    let A = map operation_of c.args.operations.now in
    let events : events_of c.as_slice.result.now c.as_slice-2.result.now ++ copies c.in_ok-walk.walk.skipped ≡ walked A c.args.rows.now most_operations (beginning A) =
    (λ i. events_of (c.as_slice.ensures.value i) (c.as_slice-2.ensures.value i) ++ copies c.in_ok-walk.walk.skipped) ∙ c.in_ok-walk.ensures c.requires.tables in
    subst (λ (es : List Event). IfOk c.carried_text.result (λ text. text.1 ≡ body (written_rows c.args.actors.now (carried es c.args.rows.now)))) events c.carried_text.ensures.body
