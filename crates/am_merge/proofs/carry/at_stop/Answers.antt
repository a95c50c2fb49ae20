use Rattle.std.proofs.Common.{◌≡◌, ◌∙◌, ◌∷◌, [], sym, drop}
use Rattle.am_places.specs.Numbered.{operation_of}
use Rattle.am_types.specs.Rows as document
use Rattle.am_merge.specs.Carrying.{ids_of, taking}
use Rattle.am_merge.specs.Plans.{Put, Take, carried}
use Rattle.am_merge.specs.Stops.{event_of, event_with}
use Rattle.am_merge.proofs.Carried.{as_event, as_written, one_put}
use Rattle.am_merge.proofs.carry.at_stop.Goals as goal

pub put_row-requires-clause-row : goal.put_row-requires-clause-row
put_row-requires-clause-row c =
    let e : event_of c.args.named.now c.args.stop.now ≡ Put (document.row_of (ids_of c.added_at-added.result.now) (operation_of c.in-Some.x)) = λ i. event_with (c.in-Some.is i) (ids_of (sym c.added_at-added.ensures i)) in
    (one_put c.args.writer.now.0 c.args.writer.now.1 (document.row_of (ids_of c.added_at-added.result.now) (operation_of c.in-Some.x)) c.args.from.now
    (as_event _ _ _ (Put (document.row_of (ids_of c.added_at-added.result.now) (operation_of c.in-Some.x))) _ e c.requires)).0

pub put_row-requires-clause-room : goal.put_row-requires-clause-room
put_row-requires-clause-room c =
    let e : event_of c.args.named.now c.args.stop.now ≡ Put (document.row_of (ids_of c.added_at-added.result.now) (operation_of c.in-Some.x)) = λ i. event_with (c.in-Some.is i) (ids_of (sym c.added_at-added.ensures i)) in
    (one_put c.args.writer.now.0 c.args.writer.now.1 (document.row_of (ids_of c.added_at-added.result.now) (operation_of c.in-Some.x)) c.args.from.now
    (as_event _ _ _ (Put (document.row_of (ids_of c.added_at-added.result.now) (operation_of c.in-Some.x))) _ e c.requires)).1

pub extend_row-requires : goal.extend_row-requires
extend_row-requires c =
    let e : event_of c.args.named.now c.args.stop.now ≡ Take (ids_of c.added_at-added.result.now) = λ i. event_with (c.in-None.is i) (ids_of (sym c.added_at-added.ensures i)) in
    as_event _ _ _ (Take (ids_of c.added_at-added.result.now)) _ e c.requires

pub returns-in_ok-put_row-in-Some-clause-ok : goal.returns-in_ok-put_row-in-Some-clause-ok
returns-in_ok-put_row-in-Some-clause-ok c =
    as_written _ _ _ _ (λ i. carried (event_with (sym c.in-Some.is i) (ids_of (c.added_at-added.ensures i)) ∷ []) c.args.from.now) c.in_ok-put_row-in-Some.ensures.ok

pub returns-in_ok-put_row-in-Some-clause-behind : goal.returns-in_ok-put_row-in-Some-clause-behind
returns-in_ok-put_row-in-Some-clause-behind c = λ i. drop (taking (event_with (sym c.in-Some.is i) (ids_of (c.added_at-added.ensures i)) ∷ [])) c.args.from.now

pub returns-in_ok-extend_row-in-None-clause-ok : goal.returns-in_ok-extend_row-in-None-clause-ok
returns-in_ok-extend_row-in-None-clause-ok c =
    as_written _ _ _ _ (λ i. carried (event_with (sym c.in-None.is i) (ids_of (c.added_at-added.ensures i)) ∷ []) c.args.from.now) c.in_ok-extend_row-in-None.ensures.ok

pub returns-in_ok-extend_row-in-None-clause-behind : goal.returns-in_ok-extend_row-in-None-clause-behind
returns-in_ok-extend_row-in-None-clause-behind c =
    c.in_ok-extend_row-in-None.ensures.behind
    ∙ (λ i. drop (taking (event_with (sym c.in-None.is i) (ids_of (c.added_at-added.ensures i)) ∷ [])) c.args.from.now)
