use Rattle.std.proofs.Common.{rules, vec_items, [], ◌∷◌, ◌++◌, refl, sym, ap, Some, option_map, ◌∙◌, subst}
use Rattle.std.specs.Box.{box_value}
use Rattle.am_delivery.specs.Tracking.{Tracks}
use Rattle.am_delivery.proofs.Tracking.{empty_is_settled}
use Rattle.am_delivery.specs.Views.{tracker}
use Rattle.am_delivery.specs.Waiting.{waiting_of, remaining, all_gone}
use Rattle.am_delivery.proofs.Steps.{never_none, turn, tracks_taken, enough, tracks_released, takes_fitting, takes_unfitting, joins, is_fine}
use Rattle.am_delivery.proofs.Leaving.{gone_first, gone_second}
use Rattle.am_delivery.proofs.TakenOut.{joins_next, named_next}
use Rattle.am_delivery.proofs.AtRest.{lent_more}
use Rattle.am_delivery.proofs.admitting.admit_next.Goals as goal

pub returns-in_default-clause-one : goal.returns-in_default-clause-one
returns-in_default-clause-one g c = (refl, empty_is_settled (g.S.Closed.members c.args.closed.now) (remaining (all_gone c.args.gone.now) (waiting_of c.args.waiting.now)) (tracker c.args.pending.now) c.requires.tracks c.in_default.ensures.none)

pub returns-in_default-get-clause-tracks : goal.returns-in_default-get-clause-tracks
returns-in_default-get-clause-tracks g c = absurd (never_none (g.S.Closed.members c.args.closed.now) c.args.waiting.now c.len-count.ensures.ordered (all_gone c.args.gone.now) (tracker c.args.pending.now) (tracker c.pop.new.self) c.requires.tracks c.requires.waits c.in-Some.hash c.in-Some.ensures.first c.in-Some.ensures.least c.in-Some.ensures.counts c.in-Some.ensures.names _ c.in_default-get.ensures.value refl)

pub returns-in_default-get-clause-one : goal.returns-in_default-get-clause-one
returns-in_default-get-clause-one g c = absurd (never_none (g.S.Closed.members c.args.closed.now) c.args.waiting.now c.len-count.ensures.ordered (all_gone c.args.gone.now) (tracker c.args.pending.now) (tracker c.pop.new.self) c.requires.tracks c.requires.waits c.in-Some.hash c.in-Some.ensures.first c.in-Some.ensures.least c.in-Some.ensures.counts c.in-Some.ensures.names _ c.in_default-get.ensures.value refl)

pub judge-requires-clause-deps : goal.judge-requires-clause-deps
judge-requires-clause-deps g c = (turn (g.S.Closed.members c.args.closed.now) c.args.waiting.now c.len-count.ensures.ordered (all_gone c.args.gone.now) (tracker c.args.pending.now) (tracker c.pop.new.self) c.requires.tracks c.requires.waits c.in-Some.hash c.in-Some.ensures.first c.in-Some.ensures.least c.in-Some.ensures.counts c.in-Some.ensures.names c.in-Some-get.held.now c.deref-change.result.now c.in-Some-get.ensures.value c.deref-change.ensures).deps

pub judge-requires-clause-fine : goal.judge-requires-clause-fine
judge-requires-clause-fine g c = is_fine (g.S.Closed.members c.args.closed.now) c.args.waiting.now c.len-count.ensures.ordered (all_gone c.args.gone.now) (tracker c.args.pending.now) (tracker c.pop.new.self) c.requires.tracks c.requires.waits c.in-Some.hash c.in-Some.ensures.first c.in-Some.ensures.least c.in-Some.ensures.counts c.in-Some.ensures.names c.deref-change.result.now (turn (g.S.Closed.members c.args.closed.now) c.args.waiting.now c.len-count.ensures.ordered (all_gone c.args.gone.now) (tracker c.args.pending.now) (tracker c.pop.new.self) c.requires.tracks c.requires.waits c.in-Some.hash c.in-Some.ensures.first c.in-Some.ensures.least c.in-Some.ensures.counts c.in-Some.ensures.names c.in-Some-get.held.now c.deref-change.result.now c.in-Some-get.ensures.value c.deref-change.ensures)

pub join-requires-clause-joins : goal.join-requires-clause-joins
join-requires-clause-joins g c = joins (g.S.Closed.members c.args.closed.now) c.args.waiting.now c.len-count.ensures.ordered (all_gone c.args.gone.now) (tracker c.args.pending.now) (tracker c.pop.new.self) c.requires.tracks c.requires.waits c.in-Some.hash c.in-Some.ensures.first c.in-Some.ensures.least c.in-Some.ensures.counts c.in-Some.ensures.names c.deref-change.result.now (turn (g.S.Closed.members c.args.closed.now) c.args.waiting.now c.len-count.ensures.ordered (all_gone c.args.gone.now) (tracker c.args.pending.now) (tracker c.pop.new.self) c.requires.tracks c.requires.waits c.in-Some.hash c.in-Some.ensures.first c.in-Some.ensures.least c.in-Some.ensures.counts c.in-Some.ensures.names c.in-Some-get.held.now c.deref-change.result.now c.in-Some-get.ensures.value c.deref-change.ensures) (sym c.in-None.ensures ∙ c.in_ok-verdict.ensures)

pub release-requires : goal.release-requires
release-requires g c = enough (g.S.Closed.members c.args.closed.now) c.args.waiting.now c.len-count.ensures.ordered (all_gone c.args.gone.now) (tracker c.args.pending.now) (tracker c.pop.new.self) c.requires.tracks c.requires.waits c.in-Some.hash c.in-Some.ensures.first c.in-Some.ensures.least c.in-Some.ensures.counts c.in-Some.ensures.names c.deref-change.result.now (turn (g.S.Closed.members c.args.closed.now) c.args.waiting.now c.len-count.ensures.ordered (all_gone c.args.gone.now) (tracker c.args.pending.now) (tracker c.pop.new.self) c.requires.tracks c.requires.waits c.in-Some.hash c.in-Some.ensures.first c.in-Some.ensures.least c.in-Some.ensures.counts c.in-Some.ensures.names c.in-Some-get.held.now c.deref-change.result.now c.in-Some-get.ensures.value c.deref-change.ensures)

pub returns-in_ok-release-in-None-clause-tracks : goal.returns-in_ok-release-in-None-clause-tracks
returns-in_ok-release-in-None-clause-tracks g c =
    let t = tracks_released (g.S.Closed.members c.args.closed.now) c.args.waiting.now c.len-count.ensures.ordered (all_gone c.args.gone.now) (tracker c.args.pending.now) (tracker c.pop.new.self) c.requires.tracks c.requires.waits c.in-Some.hash c.in-Some.ensures.first c.in-Some.ensures.least c.in-Some.ensures.counts c.in-Some.ensures.names c.deref-change.result.now (turn (g.S.Closed.members c.args.closed.now) c.args.waiting.now c.len-count.ensures.ordered (all_gone c.args.gone.now) (tracker c.args.pending.now) (tracker c.pop.new.self) c.requires.tracks c.requires.waits c.in-Some.hash c.in-Some.ensures.first c.in-Some.ensures.least c.in-Some.ensures.counts c.in-Some.ensures.names c.in-Some-get.held.now c.deref-change.result.now c.in-Some-get.ensures.value c.deref-change.ensures) (tracker c.release.new.self) c.in_ok-release-in-None.ensures in
    subst (λ C. Tracks C (remaining (vec_items c.push.new.self ++ vec_items c.args.gone.now.turned_away) (waiting_of c.args.waiting.now)) (tracker c.release.new.self)) (sym c.in_ok-join-in-None.ensures.joined)
    (subst (λ W. Tracks (g.S.Closed.members c.args.closed.now ++ record { hash = c.in-Some.hash; change = c.deref-change.result.now } ∷ []) W (tracker c.release.new.self)) (sym (gone_first c.args.waiting.now (vec_items c.args.gone.now.joined) (vec_items c.args.gone.now.turned_away) (vec_items c.push.new.self) c.in-Some.hash (search rules))) t)

pub returns-in_ok-release-in-None-clause-one : goal.returns-in_ok-release-in-None-clause-one
returns-in_ok-release-in-None-clause-one g c =
    takes_fitting (g.S.Closed.members c.args.closed.now) c.args.waiting.now c.len-count.ensures.ordered (all_gone c.args.gone.now) (tracker c.args.pending.now) (tracker c.pop.new.self) c.requires.tracks c.requires.waits c.in-Some.hash c.in-Some.ensures.first c.in-Some.ensures.least c.in-Some.ensures.counts c.in-Some.ensures.names c.deref-change.result.now (turn (g.S.Closed.members c.args.closed.now) c.args.waiting.now c.len-count.ensures.ordered (all_gone c.args.gone.now) (tracker c.args.pending.now) (tracker c.pop.new.self) c.requires.tracks c.requires.waits c.in-Some.hash c.in-Some.ensures.first c.in-Some.ensures.least c.in-Some.ensures.counts c.in-Some.ensures.names c.in-Some-get.held.now c.deref-change.result.now c.in-Some-get.ensures.value c.deref-change.ensures) _ (g.S.Closed.members c.join.new.self) (remaining (vec_items c.push.new.self ++ vec_items c.args.gone.now.turned_away) (waiting_of c.args.waiting.now)) (sym c.in-None.ensures ∙ c.in_ok-verdict.ensures) c.in_ok-join-in-None.ensures.joined (gone_first c.args.waiting.now (vec_items c.args.gone.now.joined) (vec_items c.args.gone.now.turned_away) (vec_items c.push.new.self) c.in-Some.hash (search rules))

pub returns-in_ok-push-in-Some-why_not-2-clause-tracks : goal.returns-in_ok-push-in-Some-why_not-2-clause-tracks
returns-in_ok-push-in-Some-why_not-2-clause-tracks g c =
    subst (λ W. Tracks (g.S.Closed.members c.args.closed.now) W (tracker c.pop.new.self)) (sym (gone_second c.args.waiting.now (vec_items c.args.gone.now.joined) (vec_items c.args.gone.now.turned_away) (vec_items c.push-in-Some-why_not.new.self) c.in-Some.hash (search rules))) (tracks_taken (g.S.Closed.members c.args.closed.now) c.args.waiting.now c.len-count.ensures.ordered (all_gone c.args.gone.now) (tracker c.args.pending.now) (tracker c.pop.new.self) c.requires.tracks c.requires.waits c.in-Some.hash c.in-Some.ensures.first c.in-Some.ensures.least c.in-Some.ensures.counts c.in-Some.ensures.names c.deref-change.result.now (turn (g.S.Closed.members c.args.closed.now) c.args.waiting.now c.len-count.ensures.ordered (all_gone c.args.gone.now) (tracker c.args.pending.now) (tracker c.pop.new.self) c.requires.tracks c.requires.waits c.in-Some.hash c.in-Some.ensures.first c.in-Some.ensures.least c.in-Some.ensures.counts c.in-Some.ensures.names c.in-Some-get.held.now c.deref-change.result.now c.in-Some-get.ensures.value c.deref-change.ensures))

pub returns-in_ok-push-in-Some-why_not-2-clause-one : goal.returns-in_ok-push-in-Some-why_not-2-clause-one
returns-in_ok-push-in-Some-why_not-2-clause-one g c =
    takes_unfitting (g.S.Closed.members c.args.closed.now) c.args.waiting.now c.len-count.ensures.ordered (all_gone c.args.gone.now) (tracker c.args.pending.now) (tracker c.pop.new.self) c.requires.tracks c.requires.waits c.in-Some.hash c.in-Some.ensures.first c.in-Some.ensures.least c.in-Some.ensures.counts c.in-Some.ensures.names c.deref-change.result.now (turn (g.S.Closed.members c.args.closed.now) c.args.waiting.now c.len-count.ensures.ordered (all_gone c.args.gone.now) (tracker c.args.pending.now) (tracker c.pop.new.self) c.requires.tracks c.requires.waits c.in-Some.hash c.in-Some.ensures.first c.in-Some.ensures.least c.in-Some.ensures.counts c.in-Some.ensures.names c.in-Some-get.held.now c.deref-change.result.now c.in-Some-get.ensures.value c.deref-change.ensures) c.in_ok-verdict.verdict c.in-Some-why_not.why (vec_items c.args.rejected.now) (vec_items c.push-in-Some-why_not-2.new.self) (remaining (vec_items c.args.gone.now.joined ++ vec_items c.push-in-Some-why_not.new.self) (waiting_of c.args.waiting.now)) c.in_ok-verdict.ensures c.in-Some-why_not.ensures (gone_second c.args.waiting.now (vec_items c.args.gone.now.joined) (vec_items c.args.gone.now.turned_away) (vec_items c.push-in-Some-why_not.new.self) c.in-Some.hash (search rules)) (search rules)

pub returns-in_ok-release-in-None-clause-joined : goal.returns-in_ok-release-in-None-clause-joined
returns-in_ok-release-in-None-clause-joined g c = λ C e.
    joins_next c.args.waiting.now c.len-count.ensures.ordered (vec_items c.args.gone.now.joined) (vec_items c.args.gone.now.turned_away) (record { hash = c.in-Some.hash; change = c.deref-change.result.now })
    (turn (g.S.Closed.members c.args.closed.now) c.args.waiting.now c.len-count.ensures.ordered (all_gone c.args.gone.now) (tracker c.args.pending.now) (tracker c.pop.new.self) c.requires.tracks c.requires.waits c.in-Some.hash c.in-Some.ensures.first c.in-Some.ensures.least c.in-Some.ensures.counts c.in-Some.ensures.names c.in-Some-get.held.now c.deref-change.result.now c.in-Some-get.ensures.value c.deref-change.ensures).waits
    C (g.S.Closed.members c.args.closed.now) (g.S.Closed.members c.join.new.self) e c.in_ok-join-in-None.ensures.joined (vec_items c.push.new.self) (search rules)

pub returns-in_ok-release-in-None-clause-named : goal.returns-in_ok-release-in-None-clause-named
returns-in_ok-release-in-None-clause-named g c =
    named_next c.args.waiting.now c.len-count.ensures.ordered (vec_items c.args.gone.now.joined) (vec_items c.args.gone.now.turned_away) (record { hash = c.in-Some.hash; change = c.deref-change.result.now })
    (turn (g.S.Closed.members c.args.closed.now) c.args.waiting.now c.len-count.ensures.ordered (all_gone c.args.gone.now) (tracker c.args.pending.now) (tracker c.pop.new.self) c.requires.tracks c.requires.waits c.in-Some.hash c.in-Some.ensures.first c.in-Some.ensures.least c.in-Some.ensures.counts c.in-Some.ensures.names c.in-Some-get.held.now c.deref-change.result.now c.in-Some-get.ensures.value c.deref-change.ensures).waits
    (vec_items c.push.new.self) (search rules)

pub returns-in_ok-release-in-None-clause-lent : goal.returns-in_ok-release-in-None-clause-lent
returns-in_ok-release-in-None-clause-lent g c =
    lent_more c.args.waiting.now c.args.lent.now.items c.push-in-None.new.self.items (vec_items c.args.gone.now.joined) (vec_items c.push.new.self) c.in-Some.hash c.deref-change.result (search rules) (search rules) (ap Some c.deref-change.ensures ∙ ap (option_map box_value) c.in-Some-get.ensures.value)
