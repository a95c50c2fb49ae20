use Rattle.std.proofs.Common.{rules, ◌≡◌, ◌++◌, List, [], All, Some, Bor, map, option_map, vec_items, sym, ap, subst, ◌∙◌, refl, arith}
use Rattle.std.proofs.lemmas.List.{append-nil}
use Rattle.std.proofs.lemmas.Bool.{MatchBool-at_true, MatchBool-at_false}
use Rattle.am_types.specs.declared.Change.{Change}
use Rattle.am_types.specs.declared.Hash.{Hash}
use Rattle.am_types.specs.Members.{Member, hashes, member}
use Rattle.am_types.specs.Deliver.{Sets, Waits, TakesOne, IsSettled, settle}
use Rattle.am_laws.proofs.SettleLaws.{settle_taken, settle_idle, fewer_wait}
use Rattle.am_delivery.specs.Tracking.{Tracks}
use Rattle.am_delivery.specs.Views.{tracker}
use Rattle.am_delivery.specs.Waiting.{waiting_of, remaining, taken_out, all_gone}
use Rattle.am_delivery.proofs.Leaving.{remaining_nil}
use Rattle.am_delivery.proofs.Steps.{takes_kept}
use Rattle.am_delivery.proofs.admitting.settle_all.Goals as goal

pub loop-gone-smaller : goal.loop-gone-smaller
loop-gone-smaller g c =
    let s : Sets = record { closed = g.S.Closed.members c.loop-gone.closed; waiting = remaining (all_gone c.loop-gone.gone) (waiting_of c.args.waiting.now); rejected = vec_items c.loop-gone.rejected } in
    let t : Sets = record { closed = g.S.Closed.members c.admit_next.new.closed; waiting = remaining (all_gone c.admit_next.new.gone) (waiting_of c.args.waiting.now); rejected = vec_items c.admit_next.new.rejected } in
    let took = MatchBool-at_true (TakesOne s t) ((t ≡ s) × IsSettled s) c.if-branch.true c.in_ok-admit_next.ensures.one in
    let less = fewer_wait s t took in
    omega arith

pub loop-gone-preserved : goal.loop-gone-preserved
loop-gone-preserved g c =
    let s : Sets = record { closed = g.S.Closed.members c.loop-gone.closed; waiting = remaining (all_gone c.loop-gone.gone) (waiting_of c.args.waiting.now); rejected = vec_items c.loop-gone.rejected } in
    let t : Sets = record { closed = g.S.Closed.members c.admit_next.new.closed; waiting = remaining (all_gone c.admit_next.new.gone) (waiting_of c.args.waiting.now); rejected = vec_items c.admit_next.new.rejected } in
    let took = MatchBool-at_true (TakesOne s t) ((t ≡ s) × IsSettled s) c.if-branch.true c.in_ok-admit_next.ensures.one in
    record {
      tracks = c.in_ok-admit_next.ensures.tracks;
      kept = takes_kept s t took c.loop-gone.invariant.kept;
      joined = c.in_ok-admit_next.ensures.joined (g.S.Closed.members c.args.closed.now) c.loop-gone.invariant.joined;
      named = c.in_ok-admit_next.ensures.named c.loop-gone.invariant.named;
      settles = sym (settle_taken s t took) ∙ c.loop-gone.invariant.settles;
      lent = c.in_ok-admit_next.ensures.lent c.loop-gone.invariant.lent;
      base = c.in_ok-admit_next.ensures.base ∙ c.loop-gone.invariant.base;
    }

pub loop-gone-init : goal.loop-gone-init
loop-gone-init g c =
    let C = g.S.Closed.members c.args.closed.now in
    let W = waiting_of c.args.waiting.now in
    let first : [] ≡ vec_items c.new.result = search rules in
    let second : [] ≡ vec_items c.new-2.result = search rules in
    let all : W ≡ remaining (vec_items c.new.result ++ vec_items c.new-2.result) W = sym (remaining_nil W) ∙ (λ i. remaining (first i ++ second i) W) in
    record {
      tracks = subst (λ V. Tracks C V (tracker c.args.pending.now)) all c.requires.tracks;
      kept = record { valid = c.requires.valid; waits = subst (All (Waits C)) all c.requires.waits };
      joined = sym (append-nil C) ∙ ap (λ hs. C ++ taken_out hs W) first;
      named = subst (λ (hs : List Hash). hashes (taken_out hs W) ≡ hs) first refl;
      settles = ap (λ V. settle (record { closed = C; waiting = V; rejected = vec_items c.args.rejected.now })) (sym all);
      lent = (λ i. map (λ (x : Bor Change). Some x.now) (c.requires.none i)) ∙ (λ i. map (λ (h : Hash). option_map (λ (m : Member). m.change) (member W h)) (first i));
      base = refl;
    }

pub admit_next-requires-clause-valid : goal.admit_next-requires-clause-valid
admit_next-requires-clause-valid g c = c.loop-gone.invariant.kept.valid

pub admit_next-requires-clause-waits : goal.admit_next-requires-clause-waits
admit_next-requires-clause-waits g c = c.loop-gone.invariant.kept.waits

pub returns-clause-base : goal.returns-clause-base
returns-clause-base g c = c.in_ok-admit_next.ensures.base ∙ c.loop-gone.invariant.base

pub returns-clause-settles : goal.returns-clause-settles
returns-clause-settles g c =
    let s : Sets = record { closed = g.S.Closed.members c.loop-gone.closed; waiting = remaining (all_gone c.loop-gone.gone) (waiting_of c.args.waiting.now); rejected = vec_items c.loop-gone.rejected } in
    let t : Sets = record { closed = g.S.Closed.members c.admit_next.new.closed; waiting = remaining (all_gone c.admit_next.new.gone) (waiting_of c.args.waiting.now); rejected = vec_items c.admit_next.new.rejected } in
    let rest = MatchBool-at_false (TakesOne s t) ((t ≡ s) × IsSettled s) c.if-branch.false c.in_ok-admit_next.ensures.one in
    rest.0 ∙ sym (settle_idle s rest.1) ∙ c.loop-gone.invariant.settles

pub returns-clause-tracks : goal.returns-clause-tracks
returns-clause-tracks g c = c.in_ok-admit_next.ensures.tracks

pub returns-clause-joined : goal.returns-clause-joined
returns-clause-joined g c = c.in_ok-admit_next.ensures.joined (g.S.Closed.members c.args.closed.now) c.loop-gone.invariant.joined

pub returns-clause-named : goal.returns-clause-named
returns-clause-named g c = c.in_ok-admit_next.ensures.named c.loop-gone.invariant.named

pub returns-clause-lent : goal.returns-clause-lent
returns-clause-lent g c = c.in_ok-admit_next.ensures.lent c.loop-gone.invariant.lent
