use Rattle.std.proofs.Common.{◌∙◌, refl, sym, subst, arith, option_map}
use Rattle.std.specs.Prelude.{IsSome}
use Rattle.std.specs.List.{AllByRecursion}
use Rattle.am_delta.specs.Deltas.{stretch}
use Rattle.am_delta.proofs.Steps.{length-stretch}
use Rattle.am_fields.specs.Fields.{key_at as key_there}
use Rattle.am_fields.proofs.Judging.{judged_none, judged_more, judged_next, judged_all}
use Rattle.am_fields.proofs.keys.judge_counters.Goals as goal

pub loop-left-init : goal.loop-left-init
loop-left-init c = (refl, judged_none _ c.args.n c.args.counters.now c.requires)

pub loop-left-preserved : goal.loop-left-preserved
loop-left-preserved c =
    let inv = c.loop-left.invariant in
    let next = c.next_stretch-first in
    let s = stretch next.result.0 next.result.1 next.result.2 in
    let all = subst (λ a. AllByRecursion (λ z. IsSome (key_there a c.args.place z (option_map (λ s. s.now) c.args.name))) s) inv.0 (c.if-not-are_keys.ensures.read.0 refl) in
    (c.are_keys.ensures.same ∙ inv.0, judged_more _ _ _ _ next.result.2 s _ _ inv.1 next.ensures.next (length-stretch _ _ _ next.ensures.some) next.ensures.few all)

pub returns-then-not-are_keys-clause-same : goal.returns-then-not-are_keys-clause-same
returns-then-not-are_keys-clause-same c = c.are_keys.ensures.same ∙ c.loop-left.invariant.0

pub returns-then-not-are_keys-clause-read : goal.returns-then-not-are_keys-clause-read
returns-then-not-are_keys-clause-read c =
    let inv = c.loop-left.invariant in
    let next = c.next_stretch-first in
    let s = stretch next.result.0 next.result.1 next.result.2 in
    (λ e. absurd (cc), λ all. c.if-not-are_keys.ensures.read.1 (subst (λ a. AllByRecursion (λ z. IsSome (key_there a c.args.place z (option_map (λ s. s.now) c.args.name))) s) (sym inv.0) (judged_next _ _ _ _ next.result.2 s _ _ inv.1 next.ensures.next (length-stretch _ _ _ next.ensures.some) next.ensures.few all)))

pub returns-clause-read : goal.returns-clause-read
returns-clause-read c = (λ e. (judged_all _ _ _ _ _ c.loop-left.invariant.1 (omega arith)).0, λ all. refl)

pub returns-clause-behind : goal.returns-clause-behind
returns-clause-behind c = λ e. (judged_all _ _ _ _ _ c.loop-left.invariant.1 (omega arith)).1
