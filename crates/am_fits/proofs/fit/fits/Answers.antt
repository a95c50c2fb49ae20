use Rattle.std.proofs.Common.{ℕ, ◌≡◌, ◌∙◌, List, Some, None, ap, sym, subst}
use Rattle.am_types.specs.Ancestors.{ancestors}
use Rattle.am_types.specs.Totals.{totals_with, limit_of, AreWithinLimits}
use Rattle.am_graph.specs.Clocks.{IsClockOf}
use Rattle.am_graph.specs.Graphs.{IsLeast, having, missing, MatchFault}
use Rattle.am_fits.proofs.Outcomes.{by_clash, by_gap, by_low, by_reference, by_limit, by_none, bad_of, good_of, nothing_missing}
use Rattle.am_fits.proofs.Sums.{set_within}
use Rattle.am_fits.proofs.fit.fits.Goals as goal

pub returns-in-Some : goal.returns-in-Some
returns-in-Some g c C are valid =
    by_clash c.args.graph.now c.args.index.now (g.C.ReadChange.change c.args.change.now) C are valid c.in-Some.hash
    (subst (λ (p : List ℕ × ℕ). IsLeast (Some c.in-Some.hash) (having c.args.graph.now p.0 p.1)) (λ j. ((c.as_slice.ensures.value ∙ c.actor.ensures) j, c.seq.ensures j)) c.in-Some.ensures.graph)

pub unreachable-requires : goal.unreachable-requires
unreachable-requires g c =
    nothing_missing c.args.graph.now c.args.index.now (g.C.ReadChange.change c.args.change.now) c.requires.set c.requires.of_set c.requires.deps c.in-Err-UnknownHead.field-0-0
    (subst (λ ds. missing c.args.graph.now ds ≡ Some c.in-Err-UnknownHead.field-0-0) c.deps.ensures
    (subst (λ f. MatchFault f (λ h. missing c.args.graph.now c.deps.result.now ≡ Some h)) c.in-Err-UnknownHead.field-0-is c.in-Err-UnknownHead.ensures.unknown))

pub returns-then-has_gap : goal.returns-then-has_gap
returns-then-has_gap g c C are valid =
    by_gap c.args.graph.now c.args.index.now (g.C.ReadChange.change c.args.change.now) C are valid
    (subst (λ (p : List ℕ × ℕ). IsLeast None (having c.args.graph.now p.0 p.1)) (λ j. ((c.as_slice.ensures.value ∙ c.actor.ensures) j, c.seq.ensures j)) c.in_default.ensures.graph)
    c.in-Ok.reached (λ D e. subst (λ ds. IsClockOf (ancestors D ds) c.in-Ok.reached) c.deps.ensures (c.in-Ok.ensures.ok D e))
    (sym c.has_gap.ensures ∙ c.if-has_gap.true)

pub returns-in-Some-low_dependency : goal.returns-in-Some-low_dependency
returns-in-Some-low_dependency g c C are valid =
    by_low c.args.graph.now c.args.index.now (g.C.ReadChange.change c.args.change.now) C are valid
    (subst (λ (p : List ℕ × ℕ). IsLeast None (having c.args.graph.now p.0 p.1)) (λ j. ((c.as_slice.ensures.value ∙ c.actor.ensures) j, c.seq.ensures j)) c.in_default.ensures.graph)
    c.in-Ok.reached (λ D e. subst (λ ds. IsClockOf (ancestors D ds) c.in-Ok.reached) c.deps.ensures (c.in-Ok.ensures.ok D e))
    (sym c.has_gap.ensures ∙ c.if-has_gap.false) c.in-Some-low_dependency.dep c.in-Some-low_dependency.ensures

pub returns-in-Some-first_bad : goal.returns-in-Some-first_bad
returns-in-Some-first_bad g c C are valid =
    by_reference c.args.graph.now c.args.index.now (g.C.ReadChange.change c.args.change.now) C are valid
    (subst (λ (p : List ℕ × ℕ). IsLeast None (having c.args.graph.now p.0 p.1)) (λ j. ((c.as_slice.ensures.value ∙ c.actor.ensures) j, c.seq.ensures j)) c.in_default.ensures.graph)
    c.in-Ok.reached (λ D e. subst (λ ds. IsClockOf (ancestors D ds) c.in-Ok.reached) c.deps.ensures (c.in-Ok.ensures.ok D e))
    (sym c.has_gap.ensures ∙ c.if-has_gap.false) c.in_default-low_dependency.ensures c.in-Some-first_bad.place
    (bad_of c.new-ancestors.result c.in-Ok.reached c.args.index.now.facts (g.C.ReadChange.change c.args.change.now) c.in-Some-first_bad.place c.new-ancestors.ensures.clock c.new-ancestors.ensures.facts c.in-Some-first_bad.ensures.found)

pub with-requires-clause-set : goal.with-requires-clause-set
with-requires-clause-set g c = subst AreWithinLimits (sym (c.totals.ensures ∙ ap (λ i. i.totals) c.requires.of_set.index)) (set_within c.requires.set c.requires.valid)

pub returns-in-Some-limit : goal.returns-in-Some-limit
returns-in-Some-limit g c C are valid =
    by_limit c.args.graph.now c.args.index.now (g.C.ReadChange.change c.args.change.now) C are valid
    (subst (λ (p : List ℕ × ℕ). IsLeast None (having c.args.graph.now p.0 p.1)) (λ j. ((c.as_slice.ensures.value ∙ c.actor.ensures) j, c.seq.ensures j)) c.in_default.ensures.graph)
    c.in-Ok.reached (λ D e. subst (λ ds. IsClockOf (ancestors D ds) c.in-Ok.reached) c.deps.ensures (c.in-Ok.ensures.ok D e))
    (sym c.has_gap.ensures ∙ c.if-has_gap.false) c.in_default-low_dependency.ensures
    (good_of c.new-ancestors.result c.in-Ok.reached c.args.index.now.facts (g.C.ReadChange.change c.args.change.now) c.new-ancestors.ensures.clock c.new-ancestors.ensures.facts c.in_default-first_bad.ensures.none) c.in-Some-limit.limit
    (c.in-Some-limit.ensures ∙ ap limit_of (c.with.ensures ∙ ap (λ t. totals_with t (g.C.ReadChange.change c.args.change.now)) c.totals.ensures))

pub returns : goal.returns
returns g c C are valid =
    by_none c.args.graph.now c.args.index.now (g.C.ReadChange.change c.args.change.now) C are valid
    (subst (λ (p : List ℕ × ℕ). IsLeast None (having c.args.graph.now p.0 p.1)) (λ j. ((c.as_slice.ensures.value ∙ c.actor.ensures) j, c.seq.ensures j)) c.in_default.ensures.graph)
    c.in-Ok.reached (λ D e. subst (λ ds. IsClockOf (ancestors D ds) c.in-Ok.reached) c.deps.ensures (c.in-Ok.ensures.ok D e))
    (sym c.has_gap.ensures ∙ c.if-has_gap.false) c.in_default-low_dependency.ensures
    (good_of c.new-ancestors.result c.in-Ok.reached c.args.index.now.facts (g.C.ReadChange.change c.args.change.now) c.new-ancestors.ensures.clock c.new-ancestors.ensures.facts c.in_default-first_bad.ensures.none)
    (c.in_default-limit.ensures ∙ ap limit_of (c.with.ensures ∙ ap (λ t. totals_with t (g.C.ReadChange.change c.args.change.now)) c.totals.ensures))
