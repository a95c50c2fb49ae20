use Rattle.std.proofs.Common.{◌≡◌, length, get_or, inl, inr, arith, sym, ap, ◌∙◌}
use Rattle.std.proofs.lemmas.Bool.{cases_lt}
use Rattle.std.proofs.lemmas.List.{get_or_default}
use Rattle.am_types.specs.Same.{same_id}
use Rattle.am_types.specs.Views.{id_of}
use Rattle.am_types.proofs.Orders.{same_id-true}
use Rattle.am_rebuild.specs.declared.mention.Named.{Named}
use Rattle.am_rebuild.proofs.Runs.{run_above}
use Rattle.am_rebuild.proofs.author.first_run.Goals as goal

pub returns-then-not-same_id-clause-above : goal.returns-then-not-same_id-clause-above
returns-then-not-same_id-clause-above c =
    run_above c.args.rest.now c.requires.sorted c.loop-i.i c.loop-i.invariant (λ d l.
    let a = get_or_default c.args.rest.now c.loop-i.i d c.index-rest-i.result l in
    let b = get_or_default c.args.rest.now 0 d c.index-rest-0.result c.requires.some in
    (λ j. same_id (id_of (a j).id) (id_of (b j).id)) ∙ sym c.same_id.ensures.same ∙ c.if-not-same_id.true)

pub loop-i-preserved : goal.loop-i-preserved
loop-i-preserved c = λ k d l. elim (cases_lt k c.loop-i.i) [
  | inl h ↦ c.loop-i.invariant k d h
  | inr h ↦
      let e : k ≡ c.loop-i.i = omega arith in
      let a = get_or_default c.args.rest.now c.loop-i.i d c.index-rest-i.result c.loop-i-test.true in
      let b = get_or_default c.args.rest.now 0 d c.index-rest-0.result c.requires.some in
      ap (λ m. id_of (get_or c.args.rest.now m d).id) e ∙ ap (λ (x : Named). id_of x.id) a
      ∙ same_id-true _ _ (sym c.same_id.ensures.same ∙ c.if-not-same_id.false) ∙ sym (ap (λ (x : Named). id_of x.id) b)
]

pub returns-clause-above : goal.returns-clause-above
returns-clause-above c = run_above c.args.rest.now c.requires.sorted (length c.args.rest.now) (λ k d l. c.loop-i.invariant k d (omega arith)) (λ d l. absurd (omega arith))
