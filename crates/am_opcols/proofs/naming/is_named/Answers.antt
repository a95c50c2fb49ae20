use Rattle.std.proofs.Common.{refl, sym, subst, ⊎_elim, List}
use Rattle.std.specs.List.{flat_map}
use Rattle.am_types.specs.declared.Op.{Op}
use Rattle.am_fields.specs.Actors.{IsListed}
use Rattle.am_opcols.specs.Others.{actors_of}
use Rattle.am_opcols.proofs.Named.{there_left, there_right}
use Rattle.am_opcols.proofs.ListedLaws.{there_either}
use Rattle.am_opcols.proofs.naming.is_named.Goals as goal

pub returns-then-op_names : goal.returns-then-op_names
returns-then-op_names c = (
  λ e.
      let here = there_left (actors_of c.in-Some.op.now) (flat_map actors_of c.in-Some.more.now) c.args.actor.now (c.op_names.ensures.0 c.if-op_names.true) in
      c.loop-op.invariant.0 (subst (λ (os : List Op). IsListed (flat_map actors_of os) c.args.actor.now) (sym c.in-Some.ensures.cases.0) here),
  λ h. refl,
)

pub loop-op-preserved : goal.loop-op-preserved
loop-op-preserved c = (
  λ h.
      let later = there_right (actors_of c.in-Some.op.now) (flat_map actors_of c.in-Some.more.now) c.args.actor.now h in
      c.loop-op.invariant.0 (subst (λ (os : List Op). IsListed (flat_map actors_of os) c.args.actor.now) (sym c.in-Some.ensures.cases.0) later),
  λ h. ⊎_elim
      (λ t. absurd (let yes = c.op_names.ensures.1 t in let no = c.if-op_names.false in cc))
      (λ m. m)
      (there_either (actors_of c.in-Some.op.now) (flat_map actors_of c.in-Some.more.now) c.args.actor.now
      (subst (λ (os : List Op). IsListed (flat_map actors_of os) c.args.actor.now) c.in-Some.ensures.cases.0 (c.loop-op.invariant.1 h))),
)
