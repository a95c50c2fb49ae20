use Rattle.std.proofs.Common.{◌∷◌, ◌++◌, [], List, ap, ◌∙◌, subst}
use Rattle.std.specs.List.{AllByRecursion}
use Rattle.am_types.specs.declared.Meta.{Meta}
use Rattle.am_fields.specs.Limits.{IsShortActor}
use Rattle.am_doccols.specs.Metas.{meta_of}
use Rattle.am_rebuild.proofs.Turns.{one_less}
use Rattle.am_rebuild.proofs.copying.metas_in.Goals as goal

pub loop-meta-preserved : goal.loop-meta-preserved
loop-meta-preserved c = (
  (subst (λ (ms : List Meta). AllByRecursion (λ (m : Meta). IsShortActor m.actor) ms) c.in-Some.ensures.next c.loop-meta.invariant.0).1,
  one_less c.loop-meta.copy c.loop-meta.rest c.next.new.self c.args.metas c.push.new.self (meta_of c.in-Some.meta) c.in-Some.ensures.next (c.in_ok-push.ensures.ok ∙ ap (λ m. c.loop-meta.copy ++ m ∷ []) c.in_ok-meta_in.ensures) c.loop-meta.invariant.1,
)
