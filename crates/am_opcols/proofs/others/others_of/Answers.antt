use Rattle.std.proofs.Common.{Bor, ℕ, List, map, ap, sym, subst, ◌∙◌}
use Rattle.std.specs.List.{AllByRecursion}
use Rattle.std.proofs.lemmas.Result.{IfOk-weaker}
use Rattle.am_fields.specs.Limits.{IsShortActor}
use Rattle.am_opcols.proofs.ShortActors.{short_others}
use Rattle.am_opcols.proofs.others.others_of.Goals as goal

pub copies_of-requires : goal.copies_of-requires
copies_of-requires g c =
    subst (AllByRecursion IsShortActor) (sym (ap (map (λ (a : Bor (List ℕ)). a.now)) c.deref.ensures.value ∙ c.in_ok-named.ensures))
    (short_others c.args.author.now (map g.O.ReadOp.op c.args.ops.now) c.requires)

pub returns : goal.returns
returns g c =
    IfOk-weaker c.copies_of.result _ _ (λ known e. e ∙ ap (map (λ (a : Bor (List ℕ)). a.now)) c.deref.ensures.value ∙ c.in_ok-named.ensures) c.copies_of.ensures
