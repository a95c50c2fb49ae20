use Rattle.std.proofs.Common.{◌++◌, ◌∷◌, [], sym, ap, ◌∙◌, subst}
use Rattle.am_types.specs.EntryOrder.{IsInOrder}
use Rattle.am_types.specs.Views.{entry_of}
use Rattle.am_json.specs.Held.{Held}
use Rattle.am_json.specs.Stretches.{bare, spread, AreKept}
use Rattle.am_json.proofs.KeptLaws.{kept_more}
use Rattle.am_json.proofs.Spread.{spread-append}
use Rattle.am_json.proofs.lent_maker.LentJsonMaker.push.Goals as goal

pub invariant_of-self : goal.invariant_of-self
invariant_of-self c =
    let e = entry_of c.args.entry in
    let order : IsInOrder (spread c.self.inside.entries ++ e ∷ []) = subst (λ (h : Held). IsInOrder (h.entries ++ e ∷ [])) (sym c.self.view_is) c.requires in
    subst (AreKept c.self.inside.form) (sym c.in-Ok.ensures.ok) (kept_more c.self.inside.form c.self.inside.entries e c.self.invariant order)

pub returns-in-Ok-clause-ok : goal.returns-in-Ok-clause-ok
returns-in-Ok-clause-ok c =
    let e = entry_of c.args.entry in
    let form = ap (λ (h : Held). h.form) c.self.view_is in
    let entries = ap spread c.in-Ok.ensures.ok ∙ (spread-append c.self.inside.entries (bare e ∷ []) ∙ ap (λ (h : Held). h.entries ++ e ∷ []) c.self.view_is) in
    λ i. record { form = form i; entries = entries i; failed = c.if-self.false i }
