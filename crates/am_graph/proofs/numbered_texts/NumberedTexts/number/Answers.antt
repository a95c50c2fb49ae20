use Rattle.std.proofs.Common.{ℕ, ◌≡◌, ◌∙◌, ◌++◌, ◌∷◌, List, [], length, map, Some, None, sym, ap, subst, arith}
use Rattle.std.proofs.lemmas.Cmp.{nat_list_eq_equiv}
use Rattle.std.proofs.lemmas.List.{map-append}
use Rattle.am_graph.specs.Numbers.{AreNumbers}
use Rattle.am_graph.specs.Reaches.{number}
use Rattle.am_graph.proofs.Naming.{number_last, length-names}
use Rattle.am_graph.proofs.Numbering.{numbers_pushed}
use Rattle.am_graph.proofs.numbered_texts.NumberedTexts.number.Goals as goal

-- the texts before
abbrev old : (c : goal.After-push_reserved) → List (List ℕ)
old c = map (λ v. v.items) c.self.inside.texts.items

new : (c : goal.After-push_reserved) → number (old c) c.args.text.now ≡ None
new c = ap (λ ts. number ts c.args.text.now) c.self.view_is ∙ sym c.in_default-sought.ensures

-- the texts with the new one
texts : (c : goal.After-push_reserved) → map (λ v. v.items) c.push_reserved.new.self.items ≡ old c ++ c.args.text.now ∷ []
texts c =
    ap (map (λ v. v.items)) (c.push_reserved.ensures.items ∙ ap (λ vs. vs ++ c.in_ok-kept.kept ∷ []) c.in_ok-reserve.ensures.items)
    ∙ map-append (λ v. v.items) c.self.inside.texts.items (c.in_ok-kept.kept ∷ [])
    ∙ ap (λ t. old c ++ t ∷ []) c.in_ok-kept.ensures.items

size : (c : goal.After-push_reserved) → c.len-number.result ≡ length (old c)
size c =
    let first : c.len-number.result ≡ length c.reserve.new.self.items = omega (arith, c.len-number.ensures, c.reserve.new.self.ok.0) in
    first ∙ ap length c.in_ok-reserve.ensures.items ∙ sym (length-names (λ v. v.items) c.self.inside.texts.items)

pub invariant_of-self-2 : goal.invariant_of-self-2
invariant_of-self-2 c =
    subst (λ ts. AreNumbers ts c.note.new.short c.note.new.long) (sym (texts c))
    (numbers_pushed (old c) c.self.inside.short c.note.new.short c.self.inside.long c.note.new.long c.args.text.now c.len-number.result c.self.invariant (new c) (size c) c.in_ok-note.ensures.ok)

pub returns-clause-number : goal.returns-clause-number
returns-clause-number c = ap (λ ts. number ts c.args.text.now) (texts c) ∙ number_last (old c) c.args.text.now (new c) (nat_list_eq_equiv.refl c.args.text.now) ∙ ap Some (sym (size c))
