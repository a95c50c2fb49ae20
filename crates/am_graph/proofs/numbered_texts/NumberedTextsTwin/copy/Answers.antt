use Rattle.std.proofs.Common.{◌≡◌, ◌∙◌, map, sym, subst}
use Rattle.std.proofs.lemmas.List.Elements.{same_from_all_zip}
use Rattle.am_graph.specs.Numbers.{AreNumbers}
use Rattle.am_graph.proofs.Clocking.{names_cloned}
use Rattle.am_graph.proofs.Numbering.{same_maps}
use Rattle.am_graph.specs.Reaches.{number}
use Rattle.am_graph.proofs.TextMaps.{alike}
use Rattle.am_graph.proofs.numbered_texts.NumberedTextsTwin.copy.Goals as goal

texts : (c : goal.In_ok-long) → map (λ v. v.items) c.in_ok-texts.texts.items ≡ map (λ v. v.items) c.self.inside.texts.items
texts c = names_cloned (λ v. v.items) _ (λ v w r. same_from_all_zip _ v.items w.items r.0 (λ x y h. h)) c.self.inside.texts.items c.in_ok-texts.texts.items c.in_ok-texts.ensures.cases.0

short : (c : goal.In_ok-long) → c.in_ok-short.short.entries ≡ c.self.inside.short.entries
short c = same_from_all_zip _ c.self.inside.short.entries c.in_ok-short.short.entries c.in_ok-short.ensures.cases (λ x y h i. ((h.0.0 i, h.0.1 i), h.1 i))

pub invariant_of-result : goal.invariant_of-result
invariant_of-result c =
    subst (λ ts. AreNumbers ts c.in_ok-short.short c.in_ok-long.long) (sym (texts c))
    (record {
      told = same_maps c.self.inside.short c.in_ok-short.short c.self.inside.long c.in_ok-long.long (number (map (λ v. v.items) c.self.inside.texts.items)) (short c)
          (alike _ (λ p q r. (same_from_all_zip _ p.0.items q.0.items r.0.0 (λ x y h. h), r.1)) c.self.inside.long.entries c.in_ok-long.long.entries c.in_ok-long.ensures.cases)
          c.self.invariant.told;
      once = c.self.invariant.once;
    })

pub returns : goal.returns
returns c = texts c ∙ c.self.view_is
