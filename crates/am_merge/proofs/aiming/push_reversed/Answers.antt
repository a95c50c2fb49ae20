use Rattle.std.proofs.Common.{◌∙◌, ◌++◌, ◌∷◌, [], ap, append_assoc, reverse, sym}
use Rattle.std.proofs.lemmas.List.{reverse-append}
use Rattle.am_merge.proofs.aiming.push_reversed.Goals as goal

pub rest-preserved : goal.rest-preserved
rest-preserved c =
    let x = c.in-Some.aim in
    let left = c.pop.new.self.items in
    ap (λ l. l ++ reverse left) c.in_ok-push.ensures.items
    ∙ append_assoc c.rest.aims.items (x ∷ []) (reverse left)
    ∙ ap (λ l. c.rest.aims.items ++ l) (sym (reverse-append left (x ∷ [])))
    ∙ ap (λ l. c.rest.aims.items ++ reverse l) (sym c.in-Some.ensures.items)
    ∙ c.rest.invariant
