use Rattle.std.proofs.Common.{◌∷◌, ◌++◌, [], sym, ap, ◌∙◌}
use Rattle.std.proofs.lemmas.List.{map-append}
use Rattle.am_types.specs.declared.Hash.{Hash}
use Rattle.am_types.specs.declared.Change.{Change}
use Rattle.am_rebuild.proofs.document.rebuild.Goals as goal

pub loop-change-preserved : goal.loop-change-preserved
loop-change-preserved c =
    c.in_ok-push.ensures.ok ∙ ap (λ l. l ++ c.in-Some.change ∷ []) c.loop-change.invariant ∙ sym (map-append (λ (e : Hash × Change). e.1) c.loop-change.yielded ((c.in-Some.field-0-0, c.in-Some.change) ∷ []))
