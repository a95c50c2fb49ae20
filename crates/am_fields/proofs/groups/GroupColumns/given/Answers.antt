use Rattle.std.proofs.Common.{refl}
use Rattle.am_fields.proofs.Filled.{OnErr-map, IfOk-map}
use Rattle.am_fields.proofs.groups.GroupColumns.given.Goals as goal

pub returns-clause-given : goal.returns-clause-given
returns-clause-given c = IfOk-map c.opened.result _ _ (λ v told. told refl) c.opened.ensures.given

pub returns-clause-err : goal.returns-clause-err
returns-clause-err c = OnErr-map c.opened.result _ _ (λ none groups spelled given n. none groups spelled (λ f. given) n) c.opened.ensures.err
