use Rattle.std.proofs.Common.{◌∙◌, sym, ap, subst}
use Rattle.std.specs.Prelude.{IfSome}
use Rattle.am_types.specs.Views.{id_of}
use Rattle.am_types.proofs.Orders.{same_id-true}
use Rattle.am_fits.specs.Past.{Past, IsFound}
use Rattle.am_fits.specs.Tables.{facts_in}
use Rattle.am_fits.specs.Told.{ancestor_fact}
use Rattle.am_fits.proofs.ancestors.Ancestors.find_object.Goals as goal

pub returns-then-same_id-clause-found : goal.returns-then-same_id-clause-found
returns-then-same_id-clause-found c =
    let i = id_of c.args.id in
    let clock = c.self.inside.reached in
    let facts = facts_in c.self.inside.table.now in
    let found = c.in-Some.found in
    let kept = subst (λ o. IfSome o (IsFound clock facts)) c.in-Some.is c.self.invariant.1 in
    let same = same_id-true (id_of found.id) i (sym c.same_id.ensures.same ∙ c.if-same_id.true) in
    kept ∙ ap (λ j. ancestor_fact clock facts j) same ∙ ap (λ (p : Past). ancestor_fact p.clock p.facts i) c.self.view_is

pub returns-then-same_id-2-clause-found : goal.returns-then-same_id-2-clause-found
returns-then-same_id-2-clause-found c =
    let i = id_of c.args.id in
    let clock = c.self.inside.reached in
    let facts = facts_in c.self.inside.table.now in
    let found = c.in-Some-before.found in
    let kept = subst (λ o. IfSome o (IsFound clock facts)) c.in-Some-before.is c.self.invariant.2 in
    let same = same_id-true (id_of found.id) i (sym c.same_id-in-Some-before.ensures.same ∙ c.if-same_id-2.true) in
    kept ∙ ap (λ j. ancestor_fact clock facts j) same ∙ ap (λ (p : Past). ancestor_fact p.clock p.facts i) c.self.view_is
