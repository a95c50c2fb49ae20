use Rattle.std.proofs.Common.{List, sym, ap, ◌∙◌, subst}
use Rattle.am_types.specs.declared.Hash.{Hash}
use Rattle.am_types.specs.declared.Change.{Change}
use Rattle.am_types.specs.ValidSets.{Valid}
use Rattle.am_fits.specs.Indexes.{AreOf}
use Rattle.am_delivery.specs.Waiting.{members_of}
use Rattle.am_rebuild.proofs.Documents.{valid_come}
use Rattle.am_rebuild.proofs.gathered.Gathered.into_rebuilt.Goals as goal

pub entries_owned-requires : goal.entries_owned-requires
entries_owned-requires c = valid_come (members_of c.self.inside.entries.items) c.self.invariant.valid

pub returns-clause-entries : goal.returns-clause-entries
returns-clause-entries c = ap members_of c.in_ok-entries.ensures ∙ c.self.view_is

pub returns-clause-of_set : goal.returns-clause-of_set
returns-clause-of_set c =
    subst (λ (es : List (Hash × Change)). AreOf (members_of es) c.self.inside.graph c.self.inside.index) (sym c.in_ok-entries.ensures) c.self.invariant.of_set

pub returns-clause-valid : goal.returns-clause-valid
returns-clause-valid c = subst (λ (es : List (Hash × Change)). Valid (members_of es)) (sym c.in_ok-entries.ensures) c.self.invariant.valid
