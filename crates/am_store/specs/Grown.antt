-- A closed set while a delivery lets it grow.
--     Grown               the entries at rest, and those that have joined since
--     AreGrown ..         graph and index are those of both, which are a valid set, and the totals those of the first
--     IsOwn m             the member m stands beside its own hash
--     AreHeld es held     where changes are held to be compared, they are those of the entries es
--     MayGrow g ix m      graph and index are of a valid set, and m joins it
use Rattle.std.specs.Prelude.{◌≡◌, List, ◌++◌, Option, IfSome, Vec, vec_items}
use Rattle.std.specs.Global.{Global}
use Rattle.am_types.specs.declared.Hash.{Hash}
use Rattle.am_types.specs.declared.Change.{Change}
use Rattle.am_types.specs.declared.Totals.{Totals}
use Rattle.am_types.specs.Members.{Member, changes}
use Rattle.am_types.specs.Totals.{totals_of}
use Rattle.am_types.specs.ValidSets.{Valid, Joins}
use Rattle.am_change.specs.Contents.{hash}
use Rattle.am_graph.specs.declared.Node.{Node}
use Rattle.am_fits.specs.Indexes.{Indexed, AreOf}
use Rattle.am_delivery.specs.Waiting.{members_of}

pub record Grown : Type 0 where
  pub old : List (Hash × Change)
  pub fresh : List (Hash × Change)

pub record AreGrown (old fresh : List (Hash × Change)) (g : List (Hash × Node)) (ix : Indexed) (t : Totals) : Type 0 where
  pub of_set : AreOf (members_of (old ++ fresh)) g ix
  pub valid : Valid (members_of (old ++ fresh))
  pub totals : t ≡ totals_of (changes (members_of old))

abbrev pub IsOwn : Member → Type 0
IsOwn m = m.hash.0 ≡ hash m.change

abbrev pub AreHeld : List (Hash × Change) → Option (Vec (Hash × Change) Global) → Type 0
AreHeld es held = IfSome held (λ v. members_of (vec_items v) ≡ members_of es)

pub record MayGrow (g : List (Hash × Node)) (ix : Indexed) (m : Member) : Type 0 where
  pub set : List Member
  pub of_set : AreOf set g ix
  pub valid : Valid set
  pub joins : Joins set m
