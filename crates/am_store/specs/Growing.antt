-- What a store has of its closed set, while it grows and at rest.
--     IsGrown g           graph and index are those of the entries at rest and of those that have joined since, and the contents
--                         and the changes that are held are those of the first
--     ArePartsOf es p     the parts of a store are those of the entries es
use Rattle.std.specs.Prelude.{◌≡◌, List}
use Rattle.am_types.specs.declared.Hash.{Hash}
use Rattle.am_types.specs.declared.Change.{Change}
use Rattle.am_fits.specs.Indexes.{AreOf}
use Rattle.am_delivery.specs.Waiting.{members_of}
use Rattle.am_store.specs.Contents.{IsContents}
use Rattle.am_store.specs.Grown.{AreGrown, AreHeld}
use Rattle.am_store.specs.declared.parts.Parts.{Parts}
use Rattle.am_store.specs.declared.growing.Growing.TheInside.{Inside}

pub record IsGrown (g : Inside) : Type 0 where
  pub grown : AreGrown g.old.entries g.fresh.entries g.graph g.index g.totals
  pub contents : IsContents (members_of g.old.entries) g.contents
  pub held : AreHeld g.old.entries g.held

pub record ArePartsOf (es : List (Hash × Change)) (p : Parts) : Type 0 where
  pub closed : p.closed.entries ≡ es
  pub contents : IsContents (members_of es) p.contents
  pub of_set : AreOf (members_of es) p.graph p.index
