-- A closed set whose document lacks its last changes.
--     AreStaged written old staged    the entries at rest are those of the document, and others behind them, which stand beside
--                                     their own hashes and have the staged changes
--     IsStaging s                     graph and index are those of all entries, the contents those of the document, and what this
--                                     lacks is staged
use Rattle.std.specs.Prelude.{◌≡◌, List, ◌++◌, vec_items}
use Rattle.am_types.specs.declared.Hash.{Hash}
use Rattle.am_types.specs.declared.Change.{Change}
use Rattle.am_types.specs.Members.{Member, changes}
use Rattle.am_types.specs.ValidSets.{Valid}
use Rattle.am_change.specs.Judgement.{HasOwnHashes}
use Rattle.am_delivery.specs.Waiting.{members_of}
use Rattle.am_store.specs.Contents.{IsContents}
use Rattle.am_store.specs.Grown.{AreGrown}
use Rattle.am_store.specs.declared.staging.Staging.TheInside.{Inside}

pub record AreStaged (written old : List (Hash × Change)) (staged : List Change) : Type 0 where
  pub added : List Member
  pub behind : members_of old ≡ members_of written ++ added
  pub are : changes added ≡ staged
  pub own_hashes : HasOwnHashes added

pub record IsStaging (s : Inside) : Type 0 where
  pub grown : AreGrown s.old.entries s.fresh.entries s.graph s.index s.totals
  pub valid : Valid (members_of s.old.entries)
  pub contents : IsContents (members_of s.written.entries) s.contents
  pub staged : AreStaged s.written.entries s.old.entries (vec_items s.staged)
