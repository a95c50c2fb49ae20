-- Changes that joined, with what is kept beside them.
--     last_in lasts actor     the greatest last counter of the actor's changes, or 0
--     has_last lasts actor    a last counter of the actor was noted, or 0
--     IsOfSet g ix            graph and index are those of a valid set
--     MayGrow g ix m          and m joins it
--     AreGathered ..          graph, index and last counters are those of the entries, which are a valid set
use Rattle.std.specs.Prelude.{◌≡◌, ℕ, List, Bool, Vec, unwrap_or, is_some}
use Rattle.std.specs.Map.{lookup}
use Rattle.std.specs.Global.{Global}
use Rattle.am_types.specs.declared.Hash.{Hash}
use Rattle.am_types.specs.declared.Change.{Change}
use Rattle.am_types.specs.Same.{same_bytes}
use Rattle.am_types.specs.Members.{Member}
use Rattle.am_types.specs.ValidSets.{Valid, Joins}
use Rattle.am_graph.specs.declared.Node.{Node}
use Rattle.am_fits.specs.Indexes.{Indexed, AreOf}
use Rattle.am_delivery.specs.Waiting.{members_of}
use Rattle.am_histories.specs.Rebuilt.{last_max}

abbrev pub Lasts : Type 0
Lasts = List (Vec ℕ Global × ℕ)

abbrev pub last_in : Lasts → List ℕ → ℕ
last_in lasts actor = unwrap_or (lookup (λ v. same_bytes actor v.items) lasts) 0

abbrev pub has_last : Lasts → List ℕ → Bool
has_last lasts actor = is_some (lookup (λ v. same_bytes actor v.items) lasts)

pub record IsOfSet (g : List (Hash × Node)) (ix : Indexed) : Type 0 where
  pub set : List Member
  pub of_set : AreOf set g ix
  pub valid : Valid set

pub record MayGrow (g : List (Hash × Node)) (ix : Indexed) (m : Member) : Type 0 where
  pub set : List Member
  pub of_set : AreOf set g ix
  pub valid : Valid set
  pub joins : Joins set m

pub record AreGathered (entries : List (Hash × Change)) (g : List (Hash × Node)) (ix : Indexed) (lasts : Lasts) : Type 0 where
  pub of_set : AreOf (members_of entries) g ix
  pub valid : Valid (members_of entries)
  pub last_maxes : (actor : List ℕ) → last_in lasts actor ≡ last_max (members_of entries) actor
