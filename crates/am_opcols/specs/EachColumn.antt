-- Each column of a change's operations as a reader judges it, and the other actors.
--     CanonicalNumbers bytes, and so on     the bytes are the canonical spelling of some list of the kind, of at most 2 ^ 22
--                                           items
--     AreNumbersCanonical columns           so is each column of numbers, places among them
--     AreRemainingCanonical columns         so is each column of deltas, texts and flags; that of the insert flags stands
--                                           where there are operations
--     ArePlain author actors columns        no listed column is empty, each is canonical, and the actors ascend, without the
--                                           author
--     AreNamed actors ops                   the operations name each of the actors
use Rattle.std.specs.Prelude.{◌≡◌, ℕ, ◌≤◌, List, [], length, Option, Bool, ℤ}
use Rattle.std.specs.List.{flat_map, AllByRecursion}
use Rattle.am_types.specs.declared.Op.{Op}
use Rattle.am_runs.specs.Items.{unsigned_end, text_end}
use Rattle.am_runs.specs.Canonical.{Canon}
use Rattle.am_delta.specs.Deltas.{CanonDeltas}
use Rattle.am_flags.specs.Flags.{CanonFlags, CanonMaybe}
use Rattle.am_types.specs.Order.{bytes_cmp}
use Rattle.am_types.specs.Limits.{most_operations}
use Rattle.am_colmeta.specs.Metadata.{column_at, listing, AreFilled}
use Rattle.am_fields.specs.Actors.{IsListed}
use Rattle.am_opcols.specs.Others.{actors_of}
use Rattle.am_opcols.specs.Chains.{Chain}
use Rattle.am_fields.specs.Specifications as specifications

abbrev pub CanonicalNumbers : List ℕ → Type 0
CanonicalNumbers bytes = (list : List (Option (List ℕ))) × Canon unsigned_end bytes list × (length list ≤ most_operations)

abbrev pub CanonicalTexts : List ℕ → Type 0
CanonicalTexts bytes = (list : List (Option (List ℕ))) × Canon text_end bytes list × (length list ≤ most_operations)

abbrev pub CanonicalDeltas : List ℕ → Type 0
CanonicalDeltas bytes = (values : List (Option ℤ)) × CanonDeltas bytes values × (length values ≤ most_operations)

abbrev pub CanonicalFlags : List ℕ → Type 0
CanonicalFlags bytes = (flags : List Bool) × CanonFlags bytes flags × (length flags ≤ most_operations)

abbrev pub CanonicalMaybe : List ℕ → Type 0
CanonicalMaybe bytes = (flags : List Bool) × CanonMaybe bytes flags × (length flags ≤ most_operations)

pub record AreNumbersCanonical (columns : List (ℕ × List ℕ)) : Type 0 where
  pub object_actor : CanonicalNumbers (column_at columns specifications.object_actor)
  pub object_counter : CanonicalNumbers (column_at columns specifications.object_counter)
  pub key_actor : CanonicalNumbers (column_at columns specifications.key_actor)
  pub action : CanonicalNumbers (column_at columns specifications.action)
  pub value : CanonicalNumbers (column_at columns specifications.value_metadata)
  pub count : CanonicalNumbers (column_at columns specifications.pred_count)
  pub pred_actor : CanonicalNumbers (column_at columns specifications.pred_actor)

pub record AreRemainingCanonical (columns : List (ℕ × List ℕ)) : Type 0 where
  pub key_counter : CanonicalDeltas (column_at columns specifications.key_counter)
  pub pred_counter : CanonicalDeltas (column_at columns specifications.pred_counter)
  pub key_name : CanonicalTexts (column_at columns specifications.key_name)
  pub mark : CanonicalTexts (column_at columns specifications.mark)
  pub insert : CanonicalFlags (column_at columns specifications.insert)
  pub insert_stands : column_at columns specifications.insert ≡ [] → column_at columns specifications.action ≡ []
  pub expand : CanonicalMaybe (column_at columns specifications.expand)

pub record ArePlain (author : List ℕ) (actors : List (List ℕ)) (columns : List (ℕ × List ℕ)) : Type 0 where
  pub filled : AreFilled (listing columns)
  pub numbers : AreNumbersCanonical columns
  pub rest : AreRemainingCanonical columns
  pub ascend : Chain bytes_cmp actors
  pub apart : IsListed actors author → ⊥

abbrev pub AreNamed : List (List ℕ) → List Op → Type 0
AreNamed actors ops = AllByRecursion (IsListed (flat_map actors_of ops)) actors
