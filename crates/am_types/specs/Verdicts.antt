-- Whether a change fits a set.
--     verdict C c             the first reason why c doesn't fit C, or Fits
--     NoReasonApplies C c     none of the reasons applies
-- C is meant to be valid and to hold the dependencies of c but not c itself. The order of the reasons and the limits are
-- choices of amstore's profile. The reasons, each with its answer where it applies; A are the ancestors of c in C:
--     seq_clash C c         a member of C has the actor and the seq of c
--     seq_gap A c           c isn't its actor's first, and the one before it isn't among its ancestors
--     start_low A c         a dependency ends at the start of c or above, as `max` has it
--     bad_reference A c     an operation of c names what isn't there
--     full C c              with c, the set would pass a limit
use Rattle.std.specs.Prelude.{ℕ, ◌≡◌, ◌-◌, Bool, not, ◌&&◌, ◌==◌, nat_le, nat_lt, List, [], ◌∷◌, find, Option, None, option_map, unwrap_or}
use Rattle.std.specs.Bool.{then_some}
use Rattle.std.specs.List.{list_any}
use Rattle.am_types.specs.Records.{Change, Limit, Verdict, Fits, SeqClash, SeqGap, StartLow, BadReference, Full}
use Rattle.am_types.specs.Order.{hash_cmp, same}
use Rattle.am_types.specs.Same.{same_bytes}
use Rattle.am_types.specs.Operations.{operations, all_operations, max}
use Rattle.am_types.specs.Totals.{totals_of, limit_of, first_some}
use Rattle.am_types.specs.Members.{Member, changes}
use Rattle.am_types.specs.Ancestors.{ancestors}
use Rattle.am_types.specs.References.{first_bad}

-- m has this actor and this seq
abbrev pub has_seq : List ℕ → ℕ → Member → Bool
has_seq actor seq m = same_bytes m.change.actor actor && m.change.seq == seq

abbrev pub seq_clash : List Member → Change → Option Verdict
seq_clash C c = option_map (λ m. SeqClash m.hash) (find (has_seq c.actor c.seq) C)

abbrev pub seq_gap : List Member → Change → Option Verdict
seq_gap A c = then_some (nat_lt 1 c.seq && not (list_any (has_seq c.actor (c.seq - 1)) A)) SeqGap

-- the dependencies ascend, so the first is the least
abbrev pub start_low : List Member → Change → Option Verdict
start_low A c = option_map StartLow (find (λ h. list_any (λ m. same hash_cmp m.hash h && nat_le c.start (max m.change)) A) c.deps)

abbrev pub bad_reference : List Member → Change → Option Verdict
bad_reference A c = option_map BadReference (first_bad (all_operations (changes A)) (operations c))

-- the first limit that the changes of a set pass
abbrev pub limit_passed : List Change → Option Limit
limit_passed cs = limit_of (totals_of cs)

abbrev pub full : List Member → Change → Option Verdict
full C c = option_map Full (limit_passed (c ∷ changes C))

unfoldable pub verdict : List Member → Change → Verdict
verdict C c =
    let A : List Member = ancestors C c.deps in
    unwrap_or (first_some (seq_clash C c ∷ seq_gap A c ∷ start_low A c ∷ bad_reference A c ∷ full C c ∷ [])) Fits

-- no reason applies
pub record NoReasonApplies (C : List Member) (c : Change) : Type 0 where
  pub clash : seq_clash C c ≡ None
  pub gap : seq_gap (ancestors C c.deps) c ≡ None
  pub low : start_low (ancestors C c.deps) c ≡ None
  pub references : bad_reference (ancestors C c.deps) c ≡ None
  pub limits : full C c ≡ None
