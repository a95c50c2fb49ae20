-- The first fault ends a run: of its calls of an object that tells them, none fails but the last, at that object's fault.
--     fails calls number          the call of this number is one that fails
--     NoneFails before after      none of the calls from before to after fails
--     LastFails before after      the last of them fails, and none before it
--     Ended failed before after   where calls are told, the last one failed, or none did
--     is_err_at p result          the result is a fault at which p says true
use Rattle.std.specs.Prelude.{◌≡◌, ℕ, ◌≤◌, ◌<◌, Bool, true, false, IsTrue, eqb, Option, None, Some, Result, Ok, Err, ⊤}
use Rattle.std.specs.List.{list_any}
use Rattle.am_outside.specs.Calls.{Calls, fails_next, one_more}
use Rattle.am_session.specs.declared.stop.Stop.{Stop}
use Rattle.am_session.specs.declared.stop.Stop.TheVariants.{File, NoMemory}

-- ---- calls

abbrev pub fails : Calls → ℕ → Bool
fails calls number = list_any (λ failing. eqb failing number) calls.failing

-- no number of a call that was made from before to after is one that fails
pub record NoneFails (before after : Calls) : Type 0 where
  pub failing : after.failing ≡ before.failing
  pub none : (number : ℕ) → before.made ≤ number → number < after.made → fails before number ≡ false

-- the same up to the last call, and that one fails
pub record LastFails (before after : Calls) : Type 0 where
  pub last : Calls
  pub until : NoneFails before last
  pub failed : IsTrue (fails_next last)
  pub after_it : after ≡ one_more last

abbrev pub Ended : Bool → Option Calls → Option Calls → Type 0
Ended failed None after = ⊤
Ended failed (Some before) None = ⊥
Ended false (Some before) (Some after) = NoneFails before after
Ended true (Some before) (Some after) = LastFails before after

-- ---- the fault of an object

abbrev pub is_err_at : {A E : Type 0} → (E → Bool) → Result A E → Bool
is_err_at p (Ok found) = false
is_err_at p (Err fault) = p fault

-- the folder failed
abbrev pub is_file_stop : Stop → Bool
is_file_stop File = true
is_file_stop NoMemory = false
