-- Bytes join one list at most.
use Rattle.std.specs.Prelude.{◌≡◌, ℕ, ℤ, List, Option, Bool}
use Rattle.am_runs.specs.Typed.{JoinsUnsigned, JoinsTexts}
use Rattle.am_runs.proofs.Spelled.{one_unsigned}
use Rattle.am_runs.proofs.TextSpellings.{one_texts}
use Rattle.am_delta.specs.Deltas.{JoinsDeltas}
use Rattle.am_delta.proofs.Spellings as deltas
use Rattle.am_flags.specs.Flags.{JoinsFlags}
use Rattle.am_flags.proofs.Spellings as flags

pub same_numbers : (bytes : List ℕ) (xs ys : List (Option ℕ)) → JoinsUnsigned bytes xs → JoinsUnsigned bytes ys → xs ≡ ys
same_numbers = one_unsigned

pub same_texts : (bytes : List ℕ) (xs ys : List (Option (List ℕ))) → JoinsTexts bytes xs → JoinsTexts bytes ys → xs ≡ ys
same_texts = one_texts

pub same_deltas : (bytes : List ℕ) (xs ys : List (Option ℤ)) → JoinsDeltas bytes xs → JoinsDeltas bytes ys → xs ≡ ys
same_deltas = deltas.one_joined

pub same_flags : (bytes : List ℕ) (xs ys : List Bool) → JoinsFlags bytes xs → JoinsFlags bytes ys → xs ≡ ys
same_flags = flags.one_joined
