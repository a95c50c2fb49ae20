-- Numbers that fill a list of bytes. (LEB128, as in am_leb: the shortest spelling, of at most 64 bits.)
--     unsigned_of bytes     the unsigned number that the bytes spell, whole
--     signed_of bytes       the signed number that the bytes spell, whole
use Rattle.std.specs.Prelude.{ℕ, ℤ, ◌==◌, List, length, Option, Some, None, Result, Ok, Err, if◌then◌else◌}
use Rattle.am_leb.specs.declared.LebFault.{LebFault}
use Rattle.am_leb.specs.Reading.{first_unsigned, first_signed}

-- the number that was read first, where its spelling is all the bytes
abbrev pub if_whole : {N : Type 0} → List ℕ → Result (N × ℕ) LebFault → Option N
if_whole bytes (Ok found) = if found.1 == length bytes then Some found.0 else None
if_whole bytes (Err fault) = None

unfoldable pub unsigned_of : List ℕ → Option ℕ
unsigned_of bytes = if_whole bytes (first_unsigned bytes)

unfoldable pub signed_of : List ℕ → Option ℤ
signed_of bytes = if_whole bytes (first_signed bytes)
