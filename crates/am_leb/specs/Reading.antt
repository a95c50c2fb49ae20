-- How the number that stands first is read, and which fault comes where none does.
--     end_within k bytes      how many bytes the spelling has that begins the bytes, within the first k of them
--     end_or_fault bytes end     that end, or the fault where there is none
--     first_unsigned bytes, first_signed bytes     the number and the length of its spelling, or the fault
use Rattle.std.specs.Prelude.{◌≡◌, ℕ, ◌+◌, ◌*◌, ◌^◌, ◌%◌, ◌-◌, ◌≤◌, List, [], ◌∷◌, length, take, nat_lt, true, false, suc, zero, Option, Some, None, Result, Ok, Err, if◌then◌else◌, Bool, ℤ, pos, negsuc}
use Rattle.am_leb.specs.declared.fault.LebFault.{LebFault}
use Rattle.am_leb.specs.declared.fault.LebFault.TheVariants.{Short, Long, Large}
use Rattle.am_leb.specs.Leb.{unsigned_value, uleb, seven_bits, ends_negative, leb}

abbrev pub one_more : Option ℕ → Option ℕ
one_more None = None
one_more (Some n) = Some (suc n)

-- how many bytes the spelling has that begins the bytes, if it ends within k bytes
abbrev pub end_within : ℕ → List ℕ → Option ℕ
end_within zero bytes = None
end_within (suc k) [] = None
end_within (suc k) (b ∷ bytes) = if nat_lt b 128 then Some 1 else one_more (end_within k bytes)

abbrev pub end_or_fault : List ℕ → Option ℕ → Result ℕ LebFault
end_or_fault bytes None = Err (if nat_lt (length bytes) 10 then Short else Large)
end_or_fault bytes (Some len) = Ok len

-- A spelling of at most nine bytes begins the bytes: how many it has, what it spells as unsigned, and the bound that so many bytes stay below.
abbrev pub Spelled : List ℕ → ℕ → ℕ → ℕ → Type 0
Spelled bytes len value bound = (len ≤ 9) × (end_within 10 bytes ≡ Some len) × (value ≡ unsigned_value (take len bytes)) × (bound ≡ 128 ^ len)

abbrev pub judged : ℕ → ℕ → Result (ℕ × ℕ) LebFault
judged n len = if nat_lt n (2 ^ 64) then (if nat_lt (length (uleb n)) len then Err Long else Ok (n, len)) else Err Large

abbrev pub unsigned_at : List ℕ → Option ℕ → Result (ℕ × ℕ) LebFault
unsigned_at bytes None = Err (if nat_lt (length bytes) 10 then Short else Large)
unsigned_at bytes (Some len) = judged (unsigned_value (take len bytes)) len

-- the number that stands first, and its length
unfoldable pub first_unsigned : List ℕ → Result (ℕ × ℕ) LebFault
first_unsigned bytes = unsigned_at bytes (end_within 10 bytes)

abbrev pub digit : Bool → ℕ → ℕ
digit negative b = seven_bits negative (b % 128)

-- n of a nonnegative number n, and of -n - 1
abbrev pub magnitude : Bool → List ℕ → ℕ
magnitude negative [] = 0
magnitude negative (b ∷ bytes) = digit negative b + 128 * magnitude negative bytes

abbrev pub from_magnitude : Bool → ℕ → ℤ
from_magnitude false n = pos n
from_magnitude true n = negsuc n

abbrev pub judged_signed : Bool → ℕ → ℕ → Result (ℤ × ℕ) LebFault
judged_signed negative n len = if nat_lt n (2 ^ 63) then (if nat_lt (length (leb (pos n))) len then Err Long else Ok (from_magnitude negative n, len)) else Err Large

abbrev pub signed_at : List ℕ → Option ℕ → Result (ℤ × ℕ) LebFault
signed_at bytes None = Err (if nat_lt (length bytes) 10 then Short else Large)
signed_at bytes (Some len) = judged_signed (ends_negative (take len bytes)) (magnitude (ends_negative (take len bytes)) (take len bytes)) len

-- the signed number that stands first, and its length
unfoldable pub first_signed : List ℕ → Result (ℤ × ℕ) LebFault
first_signed bytes = signed_at bytes (end_within 10 bytes)

-- the number that one byte spells
abbrev pub low_value : ℕ → ℤ
low_value b = if nat_lt b 64 then pos b else negsuc (127 - b)
