-- Items by their spellings. A kind of item is known by `end`, the length of the item that begins bytes, if one does.
--     IsItem end bytes      the bytes are one item, whole
--     ReadsItems end        what `end` keeps
--     IsLast bytes start i  the byte at i is the last of the number that begins at start
--     unsigned_end, signed_end, text_end     numbers in their shortest LEB128, and texts in UTF-8 behind their length
use Rattle.std.specs.Prelude.{◌≡◌, ℕ, ◌+◌, ◌-◌, ◌<◌, ◌≤◌, List, [], ◌++◌, length, take, drop, get_or, Option, Some, None, Result, Ok, Err, ◌&&◌, nat_le, if◌then◌else◌}
use Rattle.std.specs.Str.{is_utf8}
use Rattle.am_leb.specs.declared.LebFault.{LebFault}
use Rattle.am_leb.specs.Leb.{uleb}
use Rattle.am_leb.specs.Reading.{first_unsigned, first_signed}

-- The bytes are the spelling of one item, whole.
abbrev pub IsItem : (List ℕ → Option ℕ) → List ℕ → Type 0
IsItem end bytes = end bytes ≡ Some (length bytes)

-- what `end` keeps
pub record ReadsItems (end : List ℕ → Option ℕ) : Type 0 where
  -- the end that is found is that of an item
  pub found : (bytes : List ℕ) (n : ℕ) → end bytes ≡ Some n → (n ≤ length bytes) × IsItem end (take n bytes)
  -- an item is read back, whatever follows it; so no item is a proper prefix of another
  pub again : (item rest : List ℕ) → IsItem end item → end (item ++ rest) ≡ Some (length item)

abbrev pub length_read : {A : Type 0} → Result (A × ℕ) LebFault → Option ℕ
length_read (Ok x) = Some x.1
length_read (Err e) = None

-- The byte at i is the last of the number that begins at start: it says that none follows, and each before it, eight at most, that more do.
abbrev pub IsLast : List ℕ → ℕ → ℕ → Type 0
IsLast bytes start i = (i ≤ start + 8) × (get_or bytes i 0 < 128) × ((k : ℕ) → start ≤ k → k < i → 128 ≤ get_or bytes k 0)

-- the items of a column of unsigned numbers
abbrev pub unsigned_end : List ℕ → Option ℕ
unsigned_end bytes = length_read (first_unsigned bytes)

-- the items of a column of signed numbers
abbrev pub signed_end : List ℕ → Option ℕ
signed_end bytes = length_read (first_signed bytes)

-- a text is spelled behind its length
abbrev pub text_spelling : List ℕ → List ℕ
text_spelling text = uleb (length text) ++ text

abbrev pub text_end_by : List ℕ → Result (ℕ × ℕ) LebFault → Option ℕ
text_end_by bytes (Err e) = None
text_end_by bytes (Ok x) = if nat_le x.0 (length bytes - x.1) && is_utf8 (take x.0 (drop x.1 bytes)) then Some (x.1 + x.0) else None

-- the items of a column of texts
abbrev pub text_end : List ℕ → Option ℕ
text_end bytes = text_end_by bytes (first_unsigned bytes)

abbrev pub behind_number : List ℕ → Result (ℕ × ℕ) LebFault → List ℕ
behind_number bytes (Err e) = []
behind_number bytes (Ok x) = drop x.1 bytes

-- the text of an item
abbrev pub text_of : List ℕ → List ℕ
text_of bytes = behind_number bytes (first_unsigned bytes)
