-- Values, by their kind and their bytes. (Automerge Binary Document Format, "value metadata" and "value column".)
--     Kinds 0 null, 1 false, 2 true, 3 unsigned number, 4 signed number, 5 float, 6 text, 7 bytes, 8 counter,
--     9 timestamp, 10 to 15 unknown and carried.
--     Good v            the bytes are those that the kind allows
--     number_of v       the number that the bytes spell, of a number, a counter or a timestamp
--     amount v          what an increment by v adds to a counter
--     is_counter v      v is a counter
-- That a value has fewer than 2 ^ 60 bytes, and that an increment by anything but a number or a counter adds nothing,
-- are choices of amstore's profile.
use Rattle.std.specs.Prelude.{ℕ, ◌<◌, ◌≤◌, ◌≡◌, ◌^◌, ◌⊎◌, Bool, ◌==◌, ◌||◌, [], length, ℤ, pos, Option, None, option_map, IsSome, IsUtf8, unwrap_or, if◌then◌else◌}
use Rattle.am_types.specs.Bytes.{IsBytes}
use Rattle.am_types.specs.Records.{RawValue}
use Rattle.am_types.specs.Numbers.{unsigned_of, signed_of}

abbrev pub is_counter : RawValue → Bool
is_counter v = v.kind == 8

-- signed numbers, counters and timestamps
abbrev pub is_signed_kind : ℕ → Bool
is_signed_kind kind = kind == 4 || kind == 8 || kind == 9

abbrev pub number_of : RawValue → Option ℤ
number_of v =
    if v.kind == 3 then option_map pos (unsigned_of v.raw)
    else (if is_signed_kind v.kind then signed_of v.raw else None)

-- numbers and counters
abbrev pub is_amount_kind : ℕ → Bool
is_amount_kind kind = kind == 3 || kind == 4 || kind == 8

abbrev pub amount : RawValue → ℤ
amount v = if is_amount_kind v.kind then unwrap_or (number_of v) (pos 0) else pos 0

pub record Good (v : RawValue) : Type 0 where
  pub kind : v.kind ≤ 15
  pub short : length v.raw < 2 ^ 60
  pub bytes : IsBytes v.raw
  -- null, false and true
  pub empty : v.kind ≤ 2 → v.raw ≡ []
  pub unsigned : v.kind ≡ 3 → IsSome (unsigned_of v.raw)
  pub signed : (v.kind ≡ 4) ⊎ (v.kind ≡ 8) ⊎ (v.kind ≡ 9) → IsSome (signed_of v.raw)
  pub float : v.kind ≡ 5 → length v.raw ≡ 8
  pub text : v.kind ≡ 6 → IsUtf8 v.raw
