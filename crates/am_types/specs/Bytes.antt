-- What Rust's types say of bytes and hashes, where a definition ranges over all lists.
--     IsBytes bytes     each is below 256
--     IsHash hash       it has 32 bytes (FIPS 180-4: a digest of SHA-256 has 256 bits)
use Rattle.std.specs.Prelude.{ℕ, ◌≡◌, ◌<◌, ◌^◌, List, length, All}
use Rattle.am_types.specs.declared.hash.Hash.{Hash}

abbrev pub IsBytes : List ℕ → Type 0
IsBytes bytes = All (λ b. b < 2 ^ 8) bytes

pub record IsHash (h : Hash) : Type 0 where
  pub length : length h.0 ≡ 32
  pub bytes : IsBytes h.0
