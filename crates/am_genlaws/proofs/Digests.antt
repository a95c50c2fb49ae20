-- A digest has 32 bytes.
use Rattle.std.proofs.Common.{◌≡◌, ◌<◌, ◌*◌, ◌^◌, ℕ, zero, suc, List, length, refl, arith, lit<}
use Rattle.std.specs.Int.{w32, byte_at, bytes_high_first, to_be_bytes}
use Rattle.std.specs.Prelude.{slice_index}
use Rattle.std.proofs.Math.Nat.{mod-lt}
use Rattle.std.proofs.lemmas.List.{length-append}
use Rattle.std.proofs.lemmas.List.Elements.{All-nil, All-cons, All-append}
use Rattle.sha2.specs.Sha256.{sha256, digest_bytes, final_hash, initial_hash_256}
use Rattle.am_types.specs.Bytes.{IsBytes, IsHash}
use Rattle.am_types.specs.declared.Change.{Change}
use Rattle.am_change.specs.Hashes.{own_hash}

byte : (i n : ℕ) → byte_at i n < 2 ^ 8
byte zero n = mod-lt n (lit< tt)
byte (suc i) n = mod-lt _ (lit< tt)

bytes_of : (k n : ℕ) → IsBytes (bytes_high_first k n)
bytes_of zero n = All-nil (λ b. b < 2 ^ 8)
bytes_of (suc k) n = All-cons (λ b. b < 2 ^ 8) (byte_at k n) (bytes_high_first k n) (byte k n) (bytes_of k n)

word_bytes : (n : ℕ) → IsBytes (to_be_bytes w32 n)
word_bytes n = bytes_of 4 n

digest_is : (h : List ℕ) (n : ℕ) → IsBytes (digest_bytes h n)
unfolding digest_bytes
digest_is h zero = All-nil (λ b. b < 2 ^ 8)
digest_is h (suc n) = All-append (λ b. b < 2 ^ 8) (digest_bytes h n) (to_be_bytes w32 (slice_index h n)) (digest_is h n) (word_bytes (slice_index h n))

digest_long : (h : List ℕ) (n : ℕ) → length (digest_bytes h n) ≡ 4 * n
unfolding digest_bytes
digest_long h zero = refl
digest_long h (suc n) =
    let again = digest_long h n in
    let joined = length-append (digest_bytes h n) (to_be_bytes w32 (slice_index h n)) in
    let four : length (to_be_bytes w32 (slice_index h n)) ≡ 4 = refl in
    omega arith

pub sha_bytes : (m : List ℕ) → IsBytes (sha256 m)
unfolding sha256
sha_bytes m = digest_is (final_hash initial_hash_256 m) 8

pub sha_long : (m : List ℕ) → length (sha256 m) ≡ 32
unfolding sha256
sha_long m = digest_long (final_hash initial_hash_256 m) 8

pub hash_is : (c : Change) → IsHash (own_hash c)
hash_is c = record { length = sha_long _; bytes = sha_bytes _ }
