-- The texts of replies that several commands share.
--     refused why        the reply that refuses a command
--     absent             the one where the file that a command reads isn't there
--     unknown hash       the one where no change with this hash is held
--     hash_list hashes   their number, and then one to a line
--     kept_reply count   the one where a file of so many bytes is kept
use Rattle.std.specs.Prelude.{ℕ, List, [], ◌∷◌, ◌++◌, length, codes, decimal, Bool, bytes_eq, take, flat_map}
use Rattle.hex.specs.Hex.{encode_lower}
use Rattle.am_types.specs.declared.Hash.{Hash}

abbrev pub newline : ℕ
newline = 10

-- a number behind some words
abbrev pub numbered : List ℕ → ℕ → List ℕ
numbered before number = before ++ decimal number

abbrev pub refused : List ℕ → List ℕ
refused why = codes "refused " ++ why ++ newline ∷ []

abbrev pub is_refused : List ℕ → Bool
is_refused reply = bytes_eq (take 7 reply) (codes "refused")

abbrev pub absent : List ℕ
absent = refused (codes "absent")

abbrev pub is_absent : List ℕ → Bool
is_absent reply = bytes_eq reply absent

-- a hash in hexadecimal, in lower case
abbrev pub hash_text : Hash → List ℕ
hash_text hash = encode_lower hash.0

abbrev pub unknown : Hash → List ℕ
unknown hash = refused (codes "unknown " ++ hash_text hash)

abbrev pub hash_line : Hash → List ℕ
hash_line hash = hash_text hash ++ newline ∷ []

abbrev pub hash_list : List Hash → List ℕ
hash_list hashes = codes "ok " ++ decimal (length hashes) ++ newline ∷ [] ++ flat_map hash_line hashes

abbrev pub kept_reply : ℕ → List ℕ
kept_reply count = codes "ok " ++ decimal count ++ newline ∷ []
