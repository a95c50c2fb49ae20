-- The words of a line or of the command line, and what a word can spell.
--     is_word part       one or more bytes from ! to ~
--     one_name words     the name of a file, of at most 1,024 bytes, that is the one word
--     hash_of word       the hash that 64 hexadecimal digits of either case spell
--     is_number word     0, or digits without a leading zero
--     two_names, hash_and_name, name_and_hashes     the words are these, in this order
-- A word that is out of form is told before one that spells no hash.
use Rattle.std.specs.Prelude.{ℕ, List, [], ◌∷◌, length, Bool, ◌&&◌, ◌||◌, not, nat_le, nat_lt, eqb, bytes_eq, codes, slice_index, Option, None, Some, Result, Ok, Err, if◌then◌else◌}
use Rattle.std.specs.List.{list_all}
use Rattle.std.specs.Char.{is_ascii_digit}
use Rattle.std.specs.Str.Parse.{digits_value}
use Rattle.hex.specs.Hex.{decode_sized}
use Rattle.hex.specs.declared.FromHexError.{FromHexError}
use Rattle.am_types.specs.declared.Hash.{Hash}
use Rattle.am_script.specs.declared.fault.LineFault.{LineFault}
use Rattle.am_script.specs.declared.fault.LineFault.TheVariants.{Syntax, BadHash}

abbrev pub Text : Type 0
Text = List ℕ

-- what words spell, or why they spell it not
abbrev pub Read : Type 0 → Type 0
Read A = Result A LineFault

-- what is made of what was read
abbrev pub made : {A B : Type 0} → (A → B) → Read A → Read B
made make (Ok read) = Ok (make read)
made make (Err fault) = Err fault

-- what is read once this was
abbrev pub before : {A B : Type 0} → Read A → (A → Read B) → Read B
before (Ok read) next = next read
before (Err fault) next = Err fault

-- ---- words

abbrev pub space : ℕ
space = 32

abbrev pub is_word : Text → Bool
is_word part = not (eqb (length part) 0) && list_all (λ byte. nat_lt space byte && nat_lt byte 127) part

-- nothing stands there
abbrev pub alone : {A : Type 0} → A → List Text → Read A
alone read [] = Ok read
alone read (word ∷ more) = Err Syntax

-- ---- names

abbrev pub name_of : Text → Read Text
name_of word = if nat_le (length word) 1024 then Ok word else Err Syntax

abbrev pub one_name : List Text → Read Text
one_name [] = Err Syntax
one_name (name ∷ []) = name_of name
one_name (name ∷ other ∷ more) = Err Syntax

abbrev pub two_names : List Text → Read (Text × Text)
two_names [] = Err Syntax
two_names (first ∷ more) = before (name_of first) (λ first. made (λ second. (first, second)) (one_name more))

-- ---- numbers

abbrev pub is_number : Text → Bool
is_number word = list_all is_ascii_digit word && (eqb (length word) 1 || (not (eqb (length word) 0) && not (eqb (slice_index word 0) 48)))

-- of at most 100,000
abbrev pub number_of : Text → Read ℕ
number_of word = if is_number word && nat_le (digits_value 10 word) 100000 then Ok (digits_value 10 word) else Err Syntax

abbrev pub one_number : List Text → Read ℕ
one_number [] = Err Syntax
one_number (word ∷ []) = number_of word
one_number (word ∷ other ∷ more) = Err Syntax

-- ---- hashes

abbrev pub hash_by : Result Text FromHexError → Option Hash
hash_by (Ok bytes) = Some (record { 0 = bytes })
hash_by (Err fault) = None

abbrev pub hash_of : Text → Option Hash
hash_of word = hash_by (decode_sized word 32)

-- a hash before what comes behind it
abbrev pub with_hash : {A B : Type 0} → (Hash → A → B) → Option Hash → Read A → Read B
with_hash make None others = Err BadHash
with_hash make (Some hash) others = made (make hash) others

-- the hashes that the words spell, where each of them spells one
abbrev pub all_hashes : List Text → Read (List Hash)
all_hashes [] = Ok []
all_hashes (word ∷ more) = with_hash (λ hash others. hash ∷ others) (hash_of word) (all_hashes more)

-- the name is judged first
abbrev pub hash_and_name : List Text → Read (Hash × Text)
hash_and_name [] = Err Syntax
hash_and_name (word ∷ more) = before (one_name more) (λ name. with_hash (λ hash name. (hash, name)) (hash_of word) (Ok name))

abbrev pub name_and_hashes : List Text → Read (Text × List Hash)
name_and_hashes [] = Err Syntax
name_and_hashes (name ∷ more) = before (name_of name) (λ name. made (λ hashes. (name, hashes)) (all_hashes more))
