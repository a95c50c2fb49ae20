-- Texts that are kept once, each with its place of coming as its number.
--     with_text ts t             the texts ts, and t behind them if it is new
--     word_from n t              the number whose digits in base 256 are those of n and behind them the bytes of t
--     key_of t                   the bytes of t as one number, and how many they are
--     key_cmp k l                the order of two such keys
--     Tells short long f         of each text of at most 16 bytes the map short tells what f says of it, by its key, and of each
--                                longer one the map long does, by its bytes
--     AreOnce ts                 each of the texts has its place as its number: it is there once
--     AreNumbers ts short long   the texts are there once, and the maps tell their numbers
use Rattle.std.specs.Prelude.{ℕ, ◌≡◌, ◌<◌, ◌≤◌, ◌+◌, ◌*◌, List, [], ◌∷◌, ◌++◌, length, get_or, Option, Some, Vec}
use Rattle.std.specs.BTreeMap.{BTreeMap, get}
use Rattle.std.specs.Global.{Global}
use Rattle.std.specs.Map.{lookup}
use Rattle.std.specs.Option.{option_map_or}
use Rattle.std.specs.Ordering.{nat_cmp, ordering_then}
use Rattle.std.specs.declared.cmp.Ordering.{Ordering}
use Rattle.am_types.specs.Bytes.{IsBytes}
use Rattle.am_types.specs.Same.{same_bytes}
use Rattle.am_graph.specs.Reaches.{number}

abbrev pub with_text : List (List ℕ) → List ℕ → List (List ℕ)
with_text ts t = option_map_or (λ n. ts) (number ts t) (ts ++ t ∷ [])

abbrev pub word_from : ℕ → List ℕ → ℕ
word_from n [] = n
word_from n (x ∷ xs) = word_from (n * 256 + x) xs

abbrev pub key_of : List ℕ → ℕ × ℕ
key_of t = (word_from 0 t, length t)

abbrev pub key_cmp : ℕ × ℕ → ℕ × ℕ → Ordering
key_cmp k l = ordering_then (nat_cmp k.0 l.0) (nat_cmp k.1 l.1)

pub record Tells (short : BTreeMap (ℕ × ℕ) ℕ) (long : BTreeMap (Vec ℕ Global) ℕ) (f : List ℕ → Option ℕ) : Type 0 where
  pub few : (t : List ℕ) → IsBytes t → length t ≤ 16 → get key_cmp short (key_of t) ≡ f t
  pub many : (t : List ℕ) → 16 < length t → lookup (λ v. same_bytes t v.items) long.entries ≡ f t

abbrev pub AreOnce : List (List ℕ) → Type 0
AreOnce ts = (n : ℕ) (t : List ℕ) → n < length ts → get_or ts n t ≡ t → number ts t ≡ Some n

pub record AreNumbers (ts : List (List ℕ)) (short : BTreeMap (ℕ × ℕ) ℕ) (long : BTreeMap (Vec ℕ Global) ℕ) : Type 0 where
  pub told : Tells short long (number ts)
  pub once : AreOnce ts
