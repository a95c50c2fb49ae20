-- Two ways to say that a list ascends.
--     chain_ascends, ascends_chain     each gives the other
use Rattle.std.proofs.Common.{◌≡◌, ℕ, zero, suc, add-one, ◌<◌, List, [], ◌∷◌, length, get_or, sym, subst, arith, Ordering, Less}
use Rattle.am_types.specs.Order.{Ascends}
use Rattle.am_opcols.specs.Chains.{Chain, ChainFrom}

adjacent : {X : Type 0} (cmp : X → X → Ordering) (x : X) (xs : List X) → ChainFrom cmp x xs → (k : ℕ) (d : X) → suc k < length (x ∷ xs) → cmp (get_or (x ∷ xs) k d) (get_or (x ∷ xs) (suc k) d) ≡ Less
adjacent cmp x [] h k d l = absurd (omega arith)
adjacent cmp x (y ∷ ys) h zero d l = h.0
adjacent cmp x (y ∷ ys) h (suc k) d l = adjacent cmp y ys h.1 k d (omega arith)

pub chain_ascends : {X : Type 0} (cmp : X → X → Ordering) (xs : List X) → Chain cmp xs → Ascends cmp xs
chain_ascends cmp [] h = λ k d l. absurd (omega arith)
chain_ascends cmp (x ∷ xs) h = λ k d l. subst (λ (n : ℕ). cmp (get_or (x ∷ xs) k d) (get_or (x ∷ xs) n d) ≡ Less) (sym (add-one k)) (adjacent cmp x xs h k d (omega arith))

from_adjacent : {X : Type 0} (cmp : X → X → Ordering) (x : X) (xs : List X) → ((k : ℕ) (d : X) → suc k < length (x ∷ xs) → cmp (get_or (x ∷ xs) k d) (get_or (x ∷ xs) (suc k) d) ≡ Less) → ChainFrom cmp x xs
from_adjacent cmp x [] f = tt
from_adjacent cmp x (y ∷ ys) f = (f zero x (omega arith), from_adjacent cmp y ys (λ k d l. f (suc k) d (omega arith)))

pub ascends_chain : {X : Type 0} (cmp : X → X → Ordering) (xs : List X) → Ascends cmp xs → Chain cmp xs
ascends_chain cmp [] h = tt
ascends_chain cmp (x ∷ xs) h = from_adjacent cmp x xs (λ k d l. subst (λ (n : ℕ). cmp (get_or (x ∷ xs) k d) (get_or (x ∷ xs) n d) ≡ Less) (add-one k) (h k d (omega arith)))
