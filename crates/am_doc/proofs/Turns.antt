-- One more turn of a loop over a list.
use Rattle.std.proofs.Common.{ℕ, get_or, ◌≡◌, ◌+◌, ◌<◌, ◌≤◌, List, [], ◌∷◌, ◌++◌, length, take, Option, Some, sym, ap, ◌∙◌, subst}
use Rattle.std.specs.Prelude.{IfSome}
use Rattle.std.specs.List.{flat_map}
use Rattle.std.proofs.lemmas.List.{flat_map_more, take_more, take_all}

module _ {X : Type 0} (f : X → List ℕ) (start : List ℕ) (xs : List X) (i : ℕ) where
  -- what the next of the list gives was appended
  pub given_more : (x d : X) (before new : List ℕ) → i < length xs → x ≡ get_or xs i d → before ≡ start ++ flat_map f (take i xs) → new ≡ before ++ f x → new ≡ start ++ flat_map f (take (i + 1) xs)
  given_more x d before new l is b n =
      n ∙ ap (λ a. a ++ f x) b ∙ flat_map_more f start (take i xs) x ∙ ap (λ y. start ++ flat_map f (take i xs ++ y ∷ [])) is ∙ ap (λ ys. start ++ flat_map f ys) (sym (take_more xs i d l))

  -- nothing of the list is left
  pub given_all : (out : List ℕ) → length xs ≤ i → out ≡ start ++ flat_map f (take i xs) → out ≡ start ++ flat_map f xs
  given_all out l is = is ∙ ap (λ ys. start ++ flat_map f ys) (take_all i xs l)

-- a writer took the next of the list
pub taken_more : {X : Type 0} (xs : List X) (i : ℕ) (x z : X) (old new : Option (List X)) → i < length xs → x ≡ get_or xs i x → z ≡ x → old ≡ Some (take i xs) → IfSome old (λ ys. new ≡ Some (ys ++ z ∷ []))
    → new ≡ Some (take (i + 1) xs)
taken_more xs i x z old new l is same e h =
    subst (λ o. IfSome o (λ ys. new ≡ Some (ys ++ z ∷ []))) e h ∙ ap (λ y. Some (take i xs ++ y ∷ [])) (same ∙ is) ∙ ap Some (sym (take_more xs i x l))
