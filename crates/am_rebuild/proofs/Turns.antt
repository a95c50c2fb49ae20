-- One more turn of a loop over a list or a cursor.
use Rattle.std.proofs.Common.{ℕ, get_or, ◌≡◌, ◌+◌, ◌<◌, List, [], ◌∷◌, ◌++◌, length, map, take, sym, ap, ◌∙◌}
use Rattle.std.specs.List.{flat_map}
use Rattle.std.proofs.lemmas.List.{append_assoc, map-append, flat_map_more, take_more}

-- what was pushed is the next of the list
pub taken_more : {X : Type 0} (xs : List X) (i : ℕ) (x : X) (before new : List X) → i < length xs → x ≡ get_or xs i x → before ≡ take i xs → new ≡ before ++ x ∷ [] → new ≡ take (i + 1) xs
taken_more xs i x before new l is b n = n ∙ ap (λ a. a ++ x ∷ []) b ∙ ap (λ y. take i xs ++ y ∷ []) is ∙ sym (take_more xs i x l)

-- what the next of the list gives was appended
pub given_more : {X A : Type 0} (f : X → List A) (xs : List X) (i : ℕ) (x : X) (before new : List A) → i < length xs → x ≡ get_or xs i x → before ≡ flat_map f (take i xs) → new ≡ before ++ f x → new ≡ flat_map f (take (i + 1) xs)
given_more f xs i x before new l is b n =
    n ∙ ap (λ a. a ++ f x) b ∙ flat_map_more f [] (take i xs) x ∙ ap (λ y. flat_map f (take i xs ++ y ∷ [])) is ∙ ap (flat_map f) (sym (take_more xs i x l))

-- what was pushed is the next of the rest
pub one_less : {X : Type 0} (done rest next all new : List X) (x : X) → rest ≡ x ∷ next → new ≡ done ++ x ∷ [] → done ++ rest ≡ all → new ++ next ≡ all
one_less done rest next all new x r n a = ap (λ l. l ++ next) n ∙ append_assoc done (x ∷ []) next ∙ ap (λ l. done ++ l) (sym r) ∙ a

-- the next of the rest is what is seen of what was pushed
pub one_less_seen : {X Y : Type 0} (f : X → Y) (done new : List X) (rest next all : List Y) (x : X) → rest ≡ f x ∷ next → new ≡ done ++ x ∷ [] → map f done ++ rest ≡ all → map f new ++ next ≡ all
one_less_seen f done new rest next all x r n a = one_less (map f done) rest next all (map f new) (f x) r (ap (map f) n ∙ map-append f done (x ∷ [])) a
