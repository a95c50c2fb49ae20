-- What is read from the last element on, one element further.
use Rattle.std.proofs.Common.{ℕ, Bool, ◌≡◌, ◌+◌, ◌-◌, ◌≤◌, ◌<◌, List, [], ◌∷◌, ◌++◌, length, drop, get_or, filter, reverse, sym, ap, ◌∙◌, arith}
use Rattle.std.proofs.lemmas.List.{drop_more, reverse-append}
use Rattle.std.proofs.lemmas.List.Concat.{flat_map-append}
use Rattle.std.proofs.lemmas.List.Elements.{filter-append}
use Rattle.am_types.specs.Operations.{Operation}
use Rattle.am_merge.specs.Naming.{reference, references}

-- what stands from a place on has the element before it in front
pub drop_less : {X : Type 0} (xs : List X) (m : ℕ) (x : X) → 0 < m → m ≤ length xs → x ≡ get_or xs (m - 1) x → drop (m - 1) xs ≡ x ∷ drop m xs
drop_less xs m x some most is =
    let within : m - 1 < length xs = omega arith in
    let next : (m - 1) + 1 ≡ m = omega arith in
    drop_more xs (m - 1) x within ∙ (λ i. sym is i ∷ drop (next i) xs)

pub one_before : (p : Operation → Bool) (xs : List Operation) (x : Operation) → references (filter p (reverse (x ∷ xs))) ≡ references (filter p (reverse xs)) ++ references (filter p (x ∷ []))
one_before p xs x =
    ap (λ l. references (filter p l)) (reverse-append (x ∷ []) xs)
    ∙ ap references (filter-append p (reverse xs) (x ∷ []))
    ∙ flat_map-append reference (filter p (reverse xs)) (filter p (x ∷ []))
