-- In a set of distinct hashes no two operations have one id, so none is listed twice.
use Rattle.std.proofs.Common.{ℕ, suc, ◌≡◌, ◌≢◌, ◌+◌, List, [], ◌∷◌, ◌++◌, get_or, sym, ap, ◌∙◌, subst, inl, inr, AllPairs, Contains, arith}
use Rattle.std.proofs.lemmas.List.Elements.{Contains-get_or, Contains-append_cases}
use Rattle.std.proofs.lemmas.List.Kept.{AllPairs-cons}
use Rattle.am_laws.specs.Records.{Op}
use Rattle.am_types.specs.Operations.{Operation, numbered, operations, all_operations, DistinctIds}
use Rattle.am_types.specs.Members.{Member, changes, DistinctHashes}
use Rattle.am_types.specs.ValidSets.{Valid}
use Rattle.am_laws.proofs.Listed.{Facts}
use Rattle.am_types.proofs.Lists.{Contains-head, Contains-tail}
use Rattle.am_laws.proofs.DistinctIds.{numbered_at, operation_of, one_change}
use Rattle.am_laws.proofs.Rules.{distinct_hashes}
use Rattle.am_laws.proofs.ValidSetLaws.{grounds_valid}

pub all_pairs_append : {X : Type 0} (R : X → X → Type 0) (xs ys : List X) → AllPairs R xs → AllPairs R ys → ((x y : X) → Contains xs x → Contains ys y → R x y) → AllPairs R (xs ++ ys)
all_pairs_append R [] ys a b cross = b
all_pairs_append R (x ∷ xs) ys a b cross =
    let again : AllPairs R (xs ++ ys) = all_pairs_append R xs ys (λ i j d p q. a (suc i) (suc j) d (omega arith) (omega arith)) b (λ u v cu cv. cross u v (Contains-tail x xs u cu) cv) in
    AllPairs-cons R x (xs ++ ys)
    (λ k d l. elim (Contains-append_cases xs ys (get_or (xs ++ ys) k d) (Contains-get_or (xs ++ ys) k d l)) [
      | inl c ↦ subst (R x) c.2 (a 0 (suc c.0) (get_or (xs ++ ys) k d) (omega arith) (let in_xs = c.1 in omega arith))
      | inr c ↦ cross x (get_or (xs ++ ys) k d) (Contains-head x xs) c
    ])
    again

-- the counters of a change's operations rise
numbered_apart : (s : ℕ) (a : List ℕ) (ops : List Op) → DistinctIds (numbered s a ops)
numbered_apart s a [] = λ i j d p q. absurd (omega arith)
numbered_apart s a (op ∷ ops) =
    let first : Operation = record { id = record { counter = s; actor = a }; op = op } in
    let later : List Operation = numbered (s + 1) a ops in
    AllPairs-cons (λ (x y : Operation). x.id ≢ y.id) first later
    (λ k d l e.
    let y = get_or later k d in
    let c = Contains-get_or later k d l in
    let p = numbered_at (s + 1) a ops y c.0 c.1 c.2 in
    let above : y.id.counter ≡ s + 1 + p.0 = ap (λ z. z.id.counter) p.1.1 in
    let same : s ≡ y.id.counter = ap (λ i. i.counter) e in
    absurd (omega arith))
    (numbered_apart (s + 1) a ops)

apart_in : (S C : List Member) → Facts S → ((m : Member) → Contains C m → Contains S m) → DistinctHashes C → DistinctIds (all_operations (changes C))
apart_in S [] facts inside d = λ i j x p q. absurd (omega arith)
apart_in S (m ∷ C) facts inside d =
    let again : DistinctIds (all_operations (changes C)) = apart_in S C facts (λ n c. inside n (Contains-tail m C n c)) (λ i j n p q. d (suc i) (suc j) n (omega arith) (omega arith)) in
    all_pairs_append (λ (x y : Operation). x.id ≢ y.id) (operations m.change) (all_operations (changes C))
    (numbered_apart m.change.start m.change.actor m.change.ops) again
    (λ x y cx cy e.
    let f = operation_of C y cy in
    let n = f.0 in
    let place = f.1 in
    let in_C = place.1 in
    let one : m ≡ n = one_change S facts m n (inside m (Contains-head m C)) (inside n (Contains-tail m C n place)) x y cx f.2 e in
    d 0 (suc place.0) n (omega arith) (omega arith) (ap (λ (k : Member). k.hash) (one ∙ sym place.2)))

pub distinct_ids_valid : (C : List Member) → Valid C → DistinctIds (all_operations (changes C))
distinct_ids_valid C v = apart_in C C (grounds_valid C v).facts (λ m c. c) (distinct_hashes C v)
