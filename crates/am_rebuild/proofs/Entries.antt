-- Entries as members.
use Rattle.std.proofs.Common.{ℕ, zero, suc, get_or, ◌≡◌, ◌+◌, ◌<◌, List, [], ◌∷◌, ◌++◌, take, Some, length, ap, refl, sym, ◌∙◌, arith}
use Rattle.std.specs.Prelude.{slice_get}
use Rattle.std.specs.List.{sum_by}
use Rattle.std.proofs.lemmas.List.{length-append}
use Rattle.std.proofs.lemmas.List.Sums.{sum_by-cons}
use Rattle.am_types.specs.declared.Hash.{Hash}
use Rattle.am_types.specs.declared.Op.{Op}
use Rattle.am_types.specs.declared.Change.{Change}
use Rattle.am_types.specs.Operations.{numbered, operations, all_operations}
use Rattle.am_delivery.specs.Waiting.{members_of}
use Rattle.am_histories.specs.Rebuilt.{hash_at}

pub hash_there : (es : List (Hash × Change)) (k : ℕ) (d : Hash × Change) → k < length es → (get_or es k d).0 ≡ hash_at (members_of es) k
hash_there [] k d l = absurd (omega arith)
hash_there (e ∷ es) zero d l = refl
hash_there (e ∷ es) (suc k) d l = hash_there es k d (omega arith)

-- one more of a list
pub take_next : {X : Type 0} (xs : List X) (i : ℕ) (x : X) → slice_get xs i ≡ Some x → take (suc i) xs ≡ take i xs ++ x ∷ []
take_next [] i x e = absurd (cc)
take_next (y ∷ ys) zero x e = let same : y ≡ x = cc in ap (λ z. z ∷ []) same
take_next (y ∷ ys) (suc i) x e = ap (λ l. y ∷ l) (take_next ys i x e)

-- ---- operations

numbered_count : (n : ℕ) (a : List ℕ) (ops : List Op) → length (numbered n a ops) ≡ length ops
numbered_count n a [] = refl
numbered_count n a (op ∷ ops) = ap suc (numbered_count (n + 1) a ops)

pub operation_count : (cs : List Change) → sum_by (λ (c : Change). length c.ops) cs ≡ length (all_operations cs)
operation_count [] = refl
operation_count (c ∷ cs) =
    let again = operation_count cs in
    let one = numbered_count c.start c.actor c.ops in
    let both = length-append (operations c) (all_operations cs) in
    sum_by-cons (λ (c : Change). length c.ops) c cs ∙ (λ i. sym one i + again i) ∙ sym both
