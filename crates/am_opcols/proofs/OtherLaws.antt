-- Actors in a row.
--     insert_at     an insertion, as what stands before it and behind it
--     flat-next     the actors that one more operation names
--     first_of      an actor in front of others
use Rattle.std.proofs.Common.{◌≡◌, ℕ, zero, suc, ◌≤◌, List, [], ◌∷◌, ◌++◌, length, take, drop, sym, ap, ◌∙◌, arith, append_assoc, insert}
use Rattle.std.specs.List.{flat_map}
use Rattle.std.proofs.lemmas.List.{append-nil}
use Rattle.am_types.specs.declared.Op.{Op}
use Rattle.am_opcols.specs.Others.{actors_of}

pub insert_at : (known : List (List ℕ)) (i : ℕ) (actor : List ℕ) → i ≤ length known → take i known ++ actor ∷ drop i known ≡ insert known i actor
insert_at known zero actor n = grind arith
insert_at [] (suc i) actor n = absurd (omega arith)
insert_at (x ∷ known) (suc i) actor n = ap (λ zs. x ∷ zs) (insert_at known i actor (omega arith))

pub flat-next : (ops : List Op) (op : Op) → flat_map actors_of (ops ++ op ∷ []) ≡ flat_map actors_of ops ++ actors_of op
flat-next [] op = append-nil (actors_of op)
flat-next (o ∷ ops) op = ap (λ zs. actors_of o ++ zs) (flat-next ops op) ∙ sym (append_assoc (actors_of o) (flat_map actors_of ops) (actors_of op))

-- an actor in front of others
pub first_of : (actors known others' : List (List ℕ)) (first author : List ℕ) → actors ≡ insert known 0 first → first ≡ author → known ≡ others' → actors ≡ author ∷ others'
first_of actors known others' first author e f k =
    e ∙ sym (insert_at known 0 first (omega arith)) ∙ ap (λ x. x ∷ known) f ∙ ap (λ zs. author ∷ zs) k
