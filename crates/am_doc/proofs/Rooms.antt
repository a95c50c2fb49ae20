-- The next of the rows may be written, and there is room for it.
use Rattle.std.proofs.Common.{◌≡◌, ℕ, zero, suc, ◌+◌, ◌<◌, ◌≤◌, ◌^◌, List, [], ◌∷◌, ◌++◌, length, take, get_or, Option, Some, sym, ap, ◌∙◌, arith, subst, refl}
use Rattle.std.specs.Prelude.{IfSome}
use Rattle.std.specs.List.{AllByRecursion}
use Rattle.std.proofs.lemmas.List.{length-take-le}
use Rattle.am_types.specs.declared.Row.{Row}
use Rattle.am_types.specs.declared.Meta.{Meta}
use Rattle.am_fields.proofs.CanonicalLaws.{got}
use Rattle.am_fields.proofs.WriteLaws.{flat_room, take_next}
use Rattle.am_doccols.specs.Conditions.{HasRoom, HasMetaRoom, succ_count, dep_count}

pub all_at : {A : Type 0} (P : A → Type 0) (xs : List A) (i : ℕ) (x : A) → AllByRecursion P xs → i < length xs → x ≡ get_or xs i x → P x
all_at P [] i x all n e = absurd (omega arith)
all_at P (y ∷ xs) zero x all n e = let same : x ≡ y = e in subst P (sym same) all.0
all_at P (y ∷ xs) (suc i) x all n e = all_at P xs i x all.1 (omega arith) e

pub row_room : (rows : List Row) (i : ℕ) (row : Row) → i < length rows → row ≡ get_or rows i row → length rows ≤ 2 ^ 22 → succ_count rows ≤ 2 ^ 22 → HasRoom (take i rows) row.succs
row_room rows i row n e few few_succs =
    let room = flat_room (λ r. r.succs) rows i row n e in
    record { few = omega (arith, length-take-le i rows (omega arith)); few_succs = omega arith }

pub meta_room : (metas : List Meta) (i : ℕ) (meta : Meta) → i < length metas → meta ≡ get_or metas i meta → length metas ≤ 2 ^ 20 → dep_count metas ≤ 2 ^ 22 → HasMetaRoom (take i metas) meta.deps
meta_room metas i meta n e few few_deps =
    let room = flat_room (λ m. m.deps) metas i meta n e in
    record { few = omega (arith, length-take-le i metas (omega arith)); few_deps = omega arith }

-- a writer that holds those before an item holds it too once it is pushed
pub pushed_next : {A : Type 0} (xs : List A) (i : ℕ) (x x' : A) (old new : Option (List A)) → i < length xs → x ≡ get_or xs i x → x' ≡ x → old ≡ Some (take i xs) → IfSome old (λ ys. new ≡ Some (ys ++ x' ∷ [])) → new ≡ Some (take (i + 1) xs)
pushed_next xs i x x' old new n e same before step =
    got old (take i xs) (λ ys. new ≡ Some (ys ++ x' ∷ [])) before step
    ∙ ap (λ z. Some (take i xs ++ z ∷ [])) same
    ∙ ap Some (sym (take_next xs i x n e))

take_whole : {A : Type 0} (n : ℕ) (xs : List A) → length xs ≤ n → take n xs ≡ xs
take_whole zero [] h = refl
take_whole (suc n) [] h = refl
take_whole zero (x ∷ xs) h = absurd (omega arith)
take_whole (suc n) (x ∷ xs) h = ap (λ zs. x ∷ zs) (take_whole n xs (omega arith))

-- all of them
pub at_end : {A : Type 0} (n : ℕ) (xs : List A) (o : Option (List A)) → length xs ≤ n → o ≡ Some (take n xs) → o ≡ Some xs
at_end n xs o h e = e ∙ ap Some (take_whole n xs h)
