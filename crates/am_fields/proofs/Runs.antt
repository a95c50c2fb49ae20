-- Runs of actions, of lengths and of letters.
use Rattle.std.proofs.Common.{◌≡◌, ℕ, zero, suc, ◌-◌, ◌≤◌, List, [], ◌∷◌, ◌++◌, length, take, drop, map, replicate, Option, Some, None, refl, sym, ap, ◌∙◌, subst, arith}
use Rattle.std.specs.Prelude.{unwrap_or}
use Rattle.std.proofs.lemmas.List.{drop_at, length-map, length-replicate}
use Rattle.am_runs.proofs.Spelled.{map_take}
use Rattle.am_types.specs.declared.RawValue.{RawValue}
use Rattle.am_values.specs.Letters.{letter}
use Rattle.am_fields.specs.Extras.{blank}
use Rattle.am_fields.specs.Filling.{filled, read_as, IsFull}
use Rattle.am_fields.specs.Groups.{IsAction, AreActions, givens, counts}
use Rattle.am_fields.proofs.Copies.{actions_behind}
use Rattle.am_fields.proofs.Filled.{filled_piece, full_past}

-- ---- actions

pub givens_alike : (k a : ℕ) (xs new : List (Option ℕ)) → xs ≡ replicate k (Some a) ++ new → givens xs ≡ replicate k a ++ givens new
givens_alike k a xs new e = ap givens e ∙ runs k
  where
    runs : (k : ℕ) → givens (replicate k (Some a) ++ new) ≡ replicate k a ++ givens new
    runs zero = refl
    runs (suc k) = ap (λ l. a ∷ l) (runs k)

pub actions_past : (k : ℕ) (x : Option ℕ) (xs new : List (Option ℕ)) → xs ≡ replicate k x ++ new → AreActions xs → AreActions new
actions_past k x xs new e all = subst AreActions (ap (drop k) e ∙ drop_at (replicate k x) new k (length-replicate k x)) (actions_behind k xs all)

pub first_action : (k : ℕ) (x : Option ℕ) (xs new : List (Option ℕ)) → xs ≡ replicate k x ++ new → 1 ≤ k → AreActions xs → IsAction x
first_action zero x xs new e some all = absurd (omega (arith, some))
first_action (suc k) x xs new e some all = let known : AreActions (replicate (suc k) x ++ new) = subst AreActions e all in known.0

-- ---- lengths

mapped_alike : {A B : Type 0} (f : A → B) (k : ℕ) (x : A) → map f (replicate k x) ≡ replicate k (f x)
mapped_alike f zero x = refl
mapped_alike f (suc k) x = ap (λ l. f x ∷ l) (mapped_alike f k x)

pub counts_alike : (k : ℕ) (x : Option ℕ) (xs : List (Option ℕ)) → take k xs ≡ replicate k x → take k (counts xs) ≡ replicate k (unwrap_or x 0)
counts_alike k x xs e = sym (map_take (λ n. unwrap_or n 0) k xs) ∙ ap counts e ∙ mapped_alike (λ n. unwrap_or n 0) k x

-- ---- letters

pub record AreLettersOf (n : ℕ) (bs : List ℕ) (xs ys : List (Option RawValue)) : Type 0 where
  pub few : length bs ≤ n
  pub full : IsFull (n - length bs) ys
  pub letters : read_as blank (filled None n xs) ≡ map letter bs ++ read_as blank (filled None (n - length bs) ys)

read_both : (bs : List ℕ) (zs : List (Option RawValue)) → read_as blank (map (λ b. Some (letter b)) bs ++ zs) ≡ map letter bs ++ read_as blank zs
read_both [] zs = refl
read_both (b ∷ bs) zs = ap (λ l. letter b ∷ l) (read_both bs zs)

pub letters_piece : (n : ℕ) (bs : List ℕ) (xs ys : List (Option RawValue)) → IsFull n xs → xs ≡ map (λ b. Some (letter b)) bs ++ ys → AreLettersOf n bs xs ys
letters_piece n [] xs ys full e =
    let same : n ≡ n - 0 = omega arith in
    record { few = omega arith; full = subst (λ m. IsFull m ys) same (subst (IsFull n) e full); letters = ap (λ l. read_as blank (filled None n l)) e ∙ ap (λ m. read_as blank (filled None m ys)) same }
letters_piece n (b ∷ bs) xs ys full e =
    let part : List (Option RawValue) = map (λ b. Some (letter b)) (b ∷ bs) in
    let size : length part ≡ length (b ∷ bs) = length-map (b ∷ bs) (λ b. Some (letter b)) in
    let w = full_past n (length (b ∷ bs)) part xs ys full (omega arith) size e in
    record {
      few = w.0;
      full = w.1;
      letters = ap (read_as blank) (filled_piece None n (length (b ∷ bs)) part xs ys full (omega arith) size e) ∙ read_both (b ∷ bs) (filled None (n - length (b ∷ bs)) ys);
    }
