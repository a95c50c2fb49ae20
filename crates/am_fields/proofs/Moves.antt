-- Places of one list of actors, written as those of another, and the numbers beside them.
use Rattle.std.proofs.Common.{◌≡◌, ℕ, ◌-◌, ◌^◌, List, [], ◌∷◌, ◌++◌, map, take, drop, Option, Some, None, refl, sym, ap, ◌∙◌, subst, arith, slice_get}
use Rattle.std.specs.Prelude.{replicate, IfSome, ℤ, pos}
use Rattle.std.specs.Option.{option_map}
use Rattle.std.proofs.lemmas.Int.{ints}
use Rattle.am_runs.proofs.Spelled.{map_take, map_drop}
use Rattle.am_runs.proofs.Taken.{map_taken}
use Rattle.am_delta.specs.Deltas.{AllBetween, AreMiddling}
use Rattle.am_delta.proofs.Steps.{between_middling}
use Rattle.am_fields.specs.Columns.{Name, place_of}
use Rattle.am_fields.specs.Moving.{moved}
use Rattle.am_fields.specs.Reading.{readings, AllRead, IsReading}
use Rattle.am_fields.proofs.Readings.{reads_from, readings-drop, AllRead-drop}

-- ---- by runs

pub moved_part : {A B : Type 0} (f : A → B) (k : ℕ) (x : A) (from new : List A) → from ≡ replicate k x ++ new → map f from ≡ replicate k (f x) ++ map f new
moved_part f k x from new e = ap (map f) e ∙ map_taken f k x new

pub moved_behind : {A B : Type 0} (f : A → B) (m : ℕ) (whole from : List A) → from ≡ drop m whole → map f from ≡ drop m (map f whole)
moved_behind f m whole from e = ap (map f) e ∙ map_drop f m whole

pub as_moved : {A : Type 0} (self new : Option (List A)) (k : ℕ) (x y : A) → x ≡ y → IfSome self (λ items. new ≡ Some (items ++ replicate k x)) → IfSome self (λ items. new ≡ Some (items ++ replicate k y))
as_moved self new k x y e h = subst (λ z. IfSome self (λ items. new ≡ Some (items ++ replicate k z))) e h

-- ---- places that name actors

moved_one : (known actors : List (List ℕ)) (x : Option ℕ) (name : Option (List ℕ)) → option_map (slice_get known) x ≡ option_map Some name → moved known actors x ≡ option_map (place_of actors) name
moved_one known actors None None e = refl
moved_one known actors None (Some a) e = absurd (cc)
moved_one known actors (Some p) None e = absurd (cc)
moved_one known actors (Some p) (Some a) e = let there : slice_get known p ≡ Some a = cc in ap (option_map (place_of actors)) there

moved_names : (known actors : List (List ℕ)) (xs : List (Option ℕ)) (names : List (Option (List ℕ))) → Name known xs names → map (moved known actors) xs ≡ map (option_map (place_of actors)) names
moved_names known actors [] [] e = refl
moved_names known actors [] (a ∷ names) e = absurd (cc)
moved_names known actors (x ∷ xs) [] e = absurd (cc)
moved_names known actors (x ∷ xs) (a ∷ names) e =
    let here : option_map (slice_get known) x ≡ option_map Some a = cc in
    let more : Name known xs names = cc in
    ap (λ z. z ∷ map (moved known actors) xs) (moved_one known actors x a here) ∙ ap (λ l. option_map (place_of actors) a ∷ l) (moved_names known actors xs names more)

pub moved_first : {C : Type 0} (known actors : List (List ℕ)) (actor : C → Option (List ℕ)) (n : ℕ) (xs : List (Option ℕ)) (cs : List C) → Name known xs (map actor cs) → take n (map (moved known actors) xs) ≡ map (option_map (place_of actors)) (map actor (take n cs))
moved_first known actors actor n xs cs e =
    ap (take n) (moved_names known actors xs (map actor cs) e) ∙ sym (map_take (option_map (place_of actors)) n (map actor cs)) ∙ ap (map (option_map (place_of actors))) (sym (map_take actor n cs))

pub first_of : {B C : Type 0} (number : C → B) (n : ℕ) (ys : List B) (cs : List C) → ys ≡ map number cs → take n ys ≡ map number (take n cs)
first_of number n ys cs e = ap (take n) e ∙ sym (map_take number n cs)

pub written_as : {A : Type 0} (old new : Option (List A)) (xs ys : List A) → xs ≡ ys → IfSome old (λ l. new ≡ Some (l ++ xs)) → IfSome old (λ l. new ≡ Some (l ++ ys))
written_as old new xs ys e h = subst (λ z. IfSome old (λ l. new ≡ Some (l ++ z))) e h

pub counters_middling : (values : List (Option ℤ)) → AllBetween (pos 0) (pos (2 ^ 53 - 1)) values → AreMiddling values
counters_middling values b = between_middling (pos 0) (pos (2 ^ 53 - 1)) values (omega (arith, ints), omega (arith, ints)) (omega (arith, ints), omega (arith, ints)) b

-- ---- columns that are read together

-- the columns behind, and what was written of those in front
pub record AreMoved {B C : Type 0} (known actors : List (List ℕ)) (read : Option ℕ → B → Option C) (actor : C → Option (List ℕ)) (number : C → B) (n : ℕ) (xs xs' : List (Option ℕ)) (ys ys' : List B) (shown : List C) : Type 0 where
  pub places : take n (map (moved known actors) xs) ≡ map (option_map (place_of actors)) (map actor (take n shown))
  pub numbers : take n ys ≡ map number (take n shown)
  pub all : AllRead read xs' ys'
  pub behind : readings read xs' ys' ≡ drop n shown

pub are_moved : {B C : Type 0} (known actors : List (List ℕ)) (read : Option ℕ → B → Option C) (actor : C → Option (List ℕ)) (number : C → B) (Within : C → Type 0) → IsReading known read actor number Within → (n : ℕ) (xs xs' : List (Option ℕ)) (ys ys' : List B) (shown : List C)
    → AllRead read xs ys → readings read xs ys ≡ shown → xs' ≡ drop n xs → ys' ≡ drop n ys → AreMoved known actors read actor number n xs xs' ys ys' shown
are_moved known actors read actor number Within reading n xs xs' ys ys' shown all e p q =
    let from = reads_from known read actor number Within reading xs ys all in
    let rest : AllRead read (drop n xs) (drop n ys) = AllRead-drop read n xs ys all in
    record {
      places = moved_first known actors actor n xs (readings read xs ys) from.names ∙ ap (λ cs. map (option_map (place_of actors)) (map actor (take n cs))) e;
      numbers = first_of number n ys (readings read xs ys) from.numbers ∙ ap (λ cs. map number (take n cs)) e;
      all = subst (λ l. AllRead read l ys') (sym p) (subst (AllRead read (drop n xs)) (sym q) rest);
      behind = ap (λ l. readings read l ys') p ∙ ap (readings read (drop n xs)) q ∙ readings-drop read n xs ys all ∙ ap (drop n) e;
    }
