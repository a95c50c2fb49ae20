-- Pushing keeps the runs in canonical order.
use Rattle.std.proofs.Common.{◌≡◌, ◌≢◌, ℕ, suc, List, [], ◌∷◌, ◌++◌, Some, None, refl, sym, ◌∙◌, arith, append_assoc}
use Rattle.std.specs.List.{flat_map}
use Rattle.am_runs.specs.Runs.{Run, Repeat, Literal, Nulls}
use Rattle.am_runs.specs.Canonical.{NoEqualNeighbours, IsTight, first_of, last_of, first_entry, AreLiteral, AreCanonical}
use Rattle.am_runs.specs.Pending.{Chain, joined_back}

-- the same runs from the left
abbrev pub from_left : List Run → List Run → List Run
from_left [] runs = runs
from_left (d ∷ done) runs = from_left done (d ∷ runs)

pub flat_map-from_left : {A : Type 0} (f : Run → List A) (done runs : List Run) → flat_map f (from_left done runs) ≡ joined_back f done ++ flat_map f runs
flat_map-from_left f [] runs = refl
flat_map-from_left f (d ∷ done) runs = flat_map-from_left f done (d ∷ runs) ∙ sym (append_assoc (joined_back f done) (f d) (flat_map f runs))

canonical_before : (p : Run) (done runs : List Run) → Chain p done → AreCanonical (p ∷ runs) → AreCanonical (from_left done (p ∷ runs))
canonical_before p [] runs c a = a
canonical_before p (d ∷ done) runs c a = canonical_before d done (p ∷ runs) c.2 (tight_of d done c.2, c.1, a)
  where
    tight_of : (d : Run) (done : List Run) → Chain d done → IsTight d
    tight_of d [] c = c
    tight_of d (e ∷ done) c = c.0

-- what `finish` writes is in canonical order
pub canonical_from_chain : (p : Run) (done : List Run) → Chain p done → AreCanonical (from_left done (p ∷ []))
canonical_from_chain p [] c = c
canonical_from_chain p (d ∷ done) c = canonical_before p (d ∷ done) [] c c.0

-- ---- the ways of `push`

-- another pending run with the same first entry
instead : (p q : Run) (done : List Run) → IsTight q → first_entry p ≡ first_entry q → ((d : Run) → AreLiteral d q → AreLiteral d p) → Chain p done → Chain q done
instead p q [] t e l c = t
instead p q (d ∷ done) t e l c = (t, ((λ h. c.1.0 (h ∙ sym e)), (λ a. c.1.1 (l d a))), c.2)

tight_of : (p : Run) (done : List Run) → Chain p done → IsTight p
tight_of p [] c = c
tight_of p (d ∷ done) c = c.0

never : (d : Run) (n : ℕ) (y : List ℕ) (p : Run) → AreLiteral d (Repeat n y) → AreLiteral d p
never (Repeat m x) n y p a = absurd a
never (Literal xs) n y p a = absurd a
never (Nulls k) n y p a = absurd a

never_null : (d : Run) (k : ℕ) (p : Run) → AreLiteral d (Nulls k) → AreLiteral d p
never_null (Repeat m x) k p a = absurd a
never_null (Literal xs) k p a = absurd a
never_null (Nulls j) k p a = absurd a

both_literal : (d : Run) (xs ys : List (List ℕ)) → AreLiteral d (Literal xs) → AreLiteral d (Literal ys)
both_literal (Repeat m x) xs ys a = absurd a
both_literal (Literal zs) xs ys a = tt
both_literal (Nulls j) xs ys a = absurd a

pub null_more : (k : ℕ) (done : List Run) → Chain (Nulls k) done → Chain (Nulls (suc k)) done
null_more k done c = instead (Nulls k) (Nulls (suc k)) done tt refl (λ d a. never_null d (suc k) (Nulls k) a) c

pub item_after_nulls : (k : ℕ) (x : List ℕ) (done : List Run) → Chain (Nulls k) done → Chain (Literal (x ∷ [])) (Nulls k ∷ done)
item_after_nulls k x done c = (tt, ((λ e. (cc)), λ a. a), c)

pub same_after_repeat : (n : ℕ) (y : List ℕ) (done : List Run) → Chain (Repeat n y) done → Chain (Repeat (suc n) y) done
same_after_repeat n y done c = instead (Repeat n y) (Repeat (suc n) y) done (omega (arith, tight_of (Repeat n y) done c)) refl (λ d a. never d (suc n) y (Repeat n y) a) c

pub other_after_repeat : (n : ℕ) (x y : List ℕ) (done : List Run) → x ≢ y → Chain (Repeat n y) done → Chain (Literal (x ∷ [])) (Repeat n y ∷ done)
other_after_repeat n x y done h c = (tt, ((λ e. h (let q : x ≡ y = cc in q)), λ a. a), c)

pub null_after_repeat : (n : ℕ) (y : List ℕ) (done : List Run) → Chain (Repeat n y) done → Chain (Nulls 1) (Repeat n y ∷ done)
null_after_repeat n y done c = (tt, ((λ e. (cc)), λ a. a), c)

last_of-push : (items : List (List ℕ)) (y : List ℕ) → last_of (items ++ y ∷ []) ≡ Some y
last_of-push [] y = refl
last_of-push (x ∷ []) y = refl
last_of-push (x ∷ z ∷ items) y = last_of-push (z ∷ items) y

pub null_after_literal : (front : List (List ℕ)) (y : List ℕ) (done : List Run) → Chain (Literal (front ++ y ∷ [])) done → Chain (Nulls 1) (Literal (front ++ y ∷ []) ∷ done)
null_after_literal front y done c = (tt, ((λ e. (let q : Some y ≡ None = sym (last_of-push front y) ∙ e in cc)), λ a. a), c)

pub neighbours_push : (front : List (List ℕ)) (y x : List ℕ) → y ≢ x → NoEqualNeighbours (front ++ y ∷ []) → NoEqualNeighbours ((front ++ y ∷ []) ++ x ∷ [])
neighbours_push [] y x h n = (h, tt)
neighbours_push (a ∷ []) y x h n = (n.0, (h, tt))
neighbours_push (a ∷ b ∷ front) y x h n = (n.0, neighbours_push (b ∷ front) y x h n.1)

first_of-push : (front : List (List ℕ)) (y x : List ℕ) → first_of (front ++ y ∷ []) ≡ first_of ((front ++ y ∷ []) ++ x ∷ [])
first_of-push [] y x = refl
first_of-push (a ∷ front) y x = refl

pub other_after_literal : (front : List (List ℕ)) (y x : List ℕ) (done : List Run) → y ≢ x → Chain (Literal (front ++ y ∷ [])) done → Chain (Literal ((front ++ y ∷ []) ++ x ∷ [])) done
other_after_literal front y x done h c =
    instead (Literal (front ++ y ∷ [])) (Literal ((front ++ y ∷ []) ++ x ∷ [])) done
    (neighbours_push front y x h (tight_of (Literal (front ++ y ∷ [])) done c)) (first_of-push front y x) (λ d a. both_literal d _ _ a) c

pub same_after_one : (y : List ℕ) (done : List Run) → Chain (Literal (y ∷ [])) done → Chain (Repeat 2 y) done
same_after_one y done c = instead (Literal (y ∷ [])) (Repeat 2 y) done (omega arith) refl (λ d a. never d 2 y (Literal (y ∷ [])) a) c

neighbours_front : (front : List (List ℕ)) (z y : List ℕ) → NoEqualNeighbours ((front ++ z ∷ []) ++ y ∷ []) → NoEqualNeighbours (front ++ z ∷ []) × (z ≢ y)
neighbours_front [] z y n = (tt, n.0)
neighbours_front (a ∷ []) z y n = ((n.0, tt), n.1.0)
neighbours_front (a ∷ b ∷ front) z y n = let w = neighbours_front (b ∷ front) z y n.1 in ((n.0, w.0), w.1)

pub same_after_literal : (front : List (List ℕ)) (z y : List ℕ) (done : List Run) → Chain (Literal ((front ++ z ∷ []) ++ y ∷ [])) done → Chain (Repeat 2 y) (Literal (front ++ z ∷ []) ∷ done)
same_after_literal front z y done c =
    let w = neighbours_front front z y (tight_of (Literal ((front ++ z ∷ []) ++ y ∷ [])) done c) in (
      omega arith,
      ((λ e. w.1 (let q : Some z ≡ Some y = sym (last_of-push front z) ∙ e in cc)), λ a. a),
      instead (Literal ((front ++ z ∷ []) ++ y ∷ [])) (Literal (front ++ z ∷ [])) done w.0 (sym (first_of-push front z y)) (λ d a. both_literal d _ _ a) c,
    )
