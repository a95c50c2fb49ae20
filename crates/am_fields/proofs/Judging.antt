-- Cells that are judged stretch by stretch.
--     Judged P n xs left now    of the first n cells, the last `left` are to be judged, and P holds of the others
use Rattle.std.proofs.Common.{◌≡◌, ℕ, Bool, ◌↔◌, zero, suc, ◌-◌, ◌≤◌, List, [], ◌∷◌, ◌++◌, length, length-append, take, drop, replicate, Option, Some, None, refl, sym, ap, subst, ◌∙◌, arith}
use Rattle.std.specs.Bool.{IsTrue}
use Rattle.std.specs.Prelude.{is_some, option_map}
use Rattle.std.specs.List.{AllByRecursion, zip}
use Rattle.am_fields.specs.Reading.{AllRead, AllReadAt}

pub record Judged {A : Type 0} (P : A → Type 0) (n : ℕ) (xs : List A) (left : ℕ) (now : List A) : Type 0 where
  pub enough : left ≤ length now
  pub back : AllByRecursion P (take left now) → AllByRecursion P (take n xs)
  pub on : AllByRecursion P (take n xs) → AllByRecursion P (take left now)
  pub behind : drop n xs ≡ drop left now

pub judged_none : {A : Type 0} (P : A → Type 0) (n : ℕ) (xs : List A) → n ≤ length xs → Judged P n xs n xs
judged_none P n xs h = record { enough = h; back = λ all. all; on = λ all. all; behind = refl }

take_more : {A : Type 0} (s now : List A) (left : ℕ) → length s ≤ left → take left (s ++ now) ≡ s ++ take (left - length s) now
take_more [] now left h = ap (λ k. take k now) (let e : left ≡ left - 0 = omega arith in e)
take_more (x ∷ s) now zero h = absurd (omega arith)
take_more (x ∷ s) now (suc left) h = ap (λ l. x ∷ l) (take_more s now left (omega arith) ∙ ap (λ k. s ++ take k now) (let e : left - length s ≡ suc left - length (x ∷ s) = omega arith in e))

drop_more : {A : Type 0} (s now : List A) (left : ℕ) → length s ≤ left → drop left (s ++ now) ≡ drop (left - length s) now
drop_more [] now left h = ap (λ k. drop k now) (let e : left ≡ left - 0 = omega arith in e)
drop_more (x ∷ s) now zero h = absurd (omega arith)
drop_more (x ∷ s) now (suc left) h = drop_more s now left (omega arith) ∙ ap (λ k. drop k now) (let e : left - length s ≡ suc left - length (x ∷ s) = omega arith in e)

pub joined : {A : Type 0} (P : A → Type 0) (s t : List A) → AllByRecursion P s → AllByRecursion P t → AllByRecursion P (s ++ t)
joined P [] t a b = b
joined P (x ∷ s) t a b = (a.0, joined P s t a.1 b)

pub parted : {A : Type 0} (P : A → Type 0) (s t : List A) → AllByRecursion P (s ++ t) → AllByRecursion P s × AllByRecursion P t
parted P [] t a = (tt, a)
parted P (x ∷ s) t a = let w = parted P s t a.1 in ((a.0, w.0), w.1)

first_of : {A : Type 0} (s now old : List A) (left k : ℕ) → old ≡ s ++ now → length s ≡ k → k ≤ left → take left old ≡ s ++ take (left - k) now
first_of s now old left k e l h = ap (take left) e ∙ take_more s now left (omega (arith, l)) ∙ ap (λ k. s ++ take (left - k) now) l

-- a stretch further, of which P holds
pub judged_more : {A : Type 0} (P : A → Type 0) (n : ℕ) (xs : List A) (left k : ℕ) (s now old : List A) → Judged P n xs left old → old ≡ s ++ now → length s ≡ k → k ≤ left → AllByRecursion P s → Judged P n xs (left - k) now
judged_more P n xs left k s now old j e l h holds =
    let first = first_of s now old left k e l h in
    record {
      enough = omega (arith, j.enough, ap length e, length-append s now, l);
      back = λ all. j.back (subst (AllByRecursion P) (sym first) (joined P s (take (left - k) now) holds all));
      on = λ all. (parted P s (take (left - k) now) (subst (AllByRecursion P) first (j.on all))).1;
      behind = j.behind ∙ ap (drop left) e ∙ drop_more s now left (omega (arith, l)) ∙ ap (λ k. drop (left - k) now) l;
    }

-- P holds of each cell of the next stretch, if of all
pub judged_next : {A : Type 0} (P : A → Type 0) (n : ℕ) (xs : List A) (left k : ℕ) (s now old : List A) → Judged P n xs left old → old ≡ s ++ now → length s ≡ k → k ≤ left → AllByRecursion P (take n xs) → AllByRecursion P s
judged_next P n xs left k s now old j e l h all =
    (parted P s (take (left - k) now) (subst (AllByRecursion P) (first_of s now old left k e l h) (j.on all))).0

pub judged_all : {A : Type 0} (P : A → Type 0) (n : ℕ) (xs : List A) (left : ℕ) (now : List A) → Judged P n xs left now → left ≤ 0 → AllByRecursion P (take n xs) × (now ≡ drop n xs)
judged_all P n xs zero now j h = (j.back tt, sym j.behind)
judged_all P n xs (suc left) now j h = absurd (omega arith)

-- ---- copies of a cell

pub all_copies : {A : Type 0} (P : A → Type 0) (x : A) (k : ℕ) → P x → AllByRecursion P (replicate k x)
all_copies P x zero p = tt
all_copies P x (suc k) p = (p, all_copies P x k p)

pub copy_of_all : {A : Type 0} (P : A → Type 0) (x : A) (k : ℕ) → 1 ≤ k → AllByRecursion P (replicate k x) → P x
copy_of_all P x zero h all = absurd (omega arith)
copy_of_all P x (suc k) h all = all.0

-- ---- rows of one place

pub AllRead-alike : {A B C : Type 0} (read : A → B → Option C) (x : A) (k : ℕ) (xs : List A) (ys : List B) → k ≤ length ys → AllReadAt read x (take k ys) → AllRead read xs (drop k ys) → AllRead read (replicate k x ++ xs) ys
AllRead-alike read x zero xs ys h at all = all
AllRead-alike read x (suc k) xs [] h at all = absurd (omega arith)
AllRead-alike read x (suc k) xs (y ∷ ys) h at all = (at.0, AllRead-alike read x k xs ys (omega arith) at.1 all)

pub AllRead-parts : {A B C : Type 0} (read : A → B → Option C) (x : A) (k : ℕ) (xs : List A) (ys : List B) → AllRead read (replicate k x ++ xs) ys → AllReadAt read x (take k ys) × AllRead read xs (drop k ys)
AllRead-parts read x zero xs ys all = (tt, all)
AllRead-parts read x (suc k) xs [] all = absurd all
AllRead-parts read x (suc k) xs (y ∷ ys) all = let w = AllRead-parts read x k xs ys all.1 in ((all.0, w.0), w.1)

-- ---- cells of two columns, of which the second is the same

pub zip_part : {A B : Type 0} (k : ℕ) (x : B) (xs : List A) (ys : List B) → k ≤ length xs → zip xs (replicate k x ++ ys) ≡ zip (take k xs) (replicate k x) ++ zip (drop k xs) ys
zip_part zero x xs ys h = refl
zip_part (suc k) x [] ys h = absurd (omega arith)
zip_part (suc k) x (y ∷ xs) ys h = ap (λ l. (y, x) ∷ l) (zip_part k x xs ys (omega arith))

pub length-zip_part : {A B : Type 0} (k : ℕ) (x : B) (xs : List A) → k ≤ length xs → length (zip (take k xs) (replicate k x)) ≡ k
length-zip_part zero x xs h = refl
length-zip_part (suc k) x [] h = absurd (omega arith)
length-zip_part (suc k) x (y ∷ xs) h = ap suc (length-zip_part k x xs (omega arith))

pub all_zipped : {A B : Type 0} (P : A × B → Type 0) (k : ℕ) (x : B) (xs : List A) → k ≤ length xs → AllByRecursion (λ y. P (y, x)) (take k xs) → AllByRecursion P (zip (take k xs) (replicate k x))
all_zipped P zero x xs h all = tt
all_zipped P (suc k) x [] h all = absurd (omega arith)
all_zipped P (suc k) x (y ∷ xs) h all = (all.0, all_zipped P k x xs (omega arith) all.1)

pub zipped_all : {A B : Type 0} (P : A × B → Type 0) (k : ℕ) (x : B) (xs : List A) → k ≤ length xs → AllByRecursion P (zip (take k xs) (replicate k x)) → AllByRecursion (λ y. P (y, x)) (take k xs)
zipped_all P zero x xs h all = tt
zipped_all P (suc k) x [] h all = absurd (omega arith)
zipped_all P (suc k) x (y ∷ xs) h all = (all.0, zipped_all P k x xs (omega arith) all.1)

-- ---- what is lent is there where what it is of is

pub same_some : {I V : Type 0} (item_of : I → V) (item : Option I) (value : Option V) → option_map item_of item ≡ value → is_some value ≡ is_some item
same_some item_of None value e = sym (ap is_some e)
same_some item_of (Some x) value e = sym (ap is_some e)

pub behind_one : {A : Type 0} (x : A) (xs ys : List A) (n : ℕ) → n ≡ 1 → xs ≡ x ∷ ys → ys ≡ drop n xs
behind_one x xs ys n e q = sym (ap (λ k. drop k xs) e ∙ ap (drop 1) q)

-- one row
pub one_read : {A B C : Type 0} (read : A → B → Option C) (x : A) (y : B) (ys ys' : List B) (n : ℕ) (b : Bool) → n ≡ 1 → ys ≡ y ∷ ys' → is_some (read x y) ≡ b → IsTrue b ↔ AllReadAt read x (take n ys)
one_read read x y ys ys' n b e q r =
    let row : take n ys ≡ y ∷ [] = ap (λ n. take n ys) e ∙ ap (take 1) q in
    (λ t. subst (AllReadAt read x) (sym row) (r ∙ t, tt), λ all. sym r ∙ (subst (AllReadAt read x) row all).0)

-- ---- what is behind

pub drop_stretch : {A : Type 0} (left k : ℕ) (s now old : List A) → old ≡ s ++ now → length s ≡ k → k ≤ left → drop left old ≡ drop (left - k) now
drop_stretch left k s now old e l h = ap (drop left) e ∙ drop_more s now left (omega (arith, l)) ∙ ap (λ k. drop (left - k) now) l

drop_none : {A : Type 0} (n : ℕ) (xs : List A) → length xs ≤ 0 → xs ≡ drop n xs
drop_none zero xs h = refl
drop_none (suc n) [] h = refl
drop_none (suc n) (x ∷ xs) h = absurd (omega arith)

pub drop_part : {A : Type 0} (left k : ℕ) (xs : List A) → k ≤ left → drop left xs ≡ drop (left - k) (drop k xs)
drop_part left zero xs h = ap (λ k. drop k xs) (let e : left ≡ left - 0 = omega arith in e)
drop_part zero (suc k) xs h = absurd (omega arith)
drop_part (suc left) (suc k) [] h = drop_none (suc left - suc k) [] (omega arith)
drop_part (suc left) (suc k) (x ∷ xs) h = drop_part left k xs (omega arith) ∙ ap (λ n. drop n (drop k xs)) (let e : left - k ≡ suc left - suc k = omega arith in e)

pub left_none : {A : Type 0} (left : ℕ) (xs : List A) → left ≤ 0 → drop left xs ≡ xs
left_none zero xs h = refl
left_none (suc left) xs h = absurd (omega arith)

pub least_zip : {A B : Type 0} (n : ℕ) (xs : List A) (ys : List B) → n ≤ length xs → n ≤ length ys → n ≤ length (zip xs ys)
least_zip zero xs ys g h = omega arith
least_zip (suc n) [] ys g h = absurd (omega arith)
least_zip (suc n) (x ∷ xs) [] g h = absurd (omega arith)
least_zip (suc n) (x ∷ xs) (y ∷ ys) g h = let more = least_zip n xs ys (omega arith) (omega arith) in omega (arith, more)
