-- Lists of numbers and of texts are spelled where their entries are.
use Rattle.std.proofs.Common.{◌≡◌, ℕ, suc, zero, ◌<◌, List, [], ◌∷◌, ◌++◌, length, map, take, drop, Option, Some, None, ℤ, pos, neg_ℤ, refl, sym, ap, ◌∙◌, subst, arith}
use Rattle.std.specs.Prelude.{replicate}
use Rattle.std.specs.Option.{IfSome, option_map}
use Rattle.std.specs.List.{flat_map, AllByRecursion}
use Rattle.am_leb.specs.Leb.{uleb, leb, unsigned_value, signed_value}
use Rattle.am_leb.proofs.Answering.{IsBytes}
use Rattle.am_runs.specs.Items.{IsItem, unsigned_end, signed_end, text_end, text_spelling, text_of}
use Rattle.am_runs.specs.Runs.{Run, Repeat, Literal, Nulls, expansion, bytes_of, JoinsRuns}
use Rattle.am_runs.specs.Typed.{AllItems, JoinsUnsigned, JoinsSigned}
use Rattle.am_runs.specs.ItemLaws.{unsigned_reads, signed_reads, signed_again}
use Rattle.am_runs.proofs.Unique.{one_list}
use Rattle.am_runs.proofs.Opening.{joined}
use Rattle.am_runs.proofs.ItemsOf.{JoinsRuns-items}
use Rattle.am_runs.proofs.ItemIs.{text_is, unsigned_value-uleb, signed_value-leb, text_of-spelling}

abbrev pub AllBytes : List ℕ → Type 0
AllBytes bytes = AllByRecursion (λ b. b < 256) bytes

pub AllBytes-from : (x : List ℕ) → IsBytes x → AllBytes x
AllBytes-from [] f = tt
AllBytes-from (b ∷ x) f = (f 0, AllBytes-from x (λ i. f (suc i)))

pub IsBytes-from : (x : List ℕ) → AllBytes x → IsBytes x
IsBytes-from [] h i = omega arith
IsBytes-from (b ∷ x) h zero = h.0
IsBytes-from (b ∷ x) h (suc i) = IsBytes-from x h.1 i

pub left_bytes : (xs ys : List ℕ) → AllBytes (xs ++ ys) → AllBytes xs
left_bytes [] ys h = tt
left_bytes (x ∷ xs) ys h = (h.0, left_bytes xs ys h.1)

right_bytes : (xs ys : List ℕ) → AllBytes (xs ++ ys) → AllBytes ys
right_bytes [] ys h = h
right_bytes (x ∷ xs) ys h = right_bytes xs ys h.1

abbrev pub AllOf : List (Option (List ℕ)) → Type 0
AllOf list = AllByRecursion (λ entry. IfSome entry AllBytes) list

of_append : (xs ys : List (Option (List ℕ))) → AllOf xs → AllOf ys → AllOf (xs ++ ys)
of_append [] ys p q = q
of_append (x ∷ xs) ys p q = (p.0, of_append xs ys p.1 q)

of_repeat : (n : ℕ) (x : Option (List ℕ)) → IfSome x AllBytes → AllOf (replicate n x)
of_repeat zero x h = tt
of_repeat (suc n) x h = (h, of_repeat n x h)

pub of_literal : (items : List (List ℕ)) → AllBytes (joined items) → AllOf (map Some items)
of_literal [] h = tt
of_literal (x ∷ xs) h = (left_bytes x (joined xs) h, of_literal xs (right_bytes x (joined xs) h))

of_run : (run : Run) → AllBytes (bytes_of run) → AllOf (expansion run)
of_run (Repeat n item) h = of_repeat n (Some item) (right_bytes (leb (pos n)) item h)
of_run (Literal items) h = of_literal items (right_bytes (leb (neg_ℤ (pos (length items)))) (joined items) h)
of_run (Nulls k) h = of_repeat k None tt

of_runs : (runs : List Run) → AllBytes (flat_map bytes_of runs) → AllOf (flat_map expansion runs)
of_runs [] h = tt
of_runs (r ∷ rs) h = of_append (expansion r) (flat_map expansion rs) (of_run r (left_bytes (bytes_of r) (flat_map bytes_of rs) h)) (of_runs rs (right_bytes (bytes_of r) (flat_map bytes_of rs) h))

-- the entries of a list that bytes spell are of bytes
pub bytes_of_entries : (end : List ℕ → Option ℕ) (bytes : List ℕ) (list : List (Option (List ℕ))) → IsBytes bytes → JoinsRuns end bytes list → AllOf list
bytes_of_entries end bytes list f j = subst AllOf (sym j.3) (of_runs j.0 (subst AllBytes j.2 (AllBytes-from bytes f)))

-- where each item is the spelling of what it spells, so are the entries
pub respelled : {A : Type 0} (end : List ℕ → Option ℕ) (read : List ℕ → A) (spell : A → List ℕ) → ((x : List ℕ) → IsBytes x → IsItem end x → spell (read x) ≡ x) → (list : List (Option (List ℕ))) → AllItems end list → AllOf list → map (option_map spell) (map (option_map read) list) ≡ list
respelled end read spell f [] p q = refl
respelled end read spell f (None ∷ list) p q = ap (λ l. None ∷ l) (respelled end read spell f list p.1 q.1)
respelled end read spell f (Some x ∷ list) p q =
    let h = f x (IsBytes-from x q.0) p.0 in
    ap (λ y. Some y ∷ map (option_map spell) (map (option_map read) list)) h ∙ ap (λ l. Some x ∷ l) (respelled end read spell f list p.1 q.1)

text_again : (x : List ℕ) → IsBytes x → IsItem text_end x → text_spelling (text_of x) ≡ x
text_again x f e = let w = text_is x f e in ap text_spelling (ap text_of w.3 ∙ text_of-spelling w.0 w.2) ∙ sym w.3

pub joins_again : {A : Type 0} (end : List ℕ → Option ℕ) (read : List ℕ → A) (spell : A → List ℕ) → ((x : List ℕ) → IsBytes x → IsItem end x → spell (read x) ≡ x) → (bytes : List ℕ) (list : List (Option (List ℕ))) → IsBytes bytes → JoinsRuns end bytes list → JoinsRuns end bytes (map (option_map spell) (map (option_map read) list))
joins_again end read spell again bytes list f j = subst (JoinsRuns end bytes) (sym (respelled end read spell again list (JoinsRuns-items end bytes list j) (bytes_of_entries end bytes list f j))) j

pub joins_signed : (bytes : List ℕ) (list : List (Option (List ℕ))) → IsBytes bytes → JoinsRuns signed_end bytes list → JoinsRuns signed_end bytes (map (option_map leb) (map (option_map signed_value) list))
joins_signed = joins_again signed_end signed_value leb signed_again

pub joins_texts : (bytes : List ℕ) (list : List (Option (List ℕ))) → IsBytes bytes → JoinsRuns text_end bytes list → JoinsRuns text_end bytes (map (option_map text_spelling) (map (option_map text_of) list))
joins_texts = joins_again text_end text_of text_spelling text_again

pub map_drop : {A B : Type 0} (f : A → B) (n : ℕ) (xs : List A) → map f (drop n xs) ≡ drop n (map f xs)
map_drop f zero xs = refl
map_drop f (suc n) [] = refl
map_drop f (suc n) (x ∷ xs) = map_drop f n xs

-- ---- uniqueness

read_back : {A : Type 0} (read : List ℕ → A) (spell : A → List ℕ) → ((a : A) → read (spell a) ≡ a) → (xs : List (Option A)) → map (option_map read) (map (option_map spell) xs) ≡ xs
read_back read spell f [] = refl
read_back read spell f (None ∷ xs) = ap (λ l. None ∷ l) (read_back read spell f xs)
read_back read spell f (Some a ∷ xs) = ap (λ y. Some y ∷ map (option_map read) (map (option_map spell) xs)) (f a) ∙ ap (λ l. Some a ∷ l) (read_back read spell f xs)

pub one_unsigned : (bytes : List ℕ) (xs ys : List (Option ℕ)) → JoinsUnsigned bytes xs → JoinsUnsigned bytes ys → xs ≡ ys
one_unsigned bytes xs ys p q = sym (read_back unsigned_value uleb unsigned_value-uleb xs) ∙ ap (map (option_map unsigned_value)) (one_list unsigned_end unsigned_reads bytes _ _ p q) ∙ read_back unsigned_value uleb unsigned_value-uleb ys

pub one_signed : (bytes : List ℕ) (xs ys : List (Option ℤ)) → JoinsSigned bytes xs → JoinsSigned bytes ys → xs ≡ ys
one_signed bytes xs ys p q = sym (read_back signed_value leb signed_value-leb xs) ∙ ap (map (option_map signed_value)) (one_list signed_end signed_reads bytes _ _ p q) ∙ read_back signed_value leb signed_value-leb ys

-- ---- the next entries, all alike

pub map_take : {A B : Type 0} (f : A → B) (n : ℕ) (xs : List A) → map f (take n xs) ≡ take n (map f xs)
map_take f zero xs = refl
map_take f (suc n) [] = refl
map_take f (suc n) (x ∷ xs) = ap (λ l. f x ∷ l) (map_take f n xs)

pub map_replicate : {A B : Type 0} (f : A → B) (n : ℕ) (x : A) → map f (replicate n x) ≡ replicate n (f x)
map_replicate f zero x = refl
map_replicate f (suc n) x = ap (λ l. f x ∷ l) (map_replicate f n x)

pub like_mapped : {A B : Type 0} (f : A → B) (list : List A) (k : ℕ) (x : A) (y : B) → y ≡ f x → take k list ≡ replicate k x → take k (map f list) ≡ replicate k y
like_mapped f list k x y v e = sym (map_take f k list) ∙ ap (map f) e ∙ map_replicate f k x ∙ ap (replicate k) (sym v)
