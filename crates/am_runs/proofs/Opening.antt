-- What is opened is what stands first, and the other way round.
use Rattle.std.proofs.Common.{◌≡◌, ℕ, suc, zero, ◌+◌, ◌^◌, ◌<◌, ◌≤◌, Bool, true, false, List, [], ◌∷◌, ◌++◌, length, take, drop, Option, Some, None, Result, Ok, Err, ℤ, pos, negsuc, neg_ℤ, refl, sym, ap, ◌∙◌, subst, arith, append_assoc}
use Rattle.std.specs.List.{flat_map, AllByRecursion}
use Rattle.std.proofs.lemmas.List.{take_at, drop_at, length-replicate, length-map, take-append-drop, get_or-drop}
use Rattle.am_leb.specs.Leb.{leb, uleb}
use Rattle.am_leb.specs.Reading.{first_unsigned, first_signed, from_magnitude}
use Rattle.am_leb.specs.declared.LebFault.{LebFault}
use Rattle.am_leb.proofs.Answering.{IsBytes, first_signed-leb, first_signed-fits, first_signed-front, first_unsigned-front, first_unsigned-uleb}
use Rattle.am_runs.specs.declared.place.Kind.{Kind}
use Rattle.am_runs.specs.declared.place.Kind.TheVariants as kinds
use Rattle.am_runs.specs.Items.{IsItem, ReadsItems}
use Rattle.am_runs.specs.Runs.{Run, Repeat, Literal, Nulls, bytes_of, IsRun, BeginsRun}
use Rattle.am_runs.specs.Walking.{Place, open_nulls, open_repeat, open_at, open_by, open_run, and_behind, behind_items}

abbrev pub joined : List (List ℕ) → List ℕ
joined items = flat_map (λ item. item) items

-- where a run begins
abbrev pub start_of : Run → List ℕ → Place
start_of (Repeat n item) rest = record { kind = kinds.Repeat; count = n; item = item; rest = rest }
start_of (Literal items) rest = record { kind = kinds.Literal; count = length items; item = []; rest = joined items ++ rest }
start_of (Nulls k) rest = record { kind = kinds.Nulls; count = k; item = []; rest = rest }

open_run-number : (end : List ℕ → Option ℕ) (negative : Bool) (n : ℕ) (tail : List ℕ) → n < 2 ^ 63 → open_run end (leb (from_magnitude negative n) ++ tail) ≡ open_at end (from_magnitude negative n) tail
open_run-number end negative n tail h =
    let z = from_magnitude negative n in
    ap (open_by end (leb z ++ tail)) (first_signed-leb negative n tail h) ∙ ap (open_at end z) (drop_at (leb z) tail (length (leb z)) refl)

open_repeat-item : (end : List ℕ → Option ℕ) → ReadsItems end → (n : ℕ) (item rest : List ℕ) → IsItem end item → open_repeat n (item ++ rest) (end (item ++ rest)) ≡ Some (start_of (Repeat n item) rest)
open_repeat-item end reads n item rest h =
    ap (open_repeat n (item ++ rest)) (reads.again item rest h)
    ∙ ap (λ (x : List ℕ). Some (record { kind = kinds.Repeat; count = n; item = x; rest = drop (length item) (item ++ rest) })) (take_at item rest (length item) refl)
    ∙ ap (λ (x : List ℕ). Some (record { kind = kinds.Repeat; count = n; item = item; rest = x })) (drop_at item rest (length item) refl)

open_nulls-count : (k : ℕ) (rest : List ℕ) → suc k < 2 ^ 64 → open_nulls (uleb (suc k) ++ rest) (first_unsigned (uleb (suc k) ++ rest)) ≡ Some (start_of (Nulls (suc k)) rest)
open_nulls-count k rest h =
    ap (open_nulls (uleb (suc k) ++ rest)) (first_unsigned-uleb (suc k) rest h)
    ∙ ap (λ (x : List ℕ). Some (record { kind = kinds.Nulls; count = suc k; item = []; rest = x })) (drop_at (uleb (suc k)) rest (length (uleb (suc k))) refl)

-- a run that stands first is opened
pub open_run-run : (end : List ℕ → Option ℕ) → ReadsItems end → (run : Run) (rest : List ℕ) → IsRun end run → open_run end (bytes_of run ++ rest) ≡ Some (start_of run rest)
open_run-run end reads (Repeat zero item) rest h = absurd (omega arith)
open_run-run end reads (Repeat (suc n) item) rest h =
    ap (open_run end) (append_assoc (leb (pos (suc n))) item rest)
    ∙ open_run-number end false (suc n) (item ++ rest) h.1
    ∙ open_repeat-item end reads (suc n) item rest h.2
open_run-run end reads (Literal []) rest h = absurd (omega arith)
open_run-run end reads (Literal (x ∷ xs)) rest h =
    ap (open_run end) (append_assoc (leb (negsuc (length xs))) (joined (x ∷ xs)) rest)
    ∙ open_run-number end true (length xs) (joined (x ∷ xs) ++ rest) (omega (arith, h.1))
open_run-run end reads (Nulls zero) rest h = absurd (omega arith)
open_run-run end reads (Nulls (suc k)) rest h =
    ap (open_run end) (append_assoc (leb (pos 0)) (uleb (suc k)) rest)
    ∙ open_run-number end false 0 (uleb (suc k) ++ rest) (omega arith)
    ∙ open_nulls-count k rest h.1

abbrev pub OpensAs : Kind → (List ℕ → Option ℕ) → List ℕ → ℕ → List ℕ → Type 0
OpensAs kinds.Literal end bytes count rest = (m : ℕ) × (count ≡ suc m) × (m < 2 ^ 63) × (bytes ≡ leb (negsuc m) ++ rest)
OpensAs kinds.Repeat end bytes count rest = BeginsRun end bytes count rest
OpensAs kinds.Nulls end bytes count rest = BeginsRun end bytes count rest

abbrev pub Opens : (List ℕ → Option ℕ) → List ℕ → Place → Type 0
Opens end bytes p = OpensAs p.kind end bytes p.count p.rest

nulls_open : (bytes : List ℕ) (n len : ℕ) (p : Place) (end : List ℕ → Option ℕ) (whole : List ℕ) → (n < 2 ^ 64) × (len ≤ length bytes) × (bytes ≡ uleb n ++ drop len bytes) → whole ≡ leb (pos 0) ++ bytes → open_nulls bytes (Ok (n, len)) ≡ Some p → Opens end whole p
nulls_open bytes zero len p end whole f w e = absurd (cc)
nulls_open bytes (suc k) len p end whole f w e =
    let q : ◌≡◌ {A = Place} (record { kind = kinds.Nulls; count = suc k; item = []; rest = drop len bytes }) p = cc in
    subst (Opens end whole) q (Nulls (suc k), (omega arith, f.0), (w ∙ ap (λ s. leb (pos 0) ++ s) f.2 ∙ sym (append_assoc (leb (pos 0)) (uleb (suc k)) (drop len bytes))), sym (length-replicate (suc k) None))

unsigned_open : (bytes : List ℕ) (r : Result (ℕ × ℕ) LebFault) (p : Place) (end : List ℕ → Option ℕ) (whole : List ℕ) → IsBytes bytes → first_unsigned bytes ≡ r → whole ≡ leb (pos 0) ++ bytes → open_nulls bytes r ≡ Some p → Opens end whole p
unsigned_open bytes (Err d) p end whole f r w e = absurd (cc)
unsigned_open bytes (Ok x) p end whole f r w e = nulls_open bytes x.0 x.1 p end whole (first_unsigned-front bytes x.0 x.1 f r) w e

repeat_open : (end : List ℕ → Option ℕ) → ReadsItems end → (n : ℕ) (bytes : List ℕ) (o : Option ℕ) (p : Place) (whole : List ℕ) → 1 ≤ n → n < 2 ^ 63 → end bytes ≡ o → whole ≡ leb (pos n) ++ bytes → open_repeat n bytes o ≡ Some p → Opens end whole p
repeat_open end reads n bytes None p whole g h r w e = absurd (cc)
repeat_open end reads n bytes (Some len) p whole g h r w e =
    let q : ◌≡◌ {A = Place} (record { kind = kinds.Repeat; count = n; item = take len bytes; rest = drop len bytes }) p = cc in
    let item = take len bytes in
    subst (Opens end whole) q (Repeat n item, (g, h, (reads.found bytes len r).1), (w ∙ ap (λ s. leb (pos n) ++ s) (sym (take-append-drop len bytes)) ∙ sym (append_assoc (leb (pos n)) item (drop len bytes))), sym (length-replicate n (Some item)))

literal_open : (end : List ℕ → Option ℕ) (n : ℕ) (bytes : List ℕ) (p : Place) (whole : List ℕ) → n < 2 ^ 63 → whole ≡ leb (negsuc n) ++ bytes → ◌≡◌ {A = Option Place} (Some (record { kind = kinds.Literal; count = suc n; item = []; rest = bytes })) (Some p) → Opens end whole p
literal_open end n bytes p whole h w e =
    let q : ◌≡◌ {A = Place} (record { kind = kinds.Literal; count = suc n; item = []; rest = bytes }) p = cc in
    subst (Opens end whole) q (n, refl, h, w)

IsBytes-drop : (n : ℕ) (bytes : List ℕ) → IsBytes bytes → IsBytes (drop n bytes)
IsBytes-drop n bytes f i = rw get_or-drop (f (n + i))

number_open : (end : List ℕ → Option ℕ) → ReadsItems end → (negative : Bool) (n : ℕ) (tail : List ℕ) (p : Place) (whole : List ℕ) → IsBytes tail → n < 2 ^ 63 → whole ≡ leb (from_magnitude negative n) ++ tail → open_at end (from_magnitude negative n) tail ≡ Some p → Opens end whole p
number_open end reads false zero tail p whole f h w e = unsigned_open tail (first_unsigned tail) p end whole f refl w e
number_open end reads false (suc n) tail p whole f h w e = repeat_open end reads (suc n) tail (end tail) p whole (omega arith) h refl w e
number_open end reads true n tail p whole f h w e = literal_open end n tail p whole h w e

signed_open : (end : List ℕ → Option ℕ) → ReadsItems end → (bytes : List ℕ) (r : Result (ℤ × ℕ) LebFault) (p : Place) → IsBytes bytes → first_signed bytes ≡ r → open_by end bytes r ≡ Some p → Opens end bytes p
signed_open end reads bytes (Err d) p f r e = absurd (cc)
signed_open end reads bytes (Ok x) p f r e =
    let w = first_signed-fits bytes x.0 x.1 r in
    number_open end reads w.0 w.1 (drop x.1 bytes) p bytes (IsBytes-drop x.1 bytes f) w.2
    (first_signed-front bytes x.0 x.1 f r ∙ ap (λ z. leb z ++ drop x.1 bytes) w.3)
    (ap (λ z. open_at end z (drop x.1 bytes)) (sym w.3) ∙ e)

-- what was opened stands first
pub opens : (end : List ℕ → Option ℕ) → ReadsItems end → (bytes : List ℕ) (p : Place) → IsBytes bytes → open_run end bytes ≡ Some p → Opens end bytes p
opens end reads bytes p f e = signed_open end reads bytes (first_signed bytes) p f refl e

-- items that stand first are passed
pub behind_items-joined : (end : List ℕ → Option ℕ) → ReadsItems end → (items : List (List ℕ)) (rest : List ℕ) → AllByRecursion (IsItem end) items → behind_items end (length items) (joined items ++ rest) ≡ Some rest
unfolding behind_items
behind_items-joined end reads [] rest h = refl
behind_items-joined end reads (x ∷ xs) rest h =
    ap (λ bytes. and_behind (behind_items end (length xs)) bytes (end bytes)) (append_assoc x (joined xs) rest)
    ∙ ap (and_behind (behind_items end (length xs)) (x ++ (joined xs ++ rest))) (reads.again x (joined xs ++ rest) h.0)
    ∙ ap (behind_items end (length xs)) (drop_at x (joined xs ++ rest) (length x) refl)
    ∙ behind_items-joined end reads xs rest h.1

-- what was passed is items
pub record PassesItems (end : List ℕ → Option ℕ) (n : ℕ) (bytes rest : List ℕ) : Type 0 where
  pub items : List (List ℕ)
  pub each : AllByRecursion (IsItem end) items
  pub count : length items ≡ n
  pub front : bytes ≡ joined items ++ rest

and_passes : (end : List ℕ → Option ℕ) → ReadsItems end → (n : ℕ) (behind : List ℕ → Option (List ℕ)) → ((b r : List ℕ) → behind b ≡ Some r → PassesItems end n b r) → (bytes : List ℕ) (o : Option ℕ) (rest : List ℕ) → end bytes ≡ o → and_behind behind bytes o ≡ Some rest → PassesItems end (suc n) bytes rest
and_passes end reads n behind f bytes None rest r e = absurd (cc)
and_passes end reads n behind f bytes (Some len) rest r e =
    let w = f (drop len bytes) rest e in
    record {
      items = take len bytes ∷ w.items;
      each = ((reads.found bytes len r).1, w.each);
      count = ap suc w.count;
      front = sym (take-append-drop len bytes) ∙ ap (λ s. take len bytes ++ s) w.front ∙ sym (append_assoc (take len bytes) (joined w.items) rest);
    }

pub passes : (end : List ℕ → Option ℕ) → ReadsItems end → (n : ℕ) (bytes rest : List ℕ) → behind_items end n bytes ≡ Some rest → PassesItems end n bytes rest
unfolding behind_items
passes end reads zero bytes rest e = record { items = []; each = tt; count = refl; front = (let q : bytes ≡ rest = cc in q) }
passes end reads (suc n) bytes rest e = and_passes end reads n (behind_items end n) (passes end reads n) bytes (end bytes) rest refl e

-- a literal run that was opened and passed stands first
pub literal_begins : (end : List ℕ → Option ℕ) → ReadsItems end → (bytes : List ℕ) (count : ℕ) (tail rest : List ℕ) → OpensAs kinds.Literal end bytes count tail → behind_items end count tail ≡ Some rest → BeginsRun end bytes count rest
literal_begins end reads bytes count tail rest o e = literal_of o.0 o.1 o.2 o.3 (passes end reads count tail rest e)
  where
    number : (m : ℕ) (items : List (List ℕ)) → length items ≡ suc m → neg_ℤ (pos (length items)) ≡ negsuc m
    number m items h = rw h refl

    literal_of : (m : ℕ) → count ≡ suc m → m < 2 ^ 63 → bytes ≡ leb (negsuc m) ++ tail → PassesItems end count tail rest → BeginsRun end bytes count rest
    literal_of m c h b w = (
      Literal w.items,
      (omega (arith, w.count), omega (arith, w.count), w.each),
      (b ∙ ap (λ s. leb (negsuc m) ++ s) w.front ∙ ap (λ z. leb z ++ (joined w.items ++ rest)) (sym (number m w.items (w.count ∙ c))) ∙ sym (append_assoc (leb (neg_ℤ (pos (length w.items)))) (joined w.items) rest)),
      (sym w.count ∙ sym (length-map w.items Some)),
    )
