-- Rows that are letters of inserted elements, which nothing removed: they walk to as many letters.
use Rattle.std.proofs.Common.{◌≡◌, ◌≤◌, ◌+◌, ◌-◌, ◌^◌, ℕ, zero, suc, refl, [], ◌∷◌, ◌++◌, ◌∙◌, Bool, true, List, length, take, drop, replicate, Option, pos, ap, map, subst, arith, sym}
use Rattle.std.specs.List.{AllByRecursion}
use Rattle.std.proofs.lemmas.Bool.{lt-ltb}
use Rattle.std.proofs.lemmas.List.{length-drop}
use Rattle.am_types.specs.declared.OpId.{OpId}
use Rattle.am_types.specs.declared.ObjId.{ObjId}
use Rattle.am_types.specs.declared.Key.{Key}
use Rattle.am_types.specs.declared.Key.TheVariants.{Elem}
use Rattle.am_types.specs.declared.RawValue.{RawValue}
use Rattle.am_types.specs.declared.Row.{Row}
use Rattle.am_types.specs.declared.Entry.{Entry}
use Rattle.am_types.specs.Actions as actions
use Rattle.am_graph.specs.declared.reach.Reach.{Reach}
use Rattle.am_graph.specs.Clocks.{reach_of, covers}
use Rattle.am_values.specs.Letters.{letter, AreAscii}
use Rattle.am_fields.specs.Layout.{flat}
use Rattle.am_fields.specs.Rising.{rising}
use Rattle.am_doccols.specs.Rows.{row_from, rows_from}
use Rattle.am_types.specs.Letters.{AreLetters}
use Rattle.am_view.specs.Steps.{walk}
use Rattle.am_view.proofs.Scanned.{next_row, value_stays}

-- the entry of a letter
abbrev pub letter_entry : ObjId → OpId → ℕ → Entry
letter_entry o d b = record { obj = o; slot = Elem d; id = d; action = actions.set; value = letter b; total = pos 0 }

-- ---- the first of some rows

pub first_is : {A : Type 0} (k : ℕ) (x : A) (xs ys : List A) → take (suc k) xs ≡ x ∷ ys → (xs ≡ x ∷ drop 1 xs) × (take k (drop 1 xs) ≡ ys)
first_is k x [] ys e = absurd (cc)
first_is k x (z ∷ xs) ys e = let first : z ≡ x = cc in (ap (λ z. z ∷ xs) first, cc)

pub some_first : {A : Type 0} (k : ℕ) (xs : List A) → suc k ≤ length xs → (x : A) × (xs ≡ x ∷ drop 1 xs) × (k ≤ length (drop 1 xs))
some_first k [] some = absurd (omega (arith, some))
some_first k (x ∷ xs) some = (x, refl, omega (arith, some))

all_first : {A : Type 0} (P : A → Type 0) (k : ℕ) (x : A) (xs ys : List A) → xs ≡ x ∷ ys → AllByRecursion P (take (suc k) xs) → P x × AllByRecursion P (take k ys)
all_first P k x xs ys e all = subst (λ l. AllByRecursion P (take (suc k) l)) e all

drop_one : {A : Type 0} (k : ℕ) (xs : List A) → drop k (drop 1 xs) ≡ drop (suc k) xs
drop_one zero [] = refl
drop_one (suc k) [] = refl
drop_one k (x ∷ xs) = refl

-- rows of the same columns
pub rows_same : (os os' : List ObjId) (ks ks' : List Key) (ds ds' : List OpId) (is is' : List Bool) (xs xs' : List ℕ) (vs vs' : List RawValue) (ss ss' : List (List OpId)) (es es' : List Bool) (ms ms' : List (Option (List ℕ)))
    → os ≡ os' → ks ≡ ks' → ds ≡ ds' → is ≡ is' → xs ≡ xs' → vs ≡ vs' → ss ≡ ss' → es ≡ es' → ms ≡ ms' → rows_from os ks ds is xs vs ss es ms ≡ rows_from os' ks' ds' is' xs' vs' ss' es' ms'
rows_same os os' ks ks' ds ds' is is' xs xs' vs vs' ss ss' es es' ms ms' po pk pd pi px pv ps pe pm = rw (po, pk, pd, pi, px, pv, ps, pe, pm) refl

-- a row that is a letter is shown
pub one_letter : (covers : OpId → Bool) (o : ObjId) (k : Key) (d : OpId) (b : ℕ) (e : Bool) (m : Option (List ℕ))
    → (os os' : List ObjId) (ks ks' : List Key) (ds ds' : List OpId) (is is' : List Bool) (xs xs' : List ℕ) (vs vs' : List RawValue) (ss ss' : List (List OpId)) (es es' : List Bool) (ms ms' : List (Option (List ℕ)))
    → covers d ≡ true
    → os ≡ o ∷ os' → ks ≡ k ∷ ks' → ds ≡ d ∷ ds' → is ≡ true ∷ is' → xs ≡ actions.set ∷ xs' → vs ≡ letter b ∷ vs' → ss ≡ [] ∷ ss' → es ≡ e ∷ es' → ms ≡ m ∷ ms'
    → walk covers (rows_from os ks ds is xs vs ss es ms) ≡ letter_entry o d b ∷ walk covers (rows_from os' ks' ds' is' xs' vs' ss' es' ms')
one_letter covers o k d b e m os os' ks ks' ds ds' is is' xs xs' vs vs' ss ss' es es' ms ms' covered po pk pd pi px pv ps pe pm =
    let r : Row = row_from (o, (k, (d, (true, (actions.set, (letter b, ([], (e, m)))))))) in
    ap (walk covers) (next_row o k d true actions.set (letter b) [] e m os os' ks ks' ds ds' is is' xs xs' vs vs' ss ss' es es' ms ms' po pk pd pi px pv ps pe pm)
    ∙ value_stays covers r (rows_from os' ks' ds' is' xs' vs' ss' es' ms') covered refl refl refl

-- ---- many

-- the columns of n letters, whose bytes are the first n of bs
pub record AreLetterColumns (covers : OpId → Bool) (o : ObjId) (n : ℕ) (bs : List ℕ) (os : List ObjId) (ks : List Key) (ds : List OpId) (is : List Bool) (xs : List ℕ) (vs : List RawValue) (ss : List (List OpId)) (es : List Bool) (ms : List (Option (List ℕ))) : Type 0 where
  pub objects : take n os ≡ replicate n o
  pub keys : n ≤ length ks
  pub ids : n ≤ length ds
  pub covered : AllByRecursion (λ i. covers i ≡ true) (take n ds)
  pub inserts : take n is ≡ replicate n true
  pub settings : take n xs ≡ replicate n actions.set
  pub enough : n ≤ length bs
  pub ascii : AreAscii (take n bs)
  pub values : take n vs ≡ map letter (take n bs)
  pub succs : take n ss ≡ replicate n []
  pub expands : n ≤ length es
  pub marks : n ≤ length ms

-- what n letters walk to: the first m, the last, whose id is d, and what is behind
pub record ArePassed (covers : OpId → Bool) (o : ObjId) (m n : ℕ) (bs : List ℕ) (d : OpId) (ds' : List OpId) (os : List ObjId) (ks : List Key) (ds : List OpId) (is : List Bool) (xs : List ℕ) (vs : List RawValue) (ss : List (List OpId)) (es : List Bool) (ms : List (Option (List ℕ))) : Type 0 where
  pub entries : List Entry
  pub byte : ℕ
  pub last : take 1 (drop m bs) ≡ byte ∷ []
  pub walked : walk covers (rows_from os ks ds is xs vs ss es ms) ≡ entries ++ letter_entry o d byte ∷ walk covers (rows_from (drop n os) (drop n ks) ds' (drop n is) (drop n xs) (drop n vs) (drop n ss) (drop n es) (drop n ms))
  pub letters : AreLetters o entries (take m bs)

pub letters_pass : (covers : OpId → Bool) (o : ObjId) (m : ℕ) (bs : List ℕ) (d : OpId) (ds' : List OpId) (os : List ObjId) (ks : List Key) (ds : List OpId) (is : List Bool) (xs : List ℕ) (vs : List RawValue) (ss : List (List OpId)) (es : List Bool) (ms : List (Option (List ℕ)))
    → AreLetterColumns covers o (suc m) bs os ks ds is xs vs ss es ms → drop m ds ≡ d ∷ ds' → ArePassed covers o m (suc m) bs d ds' os ks ds is xs vs ss es ms
letters_pass covers o m [] d ds' os ks ds is xs vs ss es ms a at = absurd (omega (arith, a.enough))
letters_pass covers o zero (b ∷ bs) d ds' os ks ds is xs vs ss es ms a at =
    let k = some_first 0 ks a.keys in
    let e = some_first 0 es a.expands in
    let l = some_first 0 ms a.marks in record {
      entries = [];
      byte = b;
      last = refl;
      walked = one_letter covers o k.0 d b e.0 l.0 os _ ks _ ds ds' is _ xs _ vs _ ss _ es _ ms _ (all_first (λ i. covers i ≡ true) 0 d ds ds' at a.covered).0 (first_is 0 o os _ a.objects).0 k.1 at (first_is 0 true is _ a.inserts).0 (first_is 0 actions.set xs _ a.settings).0 (first_is 0 (letter b) vs _ a.values).0 (first_is 0 [] ss _ a.succs).0 e.1 l.1;
      letters = tt;
    }
letters_pass covers o (suc m) (b ∷ bs) d ds' os ks ds is xs vs ss es ms a at =
    let ob = first_is (suc m) o os _ a.objects in
    let k = some_first (suc m) ks a.keys in
    let i = some_first (suc m) ds a.ids in
    let c = all_first (λ i. covers i ≡ true) (suc m) i.0 ds _ i.1 a.covered in
    let f = first_is (suc m) true is _ a.inserts in
    let x = first_is (suc m) actions.set xs _ a.settings in
    let v = first_is (suc m) (letter b) vs _ a.values in
    let s = first_is (suc m) [] ss _ a.succs in
    let e = some_first (suc m) es a.expands in
    let l = some_first (suc m) ms a.marks in
    let behind : AreLetterColumns covers o (suc m) bs (drop 1 os) (drop 1 ks) (drop 1 ds) (drop 1 is) (drop 1 xs) (drop 1 vs) (drop 1 ss) (drop 1 es) (drop 1 ms) = record {
      objects = ob.1;
      keys = k.2;
      ids = i.2;
      covered = c.1;
      inserts = f.1;
      settings = x.1;
      enough = omega (arith, a.enough);
      ascii = a.ascii.1;
      values = v.1;
      succs = s.1;
      expands = e.2;
      marks = l.2;
    } in
    let w = letters_pass covers o m bs d ds' (drop 1 os) (drop 1 ks) (drop 1 ds) (drop 1 is) (drop 1 xs) (drop 1 vs) (drop 1 ss) (drop 1 es) (drop 1 ms) behind (drop_one m ds ∙ at) in
    let first = one_letter covers o k.0 i.0 b e.0 l.0 os _ ks _ ds _ is _ xs _ vs _ ss _ es _ ms _ c.0 ob.0 k.1 i.1 f.0 x.0 v.0 s.0 e.1 l.1 in
    let rest = rows_same _ (drop (suc (suc m)) os) _ (drop (suc (suc m)) ks) ds' ds' _ (drop (suc (suc m)) is) _ (drop (suc (suc m)) xs) _ (drop (suc (suc m)) vs) _ (drop (suc (suc m)) ss) _ (drop (suc (suc m)) es) _ (drop (suc (suc m)) ms)
    (drop_one (suc m) os) (drop_one (suc m) ks) refl (drop_one (suc m) is) (drop_one (suc m) xs) (drop_one (suc m) vs) (drop_one (suc m) ss) (drop_one (suc m) es) (drop_one (suc m) ms) in record {
      entries = letter_entry o i.0 b ∷ w.entries;
      byte = w.byte;
      last = w.last;
      walked = first ∙ ap (λ l. letter_entry o i.0 b ∷ l) (w.walked ∙ ap (λ rs. w.entries ++ letter_entry o d w.byte ∷ walk covers rs) rest);
      letters = (record { object = refl; inserted = refl; action = refl; value = refl; ascii = a.ascii.0 }, w.letters);
    }

-- ---- lists

pub fewer_alike : {A : Type 0} (j k : ℕ) (x : A) (xs : List A) → j ≤ k → take k xs ≡ replicate k x → take j xs ≡ replicate j x
fewer_alike zero k x xs few e = refl
fewer_alike (suc j) zero x xs few e = absurd (omega (arith, few))
fewer_alike (suc j) (suc k) x [] few e = absurd (cc)
fewer_alike (suc j) (suc k) x (y ∷ xs) few e =
    let first : y ≡ x = cc in
    let more : take k xs ≡ replicate k x = cc in
    ap (λ z. z ∷ take j xs) first ∙ ap (λ l. x ∷ l) (fewer_alike j k x xs (omega (arith, few)) more)

-- no lengths, no items
pub none_each : {A : Type 0} (n : ℕ) (ss : List (List A)) → take n (map length ss) ≡ replicate n 0 → take n ss ≡ replicate n []
none_each zero ss e = refl
none_each (suc n) [] e = absurd (cc)
none_each (suc n) ([] ∷ ss) e = let more : take n (map length ss) ≡ replicate n 0 = cc in ap (λ l. [] ∷ l) (none_each n ss more)
none_each (suc n) ((x ∷ s) ∷ ss) e = let wrong : length (x ∷ s) ≡ 0 = cc in absurd (omega (arith, wrong))

pub flat_behind : {A : Type 0} (n : ℕ) (ss : List (List A)) → take n ss ≡ replicate n [] → flat (drop n ss) ≡ flat ss
flat_behind zero ss e = refl
flat_behind (suc n) [] e = absurd (cc)
flat_behind (suc n) ([] ∷ ss) e = let more : take n ss ≡ replicate n [] = cc in flat_behind n ss more
flat_behind (suc n) ((x ∷ s) ∷ ss) e = absurd (cc)

-- the first of letters that come next
pub first_letters : (n : ℕ) (bs : List ℕ) (vs vs' : List RawValue) → vs ≡ map letter bs ++ vs' → n ≤ length bs → take n vs ≡ map letter (take n bs)
first_letters zero bs vs vs' e few = refl
first_letters (suc n) [] vs vs' e few = absurd (omega (arith, few))
first_letters (suc n) (b ∷ bs) vs vs' e few = ap (take (suc n)) e ∙ ap (λ l. letter b ∷ l) (first_letters n bs (map letter bs ++ vs') vs' refl (omega (arith, few)))

pub first_ascii : (n : ℕ) (bs : List ℕ) → AreAscii bs → AreAscii (take n bs)
first_ascii zero bs all = tt
first_ascii (suc n) [] all = tt
first_ascii (suc n) (b ∷ bs) all = (all.0, first_ascii n bs all.1)

pub behind_first : {A : Type 0} (m : ℕ) (xs ys : List A) (x : A) → drop m xs ≡ x ∷ ys → ys ≡ drop (suc m) xs
behind_first zero [] ys x e = absurd (cc)
behind_first zero (z ∷ xs) ys x e = cc
behind_first (suc m) [] ys x e = absurd (cc)
behind_first (suc m) (z ∷ xs) ys x e = behind_first m xs ys x e

-- ---- ids

pub all_covered : (P : OpId → Type 0) (ids : List OpId) → ((id : OpId) → P id) → AllByRecursion P ids
all_covered P [] all = tt
all_covered P (i ∷ ids) all = (all i, all_covered P ids all)

pub first_rising : (P : OpId → Type 0) (k n : ℕ) (id : OpId) (ids rest : List OpId) → ids ≡ rising id n ++ rest → k ≤ n → AllByRecursion P (rising id k) → AllByRecursion P (take k ids)
first_rising P k n id ids rest e few all = subst (λ l. AllByRecursion P (take k l)) (sym e) (begin k n id few all)
  where
    begin : (k n : ℕ) (id : OpId) → k ≤ n → AllByRecursion P (rising id k) → AllByRecursion P (take k (rising id n ++ rest))
    begin zero n id few all = tt
    begin (suc k) zero id few all = absurd (omega (arith, few))
    begin (suc k) (suc n) id few all = (all.0, begin k n (record { counter = suc id.counter; actor = id.actor }) (omega (arith, few)) all.1)

-- the first ids that rise are covered as far as the clock goes for their actor
pub rising_covered : (clock : List (List ℕ × Reach)) (k : ℕ) (id : OpId) (end : ℕ) → end ≡ (reach_of clock id.actor).end → k ≤ end - id.counter → AllByRecursion (λ i. covers clock i ≡ true) (rising id k)
rising_covered clock zero id end is few = tt
rising_covered clock (suc k) id end is few =
    let here : covers clock id ≡ true = lt-ltb id.counter (reach_of clock id.actor).end (omega (arith, is, few)) in
    (here, rising_covered clock k (record { counter = suc id.counter; actor = id.actor }) end is (omega (arith, few)))

-- what is left of a run
pub alike_left : {A : Type 0} (p k : ℕ) (x : A) (xs : List A) → p ≤ k → take k xs ≡ replicate k x → take (k - p) (drop p xs) ≡ replicate (k - p) x
alike_left zero k x xs few e = subst (λ n. take n xs ≡ replicate n x) (let same : k ≡ k - 0 = omega arith in same) e
alike_left (suc p) zero x xs few e = absurd (omega (arith, few))
alike_left (suc p) (suc k) x [] few e = absurd (cc)
alike_left (suc p) (suc k) x (y ∷ xs) few e =
    let more : take k xs ≡ replicate k x = cc in
    let size : k - p ≡ suc k - suc p = omega arith in
    subst (λ n. take n (drop p xs) ≡ replicate n x) size (alike_left p k x xs (omega (arith, few)) more)

-- ---- for `next_letters`

-- what is known of columns, each of it as far as it was asked
pub columns_known : (covers : OpId → Bool) (o : ObjId) (n set inserted alike : ℕ) (bs : List ℕ) (os : List ObjId) (ks : List Key) (ds : List OpId) (is : List Bool) (xs : List ℕ) (vs vs' : List RawValue) (ss : List (List OpId)) (ns : List ℕ) (es : List Bool) (ms : List (Option (List ℕ)))
    → n ≤ length bs → length bs ≤ set → set ≤ inserted → inserted ≤ alike → alike ≤ length os
    → length os ≡ length xs → length ks ≡ length xs → length ds ≡ length xs → length es ≡ length xs → length ms ≡ length xs
    → take alike os ≡ replicate alike o → AllByRecursion (λ i. covers i ≡ true) (take n ds) → take inserted is ≡ replicate inserted true → take set xs ≡ replicate set actions.set
    → vs ≡ map letter bs ++ vs' → AreAscii bs → take inserted ns ≡ replicate inserted 0 → ns ≡ map length ss
    → AreLetterColumns covers o n bs os ks ds is xs vs ss es ms
columns_known covers o n set inserted alike bs os ks ds is xs vs vs' ss ns es ms f0 f1 f2 f3 f4 l0 l1 l2 l3 l4 like covered insert action value ascii none lengths = record {
  objects = fewer_alike n alike o os (omega (arith, f0, f1, f2, f3)) like;
  keys = omega (arith, f0, f1, f2, f3, f4, l0, l1);
  ids = omega (arith, f0, f1, f2, f3, f4, l0, l2);
  covered = covered;
  inserts = fewer_alike n inserted true is (omega (arith, f0, f1, f2)) insert;
  settings = fewer_alike n set actions.set xs (omega (arith, f0, f1)) action;
  enough = f0;
  ascii = first_ascii n bs ascii;
  values = first_letters n bs vs vs' value f0;
  succs = none_each n ss (fewer_alike n inserted 0 (map length ss) (omega (arith, f0, f1, f2)) (subst (λ l. take inserted l ≡ replicate inserted 0) lengths none));
  expands = omega (arith, f0, f1, f2, f3, f4, l0, l3);
  marks = omega (arith, f0, f1, f2, f3, f4, l0, l4);
}

-- what rows walk to of which the first are letters
pub record AreShown (covers : OpId → Bool) (o : ObjId) (m : ℕ) (bs : List ℕ) (d : OpId) (rows rest : List Row) : Type 0 where
  pub entries : List Entry
  pub byte : ℕ
  pub last : take 1 (drop m bs) ≡ byte ∷ []
  pub walked : walk covers rows ≡ entries ++ letter_entry o d byte ∷ walk covers rest
  pub letters : AreLetters o entries (take m bs)

pub letters_shown : (covers : OpId → Bool) (o : ObjId) (m n : ℕ) (bs : List ℕ) (d : OpId)
    → (os os' : List ObjId) (ks ks' : List Key) (ds ds' : List OpId) (is is' : List Bool) (xs xs' : List ℕ) (vs vs' : List RawValue) (ss ss' : List (List OpId)) (es es' : List Bool) (ms ms' : List (Option (List ℕ)))
    → suc m ≡ n → AreLetterColumns covers o n bs os ks ds is xs vs ss es ms → drop m ds ≡ d ∷ ds'
    → os' ≡ drop n os → ks' ≡ drop n ks → is' ≡ drop n is → xs' ≡ drop n xs → vs' ≡ drop n vs → ss' ≡ drop n ss → es' ≡ drop n es → ms' ≡ drop n ms
    → AreShown covers o m bs d (rows_from os ks ds is xs vs ss es ms) (rows_from os' ks' ds' is' xs' vs' ss' es' ms')
letters_shown covers o m n bs d os os' ks ks' ds ds' is is' xs xs' vs vs' ss ss' es es' ms ms' size a at po pk pi px pv ps pe pm =
    let known = subst (λ n. AreLetterColumns covers o n bs os ks ds is xs vs ss es ms) (sym size) a in
    let w = subst (λ n. ArePassed covers o m n bs d ds' os ks ds is xs vs ss es ms) size (letters_pass covers o m bs d ds' os ks ds is xs vs ss es ms known at) in
    let rest = rows_same (drop n os) os' (drop n ks) ks' ds' ds' (drop n is) is' (drop n xs) xs' (drop n vs) vs' (drop n ss) ss' (drop n es) es' (drop n ms) ms' (sym po) (sym pk) refl (sym pi) (sym px) (sym pv) (sym ps) (sym pe) (sym pm) in record {
      entries = w.entries;
      byte = w.byte;
      last = w.last;
      walked = w.walked ∙ ap (λ rs. w.entries ++ letter_entry o d w.byte ∷ walk covers rs) rest;
      letters = w.letters;
    }

size_behind : {A B : Type 0} (n : ℕ) (xs xs' : List A) (ys ys' : List B) → length xs ≡ length ys → xs' ≡ drop n xs → ys' ≡ drop n ys → length xs' ≡ length ys'
size_behind n xs xs' ys ys' same ex ey = omega (arith, same, ap length ex, ap length ey, length-drop n xs, length-drop n ys)

lengths_behind : {A : Type 0} (n : ℕ) (ss : List (List A)) → drop n (map length ss) ≡ map length (drop n ss)
lengths_behind zero ss = refl
lengths_behind (suc n) [] = refl
lengths_behind (suc n) (s ∷ ss) = lengths_behind n ss

-- the columns behind n rows without successors are as even as before
abbrev pub AreEven : List ObjId → List Key → List OpId → List Bool → List ℕ → List RawValue → List (List OpId) → List ℕ → List Bool → List (Option (List ℕ)) → Type 0
AreEven os ks ds is xs vs ss ns es ms =
    (length os ≡ length xs)
    × (length ks ≡ length xs)
    × (length ds ≡ length xs)
    × (length is ≡ length xs)
    × (length vs ≡ length xs)
    × (length ss ≡ length xs)
    × (length es ≡ length xs)
    × (length ms ≡ length xs)
    × (length (flat ss) ≤ 2 ^ 22)
    × (ns ≡ map length ss)

pub even_behind : (m n : ℕ) (d : OpId)
    → (os os' : List ObjId) (ks ks' : List Key) (ds ds' : List OpId) (is is' : List Bool) (xs xs' : List ℕ) (vs vs' : List RawValue) (ss ss' : List (List OpId)) (ns ns' : List ℕ) (es es' : List Bool) (ms ms' : List (Option (List ℕ)))
    → suc m ≡ n → AreEven os ks ds is xs vs ss ns es ms → take n ss ≡ replicate n [] → drop m ds ≡ d ∷ ds'
    → os' ≡ drop n os → ks' ≡ drop n ks → is' ≡ drop n is → xs' ≡ drop n xs → vs' ≡ drop n vs → ss' ≡ drop n ss → ns' ≡ drop n ns → es' ≡ drop n es → ms' ≡ drop n ms
    → AreEven os' ks' ds' is' xs' vs' ss' ns' es' ms'
even_behind m n d os os' ks ks' ds ds' is is' xs xs' vs vs' ss ss' ns ns' es es' ms ms' size even none at po pk pi px pv ps pn pe pm =
    let pd : ds' ≡ drop n ds = behind_first m ds ds' d at ∙ ap (λ k. drop k ds) size in
    let flat_same : flat ss' ≡ flat ss = ap flat ps ∙ flat_behind n ss none in (
      size_behind n os os' xs xs' even.0 po px,
      size_behind n ks ks' xs xs' even.1 pk px,
      size_behind n ds ds' xs xs' even.2 pd px,
      size_behind n is is' xs xs' even.3 pi px,
      size_behind n vs vs' xs xs' even.4 pv px,
      size_behind n ss ss' xs xs' even.5 ps px,
      size_behind n es es' xs xs' even.6 pe px,
      size_behind n ms ms' xs xs' even.7 pm px,
      subst (λ l. length l ≤ 2 ^ 22) (sym flat_same) even.8,
      pn ∙ ap (drop n) even.9 ∙ lengths_behind n ss ∙ ap (map length) (sym ps),
    )
