-- What tells whether the next row is shown.
use Rattle.std.proofs.Common.{◌≡◌, ◌<◌, ◌≤◌, ◌+◌, ℕ, zero, suc, refl, [], ◌∷◌, ◌∙◌, ◌&&◌, Bool, true, false, List, length, take, drop, replicate, Option, Some, None, ℤ, pos, ap, map, if◌then◌else◌, arith, sym}
use native.Mathlib.Numerals.{unary_clauses}
use Rattle.std.specs.Prelude.{not}
use Rattle.std.specs.List.{list_any}
use Rattle.am_types.specs.declared.OpId.{OpId}
use Rattle.am_types.specs.declared.ObjId.{ObjId}
use Rattle.am_types.specs.declared.Key.{Key}
use Rattle.am_types.specs.declared.RawValue.{RawValue}
use Rattle.am_types.specs.declared.Row.{Row}
use Rattle.am_types.specs.declared.Entry.{Entry}
use Rattle.am_types.specs.Values.{amount}
use Rattle.am_doccols.specs.Rows.{row_from, rows_from}
use Rattle.am_view.specs.Reads.{slot, gives_entry, is_counter_row}
use Rattle.am_view.specs.Steps.{later, ahead, tally, left_of, standing, entry_at, before, walk}

and_false : (a : Bool) → (a && false) ≡ false
and_false true = refl
and_false false = refl

if_none : (b : Bool) (t : Option ℤ) → t ≡ None → (if b then t else None) ≡ None
if_none true t none = none
if_none false t none = refl

-- nothing is shown of a row that stands at nothing
stands_at_nothing : (covers : OpId → Bool) (r : Row) (rs : List Row) → left_of covers r rs ≡ None → standing covers r rs ≡ None
stands_at_nothing covers r rs none = if_none (covers r.id && gives_entry r) (left_of covers r rs) none

pub no_entry : (covers : OpId → Bool) (r : Row) (rs : List Row) → gives_entry r ≡ false → walk covers (r ∷ rs) ≡ walk covers rs
no_entry covers r rs none =
    ap (λ b. before r (if covers r.id && b then left_of covers r rs else None) (walk covers rs)) none
    ∙ ap (λ b. before r (if b then left_of covers r rs else None) (walk covers rs)) (and_false (covers r.id))

pub not_covered : (covers : OpId → Bool) (r : Row) (rs : List Row) → covers r.id ≡ false → walk covers (r ∷ rs) ≡ walk covers rs
not_covered covers r rs not = ap (λ b. before r (if b && gives_entry r then left_of covers r rs else None) (walk covers rs)) not

pub removed : (covers : OpId → Bool) (r : Row) (rs : List Row) → is_counter_row r ≡ false → list_any covers r.succs ≡ true → walk covers (r ∷ rs) ≡ walk covers rs
removed covers r rs plain any =
    ap (λ o. before r o (walk covers rs)) (stands_at_nothing covers r rs (ap (λ b. if b then tally covers (amount r.value) r.succs (map later (ahead r.obj (slot r) rs)) else (if list_any covers r.succs then None else Some (pos 0))) plain ∙ ap (λ b. if b then None else Some (pos 0)) any))

pub counter_removed : (covers : OpId → Bool) (r : Row) (rs : List Row) → is_counter_row r ≡ true → tally covers (amount r.value) r.succs (map later (ahead r.obj (slot r) rs)) ≡ None → walk covers (r ∷ rs) ≡ walk covers rs
counter_removed covers r rs counter none =
    ap (λ o. before r o (walk covers rs)) (stands_at_nothing covers r rs (ap (λ b. if b then tally covers (amount r.value) r.succs (map later (ahead r.obj (slot r) rs)) else (if list_any covers r.succs then None else Some (pos 0))) counter ∙ none))

stays : (covers : OpId → Bool) (r : Row) (rs : List Row) (t : ℤ) → covers r.id ≡ true → gives_entry r ≡ true → left_of covers r rs ≡ Some t → walk covers (r ∷ rs) ≡ entry_at r t ∷ walk covers rs
stays covers r rs t covered gives left =
    ap (λ b. before r (if b && gives_entry r then left_of covers r rs else None) (walk covers rs)) covered
    ∙ ap (λ b. before r (if b then left_of covers r rs else None) (walk covers rs)) gives
    ∙ ap (λ o. before r o (walk covers rs)) left

pub value_stays : (covers : OpId → Bool) (r : Row) (rs : List Row) → covers r.id ≡ true → gives_entry r ≡ true → is_counter_row r ≡ false → list_any covers r.succs ≡ false → walk covers (r ∷ rs) ≡ entry_at r (pos 0) ∷ walk covers rs
value_stays covers r rs covered gives plain none =
    stays covers r rs (pos 0) covered gives (ap (λ b. if b then tally covers (amount r.value) r.succs (map later (ahead r.obj (slot r) rs)) else (if list_any covers r.succs then None else Some (pos 0))) plain ∙ ap (λ b. if b then None else Some (pos 0)) none)

pub counter_stays : (covers : OpId → Bool) (r : Row) (rs : List Row) (t : ℤ) → covers r.id ≡ true → gives_entry r ≡ true → is_counter_row r ≡ true → tally covers (amount r.value) r.succs (map later (ahead r.obj (slot r) rs)) ≡ Some t → walk covers (r ∷ rs) ≡ entry_at r t ∷ walk covers rs
counter_stays covers r rs t covered gives counter left =
    stays covers r rs t covered gives (ap (λ b. if b then tally covers (amount r.value) r.succs (map later (ahead r.obj (slot r) rs)) else (if list_any covers r.succs then None else Some (pos 0))) counter ∙ left)

-- what is shown of a row by what it stands at, whether it is a counter or not
nothing_by : (b : Bool) (covers : OpId → Bool) (r : Row) (rs : List Row) (t : Option ℤ) → is_counter_row r ≡ b → t ≡ None
    → (is_counter_row r ≡ true → t ≡ tally covers (amount r.value) r.succs (map later (ahead r.obj (slot r) rs))) → (is_counter_row r ≡ false → t ≡ Some (pos 0)) → walk covers (r ∷ rs) ≡ walk covers rs
nothing_by true covers r rs t is none counter other = counter_removed covers r rs is (sym (counter is) ∙ none)
nothing_by false covers r rs t is none counter other = let absurdly : Some (pos 0) ≡ None = sym (other is) ∙ none in absurd (cc)

pub nothing : (covers : OpId → Bool) (r : Row) (rs : List Row) (t : Option ℤ) → t ≡ None
    → (is_counter_row r ≡ true → t ≡ tally covers (amount r.value) r.succs (map later (ahead r.obj (slot r) rs))) → (is_counter_row r ≡ false → t ≡ Some (pos 0)) → walk covers (r ∷ rs) ≡ walk covers rs
nothing covers r rs t none counter other = nothing_by (is_counter_row r) covers r rs t refl none counter other

something_by : (b : Bool) (covers : OpId → Bool) (r : Row) (rs : List Row) (o : Option ℤ) (t : ℤ) → is_counter_row r ≡ b → o ≡ Some t → covers r.id ≡ true → gives_entry r ≡ true
    → (is_counter_row r ≡ true → o ≡ tally covers (amount r.value) r.succs (map later (ahead r.obj (slot r) rs))) → (is_counter_row r ≡ false → o ≡ Some (pos 0)) → (is_counter_row r ≡ false → list_any covers r.succs ≡ false)
    → walk covers (r ∷ rs) ≡ entry_at r t ∷ walk covers rs
something_by true covers r rs o t is some covered gives counter other stays = counter_stays covers r rs t covered gives is (sym (counter is) ∙ some)
something_by false covers r rs o t is some covered gives counter other stays =
    let same : pos 0 ≡ t = let both : Some (pos 0) ≡ Some t = sym (other is) ∙ some in cc in
    value_stays covers r rs covered gives is (stays is) ∙ ap (λ z. entry_at r z ∷ walk covers rs) same

pub something : (covers : OpId → Bool) (r : Row) (rs : List Row) (o : Option ℤ) (t : ℤ) → o ≡ Some t → covers r.id ≡ true → gives_entry r ≡ true
    → (is_counter_row r ≡ true → o ≡ tally covers (amount r.value) r.succs (map later (ahead r.obj (slot r) rs))) → (is_counter_row r ≡ false → o ≡ Some (pos 0)) → (is_counter_row r ≡ false → list_any covers r.succs ≡ false)
    → walk covers (r ∷ rs) ≡ entry_at r t ∷ walk covers rs
something covers r rs o t some covered gives counter other stays = something_by (is_counter_row r) covers r rs o t refl some covered gives counter other stays

-- ---- lists

first_suc : {A : Type 0} (n : ℕ) (xs : List A) → 0 < length (drop n xs) → (x : A) × (drop n xs ≡ x ∷ drop (suc n) xs)
first_suc zero [] some = absurd (omega (arith, some))
first_suc zero (x ∷ xs) some = (x, refl)
first_suc (suc n) [] some = absurd (omega (arith, some))
first_suc (suc n) (x ∷ xs) some = first_suc n xs some

pub first_behind : {A : Type 0} (n : ℕ) (xs : List A) → 0 < length (drop n xs) → (x : A) × (drop n xs ≡ x ∷ drop (n + 1) xs)
first_behind n xs some = simp unary_clauses (first_suc n xs some)

alike_suc : {A : Type 0} (k n : ℕ) (x : A) (xs : List A) → take n xs ≡ replicate n x → k < n → drop k xs ≡ x ∷ drop (suc k) xs
alike_suc k zero x xs alike few = absurd (omega (arith, few))
alike_suc k (suc n) x [] alike few = absurd (cc)
alike_suc zero (suc n) x (y ∷ xs) alike few = let same : y ≡ x = cc in ap (λ z. z ∷ xs) same
alike_suc (suc k) (suc n) x (y ∷ xs) alike few = let rest : take n xs ≡ replicate n x = cc in alike_suc k n x xs rest (omega (arith, few))

pub alike_behind : {A : Type 0} (k n : ℕ) (x : A) (xs : List A) → take n xs ≡ replicate n x → k < n → drop k xs ≡ x ∷ drop (k + 1) xs
alike_behind k n x xs alike few = simp unary_clauses (alike_suc k n x xs alike few)

-- the next row of columns that go on by one
pub next_row : (o : ObjId) (k : Key) (d : OpId) (i : Bool) (x : ℕ) (v : RawValue) (s : List OpId) (e : Bool) (m : Option (List ℕ))
    → (os os' : List ObjId) (ks ks' : List Key) (ds ds' : List OpId) (is is' : List Bool) (xs xs' : List ℕ) (vs vs' : List RawValue) (ss ss' : List (List OpId)) (es es' : List Bool) (ms ms' : List (Option (List ℕ)))
    → os ≡ o ∷ os' → ks ≡ k ∷ ks' → ds ≡ d ∷ ds' → is ≡ i ∷ is' → xs ≡ x ∷ xs' → vs ≡ v ∷ vs' → ss ≡ s ∷ ss' → es ≡ e ∷ es' → ms ≡ m ∷ ms'
    → rows_from os ks ds is xs vs ss es ms ≡ row_from (o, (k, (d, (i, (x, (v, (s, (e, m)))))))) ∷ rows_from os' ks' ds' is' xs' vs' ss' es' ms'
next_row o k d i x v s e m os os' ks ks' ds ds' is is' xs xs' vs vs' ss ss' es es' ms ms' po pk pd pi px pv ps pe pm = rw (po, pk, pd, pi, px, pv, ps, pe, pm) refl

-- the next length is that of the next list
pub next_length : (ss : List (List OpId)) (ns : List ℕ) (s : List OpId) (ss' : List (List OpId)) (ns' : List ℕ) (n : ℕ) → ns ≡ map length ss → ss ≡ s ∷ ss' → ns ≡ n ∷ ns' → length s ≡ n
next_length ss ns s ss' ns' n are is next = let both : n ∷ ns' ≡ map length (s ∷ ss') = sym next ∙ are ∙ ap (map length) is in cc

pub no_items : {A : Type 0} (s : List A) → length s ≡ 0 → s ≡ []
no_items [] e = refl
no_items (x ∷ s) e = absurd (cc)

-- where every id is covered, one successor is enough
pub any_seen : (covers : OpId → Bool) (s : List OpId) → ((id : OpId) → covers id ≡ true) → 0 < length s → list_any covers s ≡ true
any_seen covers [] all some = absurd (omega (arith, some))
any_seen covers (x ∷ s) all some = simp (all x) refl

pub some_of : (n m : ℕ) → n ≡ m → (m ≡ 0 → ⊥) → 0 < n
some_of zero m e some = absurd (some (sym e))
some_of (suc n) m e some = omega arith

pub not_is : (b : Bool) → not b ≡ true → b ≡ false
not_is true e = absurd (cc)
not_is false e = refl

-- no more entries are shown than there are rows
before_is_less : (r : Row) (t : Option ℤ) (es : List Entry) → length (before r t es) ≤ length es + 1
before_is_less r None es = omega arith
before_is_less r (Some t) es = omega arith

pub walk_is_less : (covers : OpId → Bool) (rs : List Row) → length (walk covers rs) ≤ length rs
walk_is_less covers [] = omega arith
walk_is_less covers (r ∷ rs) =
    let here = before_is_less r (standing covers r rs) (walk covers rs) in
    let again = walk_is_less covers rs in
    omega (arith, here, again)
