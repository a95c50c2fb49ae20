-- What reading answers, in the words of the contracts: a number is found, or one of three faults comes.
use Rattle.std.proofs.Common.{◌≡◌, ℕ, ◌^◌, ◌<◌, ◌≤◌, Bool, true, false, nat_lt, List, ◌++◌, length, take, drop, get_or, Option, Some, None, Result, Ok, Err, pos, ℤ, refl, sym, ap, ◌∙◌, inl, inr, ⊎_elim, ◌⊎◌, ◌↔◌, subst, arith, length-take, if◌then◌else◌}
use Rattle.std.specs.List.{All}
use Rattle.std.specs.Result.{IfOk}
use Rattle.std.proofs.lemmas.List.Elements.{All-from_recursion}
use Rattle.std.proofs.lemmas.Bool.Decides.{nat_tests}
use Rattle.std.proofs.lemmas.Bool.{cases_lt}
use Rattle.std.proofs.lemmas.List.{take-append-drop, take_at, take_all, length-take-le, get_or-take}
use Rattle.am_leb.specs.declared.fault.LebFault.{LebFault}
use Rattle.am_leb.specs.declared.fault.LebFault.TheVariants.{Short, Long, Large}
use Rattle.am_leb.specs.Leb.{leb, ends_negative, signed_value, unsigned_value, IsUleb, uleb, BeginsWith}
use Rattle.am_leb.specs.Reading.{end_within, end_or_fault, judged, unsigned_at, first_unsigned, signed_at, judged_signed, first_signed, magnitude, from_magnitude}
use Rattle.am_leb.proofs.Laws.{IsUleb-from_length, IsUleb-is_uleb, uleb_is, length_uleb-le}
use Rattle.am_leb.proofs.SignedLaws.{leb_spells, length_leb, length_leb-le, IsLeb-is_leb, IsLeb-from_length, signed_value-magnitude}
use Rattle.am_leb.proofs.Ends.{IsEnd-from_within, end_within-none, end_within-high, end_within-spelling, end_within-front}

abbrev pub IsBytes : List ℕ → Type 0
IsBytes bytes = (i : ℕ) → get_or bytes i 0 < 256

pub by_lt : {P : Type 0} (a b : ℕ) → (a < b → nat_lt a b ≡ true → P) → (b ≤ a → nat_lt a b ≡ false → P) → P
by_lt {P = P} a b f g = elim (nat_lt a b) as (λ t. nat_lt a b ≡ t → P)
    [ true ↦ λ e. f (grind (arith, nat_tests)) e | false ↦ λ e. g (grind (arith, nat_tests)) e ] refl

-- the five ways in which reading ends
pub by_cases : (bytes : List ℕ) (P : Result (ℕ × ℕ) LebFault → Type 0)
    → (end_within 10 bytes ≡ None → length bytes < 10 → P (Err Short))
    → (end_within 10 bytes ≡ None → 10 ≤ length bytes → P (Err Large))
    → ((len : ℕ) → end_within 10 bytes ≡ Some len → 2 ^ 64 ≤ unsigned_value (take len bytes) → P (Err Large))
    → ((len : ℕ) → end_within 10 bytes ≡ Some len → unsigned_value (take len bytes) < 2 ^ 64 → length (uleb (unsigned_value (take len bytes))) < len → P (Err Long))
    → ((len : ℕ) → end_within 10 bytes ≡ Some len → unsigned_value (take len bytes) < 2 ^ 64 → len ≤ length (uleb (unsigned_value (take len bytes))) → P (Ok (unsigned_value (take len bytes), len)))
    → P (first_unsigned bytes)
unfolding first_unsigned
by_cases bytes P short cut large long found = elim (end_within 10 bytes) as (λ o. end_within 10 bytes ≡ o → P (unsigned_at bytes o)) [
  | None ↦ λ e. by_lt (length bytes) 10 (λ h t. rw t (short e h)) (λ h t. rw t (cut e h))
  | Some len ↦ λ e. let n = unsigned_value (take len bytes) in
      by_lt n (2 ^ 64)
      (λ h t. by_lt (length (uleb n)) len (λ g s. rw (t, s) (long len e h g)) (λ g s. rw (t, s) (found len e h g)))
      (λ h t. rw t (large len e h))
]
    refl

-- an end that was found is the end of a spelling
pub begins : (bytes : List ℕ) (P : List ℕ → Type 0) → IsBytes bytes → (len : ℕ) → end_within 10 bytes ≡ Some len → P (take len bytes) → BeginsWith bytes P
begins bytes P f len e p = let w = IsEnd-from_within 10 bytes len f e in (len, w.within, w.inside, w.spelling, p)

pub begins_only : (bytes : List ℕ) (P : List ℕ → Type 0) → BeginsWith bytes P → (len : ℕ) × (end_within 10 bytes ≡ Some len) × P (take len bytes)
begins_only bytes P b =
    let len = b.0 in
    let l : length (take len bytes) ≡ len = length-take-le len bytes b.2 in
    let e = end_within-spelling 10 (take len bytes) (drop len bytes) b.3 (omega arith) in
    (len, (rw (take-append-drop, l) at e), b.4)

pub high : (bytes : List ℕ) → end_within 10 bytes ≡ None → All (λ b. 128 ≤ b) (take 10 bytes)
high bytes e = All-from_recursion (λ b. 128 ≤ b) (take 10 bytes) (end_within-high 10 bytes e)

pub high_only : (bytes : List ℕ) → All (λ b. 128 ≤ b) (take 10 bytes) → end_within 10 bytes ≡ None
high_only bytes h = end_within-none 10 bytes (length (take 10 bytes))
    (λ k lt. subst (λ b. 128 ≤ b) (get_or-take 10 bytes k 0 (omega (arith, length-take 10 bytes))) (h k 0 (omega arith)))
    (⊎_elim (λ lt. inr (omega (arith, length-take 10 bytes))) (λ le. inl (omega (arith, length-take 10 bytes))) (cases_lt (length bytes) 10))

pub no_end : (bytes : List ℕ) (P : List ℕ → Type 0) → end_within 10 bytes ≡ None → BeginsWith bytes P → ⊥
no_end bytes P e b = let w = begins_only bytes P b in let x = w.1 in cc

pub ends : (bytes : List ℕ) (len : ℕ) → end_within 10 bytes ≡ Some len → All (λ b. 128 ≤ b) (take 10 bytes) → ⊥
ends bytes len e h = let x = high_only bytes h in cc

pub same_end : (bytes : List ℕ) (P : List ℕ → Type 0) (len : ℕ) → end_within 10 bytes ≡ Some len → BeginsWith bytes P → P (take len bytes)
same_end bytes P len e b = let w = begins_only bytes P b in let x = w.1 in subst (λ n. P (take n bytes)) (let q : w.0 ≡ len = cc in q) w.2

pub whole : (bytes : List ℕ) (P : ℕ → Type 0) → length bytes < 10 → All P (take 10 bytes) → All P bytes
whole bytes P l h = let e : take 10 bytes ≡ bytes = take_all 10 bytes (omega arith) in subst (λ xs. All P xs) e h

pub whole_back : (bytes : List ℕ) (P : ℕ → Type 0) → length bytes < 10 → All P bytes → All P (take 10 bytes)
whole_back bytes P l h = let e : take 10 bytes ≡ bytes = take_all 10 bytes (omega arith) in subst (λ xs. All P xs) (sym e) h

abbrev pub Found : List ℕ → Result (ℕ × ℕ) LebFault → Type 0
Found bytes r = IfOk r (λ x. (x.0 < 2 ^ 64) × (x.1 ≤ length bytes) × IsUleb (take x.1 bytes) x.0)

abbrev pub ShortExactly : List ℕ → Result (ℕ × ℕ) LebFault → Type 0
ShortExactly bytes r = (r ≡ Err Short) ↔ ((length bytes < 10) × All (λ b. 128 ≤ b) bytes)

abbrev pub LongExactly : List ℕ → Result (ℕ × ℕ) LebFault → Type 0
LongExactly bytes r = (r ≡ Err Long) ↔ BeginsWith bytes (λ s. (unsigned_value s < 2 ^ 64) × (¬ IsUleb s (unsigned_value s)))

abbrev pub LargeExactly : List ℕ → Result (ℕ × ℕ) LebFault → Type 0
LargeExactly bytes r = (r ≡ Err Large) ↔ (((10 ≤ length bytes) × All (λ b. 128 ≤ b) (take 10 bytes)) ⊎ BeginsWith bytes (λ s. 2 ^ 64 ≤ unsigned_value s))

pub found : (bytes : List ℕ) → IsBytes bytes → Found bytes (first_unsigned bytes)
found bytes f = by_cases bytes (Found bytes) (λ _ _. tt) (λ _ _. tt) (λ _ _ _. tt) (λ _ _ _ _. tt)
    (λ len e h g. let w = IsEnd-from_within 10 bytes len f e in
    let l : length (take len bytes) ≡ len = length-take-le len bytes w.inside in
    (h, w.inside, IsUleb-from_length (take len bytes) w.spelling (omega arith)))

pub short_exactly : (bytes : List ℕ) → ShortExactly bytes (first_unsigned bytes)
short_exactly bytes = by_cases bytes (ShortExactly bytes)
    (λ e h. (λ _. (h, whole bytes (λ b. 128 ≤ b) h (high bytes e)), λ _. refl))
    (λ e h. (λ q. absurd (cc), λ w. absurd (omega (arith, w.0))))
    (λ len e h. (λ q. absurd (cc), λ w. absurd (ends bytes len e (whole_back bytes (λ b. 128 ≤ b) w.0 w.1))))
    (λ len e h g. (λ q. absurd (cc), λ w. absurd (ends bytes len e (whole_back bytes (λ b. 128 ≤ b) w.0 w.1))))
    (λ len e h g. (λ q. absurd (cc), λ w. absurd (ends bytes len e (whole_back bytes (λ b. 128 ≤ b) w.0 w.1))))

not_shortest : (bytes : List ℕ) (len : ℕ) → IsBytes bytes → end_within 10 bytes ≡ Some len → length (uleb (unsigned_value (take len bytes))) < len → ¬ IsUleb (take len bytes) (unsigned_value (take len bytes))
not_shortest bytes len f e g u =
    let w = IsEnd-from_within 10 bytes len f e in
    let l : length (take len bytes) ≡ len = length-take-le len bytes w.inside in
    omega (arith, ap length (IsUleb-is_uleb u))

shortest : (bytes : List ℕ) (len : ℕ) → IsBytes bytes → end_within 10 bytes ≡ Some len → len ≤ length (uleb (unsigned_value (take len bytes))) → IsUleb (take len bytes) (unsigned_value (take len bytes))
shortest bytes len f e g =
    let w = IsEnd-from_within 10 bytes len f e in
    let l : length (take len bytes) ≡ len = length-take-le len bytes w.inside in
    IsUleb-from_length (take len bytes) w.spelling (omega arith)

abbrev IsLong : List ℕ → Type 0
IsLong s = (unsigned_value s < 2 ^ 64) × (¬ IsUleb s (unsigned_value s))

pub long_exactly : (bytes : List ℕ) → IsBytes bytes → LongExactly bytes (first_unsigned bytes)
long_exactly bytes f = by_cases bytes (LongExactly bytes)
    (λ e h. (λ q. absurd (cc), λ w. absurd (no_end bytes IsLong e w)))
    (λ e h. (λ q. absurd (cc), λ w. absurd (no_end bytes IsLong e w)))
    (λ len e h. (λ q. absurd (cc), λ w. absurd (omega (arith, (same_end bytes IsLong len e w).0))))
    (λ len e h g. (λ _. begins bytes IsLong f len e (h, not_shortest bytes len f e g), λ _. refl))
    (λ len e h g. (λ q. absurd (cc), λ w. absurd ((same_end bytes IsLong len e w).1 (shortest bytes len f e g))))

abbrev IsLarge : List ℕ → Type 0
IsLarge s = 2 ^ 64 ≤ unsigned_value s

pub large_exactly : (bytes : List ℕ) → IsBytes bytes → LargeExactly bytes (first_unsigned bytes)
large_exactly bytes f = by_cases bytes (LargeExactly bytes)
    (λ e h. (λ q. absurd (cc), λ w. ⊎_elim (λ p. absurd (omega (arith, p.0))) (λ p. absurd (no_end bytes IsLarge e p)) w))
    (λ e h. (λ _. inl (h, high bytes e), λ _. refl))
    (λ len e h. (λ _. inr (begins bytes IsLarge f len e h), λ _. refl))
    (λ len e h g. (λ q. absurd (cc), λ w. ⊎_elim (λ p. absurd (ends bytes len e p.1)) (λ p. absurd (omega (arith, same_end bytes IsLarge len e p))) w))
    (λ len e h g. (λ q. absurd (cc), λ w. ⊎_elim (λ p. absurd (ends bytes len e p.1)) (λ p. absurd (omega (arith, same_end bytes IsLarge len e p))) w))

-- a spelling that stands first is read, whatever follows it
pub first_unsigned-uleb : (n : ℕ) (rest : List ℕ) → n < 2 ^ 64 → first_unsigned (uleb n ++ rest) ≡ Ok (n, length (uleb n))
unfolding first_unsigned
first_unsigned-uleb n rest h =
    let u = uleb_is n in
    let e = end_within-spelling 10 (uleb n) rest u.spelling (length_uleb-le n h) in
    let front : take (length (uleb n)) (uleb n ++ rest) ≡ uleb n = take_at (uleb n) rest (length (uleb n)) refl in
    let v = u.value_is in
    let fits : nat_lt n (2 ^ 64) ≡ true = grind (arith, nat_tests) in
    let same : nat_lt (length (uleb n)) (length (uleb n)) ≡ false = grind (arith, nat_tests) in
    ap (unsigned_at (uleb n ++ rest)) e ∙ ap (λ s. judged (unsigned_value s) (length (uleb n))) front ∙ ap (λ m. judged m (length (uleb n))) v ∙ rw (fits, same) refl

pub only : (bytes : List ℕ) (n : ℕ) (rest : List ℕ) → n < 2 ^ 64 → bytes ≡ uleb n ++ rest → first_unsigned bytes ≡ Ok (n, length (uleb n))
only bytes n rest h e = ap first_unsigned e ∙ first_unsigned-uleb n rest h

-- where the end was sought
found_by : (bytes : List ℕ) (o : Option ℕ) (len : ℕ) → Ok len ≡ end_or_fault bytes o → Some len ≡ o
found_by bytes None len e = absurd (cc)
found_by bytes (Some n) len e = cc

unsigned_by : (bytes : List ℕ) (o : Option ℕ) (fault : LebFault) → Err fault ≡ end_or_fault bytes o → Err fault ≡ unsigned_at bytes o
unsigned_by bytes None fault e = let q : fault ≡ (if nat_lt (length bytes) 10 then Short else Large) = cc in ap Err q
unsigned_by bytes (Some n) fault e = absurd (cc)

signed_by : (bytes : List ℕ) (o : Option ℕ) (fault : LebFault) → Err fault ≡ end_or_fault bytes o → Err fault ≡ signed_at bytes o
signed_by bytes None fault e = let q : fault ≡ (if nat_lt (length bytes) 10 then Short else Large) = cc in ap Err q
signed_by bytes (Some n) fault e = absurd (cc)

pub end_found : (bytes : List ℕ) (len : ℕ) → Ok len ≡ end_or_fault bytes (end_within 10 bytes) → Some len ≡ end_within 10 bytes
end_found bytes len e = found_by bytes (end_within 10 bytes) len e

pub first_unsigned-fault : (bytes : List ℕ) (fault : LebFault) → Err fault ≡ end_or_fault bytes (end_within 10 bytes) → Err fault ≡ first_unsigned bytes
unfolding first_unsigned
first_unsigned-fault bytes fault e = unsigned_by bytes (end_within 10 bytes) fault e

pub first_signed-fault : (bytes : List ℕ) (fault : LebFault) → Err fault ≡ end_or_fault bytes (end_within 10 bytes) → Err fault ≡ first_signed bytes
unfolding first_signed
first_signed-fault bytes fault e = signed_by bytes (end_within 10 bytes) fault e

-- each way, for the code
pub first_unsigned-large : (bytes : List ℕ) (len n : ℕ) → Some len ≡ end_within 10 bytes → n ≡ unsigned_value (take len bytes) → 2 ^ 64 ≤ n → Err Large ≡ first_unsigned bytes
unfolding first_unsigned
first_unsigned-large bytes len n e v h = let t : nat_lt n (2 ^ 64) ≡ false = grind (arith, nat_tests) in rw (← e, ← v, t) refl

pub first_unsigned-long : (bytes : List ℕ) (len n : ℕ) → Some len ≡ end_within 10 bytes → n ≡ unsigned_value (take len bytes) → n < 2 ^ 64 → length (uleb n) < len → Err Long ≡ first_unsigned bytes
unfolding first_unsigned
first_unsigned-long bytes len n e v h g = let t : nat_lt n (2 ^ 64) ≡ true = grind (arith, nat_tests) in let s : nat_lt (length (uleb n)) len ≡ true = grind (arith, nat_tests) in rw (← e, ← v, t, s) refl

pub first_unsigned-found : (bytes : List ℕ) (len n : ℕ) → Some len ≡ end_within 10 bytes → n ≡ unsigned_value (take len bytes) → n < 2 ^ 64 → len ≤ length (uleb n) → Ok (n, len) ≡ first_unsigned bytes
unfolding first_unsigned
first_unsigned-found bytes len n e v h g = let t : nat_lt n (2 ^ 64) ≡ true = grind (arith, nat_tests) in let s : nat_lt (length (uleb n)) len ≡ false = grind (arith, nat_tests) in rw (← e, ← v, t, s) refl

-- the same for signed numbers
by_sign : (negative : Bool) (len n : ℕ) → n < 2 ^ 63 → len ≤ length (leb (pos n)) → judged_signed negative n len ≡ Ok (from_magnitude negative n, len)
by_sign negative len n h g = let t : nat_lt n (2 ^ 63) ≡ true = grind (arith, nat_tests) in let s : nat_lt (length (leb (pos n))) len ≡ false = grind (arith, nat_tests) in rw (t, s) refl

to_judged : (bytes : List ℕ) (len : ℕ) (negative : Bool) (n : ℕ) → Some len ≡ end_within 10 bytes → negative ≡ ends_negative (take len bytes) → n ≡ magnitude negative (take len bytes) → first_signed bytes ≡ judged_signed negative n len
unfolding first_signed
to_judged bytes len negative n e s v = ap (signed_at bytes) (sym e) ∙ ap (λ t. judged_signed t (magnitude t (take len bytes)) len) (sym s) ∙ ap (λ m. judged_signed negative m len) (sym v)

pub first_signed-large : (bytes : List ℕ) (len : ℕ) (negative : Bool) (n : ℕ) → Some len ≡ end_within 10 bytes → negative ≡ ends_negative (take len bytes) → n ≡ magnitude negative (take len bytes) → 2 ^ 63 ≤ n → Err Large ≡ first_signed bytes
first_signed-large bytes len negative n e s v h = let t : nat_lt n (2 ^ 63) ≡ false = grind (arith, nat_tests) in sym (to_judged bytes len negative n e s v ∙ rw t refl)

pub first_signed-long : (bytes : List ℕ) (len : ℕ) (negative : Bool) (n : ℕ) → Some len ≡ end_within 10 bytes → negative ≡ ends_negative (take len bytes) → n ≡ magnitude negative (take len bytes) → n < 2 ^ 63 → length (leb (pos n)) < len → Err Long ≡ first_signed bytes
first_signed-long bytes len negative n e s v h g = let t : nat_lt n (2 ^ 63) ≡ true = grind (arith, nat_tests) in let u : nat_lt (length (leb (pos n))) len ≡ true = grind (arith, nat_tests) in sym (to_judged bytes len negative n e s v ∙ rw (t, u) refl)

pub first_signed-found : (bytes : List ℕ) (len : ℕ) (negative : Bool) (n : ℕ) (z : ℤ) → Some len ≡ end_within 10 bytes → negative ≡ ends_negative (take len bytes) → n ≡ magnitude negative (take len bytes) → n < 2 ^ 63 → len ≤ length (leb (pos n)) → z ≡ from_magnitude negative n → Ok (z, len) ≡ first_signed bytes
first_signed-found bytes len negative n z e s v h g q = sym (to_judged bytes len negative n e s v ∙ by_sign negative len n h g ∙ ap (λ x. Ok (x, len)) (sym q))

-- a signed spelling that stands first is read, whatever follows it
pub first_signed-leb : (negative : Bool) (n : ℕ) (rest : List ℕ) → n < 2 ^ 63 → first_signed (leb (from_magnitude negative n) ++ rest) ≡ Ok (from_magnitude negative n, length (leb (from_magnitude negative n)))
first_signed-leb negative n rest h =
    let s = leb_spells negative n in
    let z = leb (from_magnitude negative n) in
    let e = end_within-spelling 10 z rest s.spelling (length_leb-le negative n h) in
    let front : take (length z) (z ++ rest) ≡ z = take_at z rest (length z) refl in
    to_judged (z ++ rest) (length z) negative n (sym e) (rw front (sym s.sign)) (rw front (sym s.value)) ∙ by_sign negative (length z) n h (omega (arith, length_leb negative n))

is_judged : (negative : Bool) (n m : ℕ) (z : ℤ) (len : ℕ) → judged_signed negative n m ≡ Ok (z, len) → (n < 2 ^ 63) × (m ≤ length (leb (pos n))) × (z ≡ from_magnitude negative n) × (len ≡ m)
is_judged negative n m z len q = by_lt n (2 ^ 63)
    (λ h t. by_lt (length (leb (pos n))) m
    (λ g s. absurd (let x : ◌≡◌ {A = Result (ℤ × ℕ) LebFault} (Err Long) (Ok (z, len)) = rw (t, s) at q in cc))
    (λ g s. let x : ◌≡◌ {A = Result (ℤ × ℕ) LebFault} (Ok (from_magnitude negative n, m)) (Ok (z, len)) = rw (t, s) at q in
    let y : ◌≡◌ {A = ℤ × ℕ} (from_magnitude negative n, m) (z, len) = cc in
    (h, g, sym (ap (λ (p : ℤ × ℕ). p.0) y), sym (ap (λ (p : ℤ × ℕ). p.1) y))))
    (λ h t. absurd (let x : ◌≡◌ {A = Result (ℤ × ℕ) LebFault} (Err Large) (Ok (z, len)) = rw t at q in cc))

-- what was read is the spelling
pub first_signed-is : (bytes : List ℕ) (z : ℤ) (len : ℕ) → IsBytes bytes → first_signed bytes ≡ Ok (z, len) → (take len bytes ≡ leb z) × (len ≤ length bytes)
unfolding first_signed
first_signed-is bytes z len f r = elim (end_within 10 bytes) as (λ o. end_within 10 bytes ≡ o → signed_at bytes o ≡ Ok (z, len) → (take len bytes ≡ leb z) × (len ≤ length bytes)) [
  | None ↦ λ e q. absurd (cc)
  | Some m ↦ λ e q. let w = is_judged _ _ m z len q in let d = IsEnd-from_within 10 bytes m f e in
      let s = take m bytes in
      let l : length s ≡ m = length-take-le m bytes d.inside in
      let v : signed_value s ≡ z = signed_value-magnitude s ∙ sym w.2 in
      let long : length s ≤ length (leb (signed_value s)) = subst (λ y. length s ≤ length (leb y)) (sym (signed_value-magnitude s)) (omega (arith, w.1, length_leb (ends_negative s) (magnitude (ends_negative s) s))) in
      let u = IsLeb-from_length s d.spelling long in
      subst (λ k. (take k bytes ≡ leb z) × (k ≤ length bytes)) (sym w.3) (subst (λ y. take m bytes ≡ leb y) v (IsLeb-is_leb s _ u), d.inside)
]
    refl r

-- the number that was read fits 64 bits
pub first_signed-fits : (bytes : List ℕ) (z : ℤ) (len : ℕ) → first_signed bytes ≡ Ok (z, len) → (negative : Bool) × (n : ℕ) × (n < 2 ^ 63) × (z ≡ from_magnitude negative n)
unfolding first_signed
first_signed-fits bytes z len r = elim (end_within 10 bytes) as (λ o. signed_at bytes o ≡ Ok (z, len) → (negative : Bool) × (n : ℕ) × (n < 2 ^ 63) × (z ≡ from_magnitude negative n)) [
  | None ↦ λ q. absurd (cc)
  | Some m ↦ λ q. let s = take m bytes in let w = is_judged _ _ m z len q in (ends_negative s, magnitude (ends_negative s) s, w.0, w.2)
]
    r

-- what was read, from the left
pub first_signed-front : (bytes : List ℕ) (z : ℤ) (len : ℕ) → IsBytes bytes → first_signed bytes ≡ Ok (z, len) → bytes ≡ leb z ++ drop len bytes
first_signed-front bytes z len f r = sym (take-append-drop len bytes) ∙ ap (λ s. s ++ drop len bytes) (first_signed-is bytes z len f r).0

pub first_unsigned-front : (bytes : List ℕ) (n len : ℕ) → IsBytes bytes → first_unsigned bytes ≡ Ok (n, len) → (n < 2 ^ 64) × (len ≤ length bytes) × (bytes ≡ uleb n ++ drop len bytes)
first_unsigned-front bytes n len f r =
    let w : Found bytes (Ok (n, len)) = subst (Found bytes) r (found bytes f) in
    (w.0, w.1, sym (take-append-drop len bytes) ∙ ap (λ s. s ++ drop len bytes) (IsUleb-is_uleb w.2))

ok_end : (bytes : List ℕ) (x : ℕ × ℕ) → first_unsigned bytes ≡ Ok x → end_within 10 bytes ≡ Some x.1
unfolding first_unsigned
ok_end bytes x r = elim (end_within 10 bytes) as (λ o. unsigned_at bytes o ≡ Ok x → o ≡ Some x.1) [
  | None ↦ λ q. absurd (cc)
  | Some m ↦ λ q. ap Some (sym (is_end (unsigned_value (take m bytes)) m x q))
]
    r
  where
    is_end : (n m : ℕ) (x : ℕ × ℕ) → judged n m ≡ Ok x → x.1 ≡ m
    is_end n m x q = by_lt n (2 ^ 64)
        (λ h t. by_lt (length (uleb n)) m
        (λ g s. absurd (let y : ◌≡◌ {A = Result (ℕ × ℕ) LebFault} (Err Long) (Ok x) = rw (t, s) at q in cc))
        (λ g s. let y : ◌≡◌ {A = Result (ℕ × ℕ) LebFault} (Ok (n, m)) (Ok x) = rw (t, s) at q in
        let z : ◌≡◌ {A = ℕ × ℕ} (n, m) x = cc in
        sym (ap (λ (p : ℕ × ℕ). p.1) z)))
        (λ h t. absurd (let y : ◌≡◌ {A = Result (ℕ × ℕ) LebFault} (Err Large) (Ok x) = rw t at q in cc))

-- what is read depends on the bytes up to its end alone
pub first_unsigned-prefix : (bytes : List ℕ) (x : ℕ × ℕ) → first_unsigned bytes ≡ Ok x → (x.1 ≤ length bytes) × ((rest : List ℕ) → first_unsigned (take x.1 bytes ++ rest) ≡ Ok x)
unfolding first_unsigned
first_unsigned-prefix bytes x r =
    let e = ok_end bytes x r in
    let w = end_within-front 10 bytes x.1 e in
    (w.0, λ rest. same bytes (take x.1 bytes ++ rest) x.1 e (w.1 rest) (sym (take_at (take x.1 bytes) rest x.1 (length-take-le x.1 bytes w.0))) ∙ r)
  where
    same : (a b : List ℕ) (n : ℕ) → end_within 10 a ≡ Some n → end_within 10 b ≡ Some n → take n a ≡ take n b → first_unsigned b ≡ first_unsigned a
    same a b n p q t = ap (unsigned_at b) q ∙ ap (λ s. judged (unsigned_value s) n) (sym t) ∙ sym (ap (unsigned_at a) p)

ok_signed_end : (bytes : List ℕ) (x : ℤ × ℕ) → first_signed bytes ≡ Ok x → end_within 10 bytes ≡ Some x.1
unfolding first_signed
ok_signed_end bytes x r = elim (end_within 10 bytes) as (λ o. signed_at bytes o ≡ Ok x → o ≡ Some x.1) [
  | None ↦ λ q. absurd (cc)
  | Some m ↦ λ q. ap Some (sym (is_judged _ _ m x.0 x.1 q).3)
]
    r

pub first_signed-prefix : (bytes : List ℕ) (x : ℤ × ℕ) → first_signed bytes ≡ Ok x → (x.1 ≤ length bytes) × ((rest : List ℕ) → first_signed (take x.1 bytes ++ rest) ≡ Ok x)
unfolding first_signed
first_signed-prefix bytes x r =
    let e = ok_signed_end bytes x r in
    let w = end_within-front 10 bytes x.1 e in
    (w.0, λ rest. same bytes (take x.1 bytes ++ rest) x.1 e (w.1 rest) (sym (take_at (take x.1 bytes) rest x.1 (length-take-le x.1 bytes w.0))) ∙ r)
  where
    same : (a b : List ℕ) (n : ℕ) → end_within 10 a ≡ Some n → end_within 10 b ≡ Some n → take n a ≡ take n b → first_signed b ≡ first_signed a
    same a b n p q t = ap (signed_at b) q ∙ ap (λ s. judged_signed (ends_negative s) (magnitude (ends_negative s) s) n) (sym t) ∙ sym (ap (signed_at a) p)

-- the value that is read is that of the spelling
pub first_signed-value : (bytes : List ℕ) (x : ℤ × ℕ) → first_signed bytes ≡ Ok x → x.0 ≡ signed_value (take x.1 bytes)
unfolding first_signed
first_signed-value bytes x r = elim (end_within 10 bytes) as (λ o. signed_at bytes o ≡ Ok x → x.0 ≡ signed_value (take x.1 bytes)) [
  | None ↦ λ q. absurd (cc)
  | Some m ↦ λ q. let w = is_judged _ _ m x.0 x.1 q in
      w.2 ∙ sym (signed_value-magnitude (take m bytes)) ∙ ap (λ n. signed_value (take n bytes)) (sym w.3)
]
    r
