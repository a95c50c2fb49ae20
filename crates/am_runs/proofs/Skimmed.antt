-- Numbers passed without reading them: those of one byte all at once, others byte by byte.
use Rattle.std.proofs.Common.{◌≡◌, ℕ, suc, zero, ◌+◌, ◌-◌, ◌<◌, ◌≤◌, List, [], ◌∷◌, length, take, drop, get_or, Option, Some, refl, sym, ap, ◌∙◌, subst, arith, length-drop, ⊎_elim}
use Rattle.std.specs.Str.{IsAscii}
use Rattle.std.proofs.lemmas.Bool.{cases_lt}
use Rattle.std.proofs.lemmas.List.{drop-drop, get_or-drop}
use Rattle.am_leb.proofs.Answering.{IsBytes}
use Rattle.am_leb.proofs.Ending.{first_unsigned-ends, first_signed-ends}
use Rattle.am_runs.specs.Items.{length_read, unsigned_end, signed_end, IsLast}
use Rattle.am_runs.specs.Walking.{and_behind, behind_items}
use Rattle.am_runs.proofs.RunsRead.{behind_items-more, behind_items-none}

pub singles : (end : List ℕ → Option ℕ) → ((b : ℕ) (tail : List ℕ) → b < 128 → end (b ∷ tail) ≡ Some 1) → (n : ℕ) (bytes : List ℕ) → n ≤ length bytes → IsAscii (take n bytes) → behind_items end n bytes ≡ Some (drop n bytes)
unfolding behind_items
singles end one zero bytes h a = refl
singles end one (suc n) [] h a = absurd (omega arith)
singles end one (suc n) (b ∷ bytes) h a = ap (and_behind (behind_items end n) (b ∷ bytes)) (one b bytes (a 0)) ∙ singles end one n bytes (omega arith) (λ i. a (suc i))

-- Of the number at the start, the bytes up to this place say that more follow, and so many numbers are left from it.
pub record Skims (end : List ℕ → Option ℕ) (bytes : List ℕ) (count left start i : ℕ) : Type 0 where
  pub going : 0 < left
  pub begun : start ≤ i
  pub near : i ≤ start + 9
  pub high : (k : ℕ) → start ≤ k → k < i → 128 ≤ get_or bytes k 0
  pub so_far : behind_items end count bytes ≡ behind_items end left (drop start bytes)

pub goes_on : (end : List ℕ → Option ℕ) (bytes : List ℕ) (count left start i : ℕ) → Skims end bytes count left start i → 128 ≤ get_or bytes i 0 → i - start ≤ 8 → Skims end bytes count left start (i + 1)
goes_on end bytes count left start i s h m = record {
  going = s.going;
  begun = omega (arith, s.begun);
  near = omega (arith, s.begun);
  high = λ k l n. ⊎_elim (λ p. s.high k l p) (λ p. let q : i ≡ k = omega arith in subst (λ j. 128 ≤ get_or bytes j 0) q h) (cases_lt k i);
  so_far = s.so_far;
}

-- the number ends here
pub one_less : (end : List ℕ → Option ℕ) (bytes : List ℕ) (count left start i : ℕ) → Skims end bytes count left start i → end (drop start bytes) ≡ Some (suc (i - start)) → behind_items end count bytes ≡ behind_items end (left - 1) (drop (i + 1) bytes)
one_less end bytes count left start i s e =
    s.so_far ∙ behind_items-more end left (drop start bytes) (drop (i + 1) bytes) s.going
    (ap Some (ap (λ n. drop n bytes) (let q : i + 1 ≡ start + suc (i - start) = omega (arith, s.begun) in q) ∙ sym (drop-drop (suc (i - start)) start bytes)) ∙ ap (and_behind Some (drop start bytes)) (sym e))

pub next_begun : (end : List ℕ → Option ℕ) (bytes : List ℕ) (count left start i : ℕ) → Skims end bytes count left start i → end (drop start bytes) ≡ Some (suc (i - start)) → 0 < left - 1 → Skims end bytes count (left - 1) (i + 1) (i + 1)
next_begun end bytes count left start i s e h = record {
  going = h;
  begun = omega arith;
  near = omega arith;
  high = λ k l m. absurd (omega arith);
  so_far = one_less end bytes count left start i s e;
}

pub all_passed : (end : List ℕ → Option ℕ) (bytes : List ℕ) (count left start i : ℕ) → Skims end bytes count left start i → end (drop start bytes) ≡ Some (suc (i - start)) → left - 1 ≡ 0 → behind_items end count bytes ≡ Some (drop (i + 1) bytes)
all_passed end bytes count left start i s e h = one_less end bytes count left start i s e ∙ behind_items-none end (left - 1) (drop (i + 1) bytes) h

-- A byte below 128 is the last one of the number that was begun.
pub is_last : (end : List ℕ → Option ℕ) (bytes : List ℕ) (count left start i : ℕ) → Skims end bytes count left start i → i - start ≤ 8 → get_or bytes i 0 < 128 → IsLast bytes start i
is_last end bytes count left start i s few low = (omega (arith, s.begun), low, s.high)

-- A last byte ends a number, of nine bytes at most, if it isn't one too many.
pub unsigned_ends : (bytes : List ℕ) (start i : ℕ) → IsBytes bytes → start ≤ i → i < length bytes → IsLast bytes start i → (start < i → 0 < get_or bytes i 0) → unsigned_end (drop start bytes) ≡ Some (suc (i - start))
unsigned_ends bytes start i f begun inside ending some =
    let at : (k : ℕ) → get_or (drop start bytes) k 0 ≡ get_or bytes (start + k) 0 = λ k. get_or-drop start bytes k 0 in
    let last : get_or (drop start bytes) (i - start) 0 ≡ get_or bytes i 0 = at (i - start) ∙ ap (λ j. get_or bytes j 0) (let q : start + (i - start) ≡ i = omega arith in q) in
    ap length_read (first_unsigned-ends (drop start bytes) (i - start)
    (λ k. subst (λ b. b < 256) (sym (at k)) (f (start + k)))
    (omega (arith, ending.0))
    (omega (arith, length-drop start bytes))
    (λ k lt. subst (λ b. 128 ≤ b) (sym (at k)) (ending.2 (start + k) (omega arith) (omega arith)))
    (subst (λ b. b < 128) (sym last) ending.1)
    (λ p. subst (λ b. 0 < b) (sym last) (some (omega arith))))

pub signed_ends : (bytes : List ℕ) (start i : ℕ) → IsBytes bytes → start ≤ i → i < length bytes → IsLast bytes start i
    → (start < i → get_or bytes i 0 ≡ 0 → 192 ≤ get_or bytes (i - 1) 0) → (start < i → get_or bytes i 0 ≡ 127 → get_or bytes (i - 1) 0 < 192) → signed_end (drop start bytes) ≡ Some (suc (i - start))
signed_ends bytes start i f begun inside ending zeros ones =
    let at : (k : ℕ) → get_or (drop start bytes) k 0 ≡ get_or bytes (start + k) 0 = λ k. get_or-drop start bytes k 0 in
    let last : get_or (drop start bytes) (i - start) 0 ≡ get_or bytes i 0 = at (i - start) ∙ ap (λ j. get_or bytes j 0) (let q : start + (i - start) ≡ i = omega arith in q) in
    let before : 0 < i - start → get_or (drop start bytes) (i - start - 1) 0 ≡ get_or bytes (i - 1) 0 = λ p. at (i - start - 1) ∙ ap (λ j. get_or bytes j 0) (let q : start + (i - start - 1) ≡ i - 1 = omega arith in q) in
    ap length_read (first_signed-ends (drop start bytes) (i - start)
    (λ k. subst (λ b. b < 256) (sym (at k)) (f (start + k)))
    (omega (arith, ending.0))
    (omega (arith, length-drop start bytes))
    (λ k lt. subst (λ b. 128 ≤ b) (sym (at k)) (ending.2 (start + k) (omega arith) (omega arith)))
    (subst (λ b. b < 128) (sym last) ending.1)
    (λ p e. subst (λ b. 192 ≤ b) (sym (before p)) (zeros (omega arith) (sym last ∙ e)))
    (λ p e. subst (λ b. b < 192) (sym (before p)) (ones (omega arith) (sym last ∙ e)))).1
