-- Block lengths as a cursor reads them off the bytes.
use Rattle.std.proofs.Common.{◌≡◌, ℕ, suc, zero, ◌+◌, ◌-◌, ◌^◌, ◌<◌, ◌≤◌, List, [], ◌∷◌, ◌++◌, length, take, drop, Bool, true, false, not, Result, Ok, refl, sym, ap, ◌∙◌, arith, append_assoc, length-append}
use Rattle.std.specs.Prelude.{replicate}
use Rattle.std.specs.List.{flat_map, AllByRecursion, sum}
use Rattle.std.proofs.lemmas.List.{drop_at, take_all, length-drop, drop-drop, take-append-drop, length-replicate, append-nil}
use Rattle.std.proofs.lemmas.List.Sums.{sum_by-cons}
use Rattle.am_leb.specs.Leb.{uleb, IsUleb}
use Rattle.am_leb.specs.Reading.{first_unsigned}
use Rattle.am_leb.specs.declared.LebFault.{LebFault}
use Rattle.am_leb.proofs.Laws.{length_uleb-pos, IsUleb-is_uleb}
use Rattle.am_leb.proofs.Answering.{first_unsigned-uleb}
use Rattle.am_flags.specs.Flags.{alternating, AreCounts, OnlyFirstEmpty, JoinsFlags, count_first, counts_in, counts_of, flags_at, SpellCounts}

abbrev pub AreNumbers : List ℕ → Type 0
AreNumbers counts = AllByRecursion (λ count. count < 2 ^ 64) counts

pub numbers_counts : (counts : List ℕ) → AreCounts counts → AreNumbers counts
numbers_counts [] h = tt
numbers_counts (k ∷ ks) h = (h.0.1, numbers_counts ks h.1)

pub numbers_first : (counts : List ℕ) → OnlyFirstEmpty counts → AreNumbers counts
numbers_first [] h = tt
numbers_first (k ∷ ks) h = (h.0, numbers_counts ks h.1)

pub long_enough : (counts : List ℕ) → length counts ≤ length (flat_map uleb counts)
long_enough [] = omega arith
long_enough (k ∷ ks) = omega (arith, length-append (uleb k) (flat_map uleb ks), length_uleb-pos k, long_enough ks)

counts_in-front : (most k : ℕ) (rest : List ℕ) → k < 2 ^ 64 → counts_in (suc most) (uleb k ++ rest) ≡ k ∷ counts_in most rest
unfolding counts_in
counts_in-front most k rest h = ap (count_first (counts_in most) (uleb k ++ rest)) (first_unsigned-uleb k rest h) ∙ ap (λ b. k ∷ counts_in most b) (drop_at (uleb k) rest (length (uleb k)) refl)

counts_in-all : (counts : List ℕ) (most : ℕ) → AreNumbers counts → length counts ≤ most → counts_in most (flat_map uleb counts) ≡ counts
unfolding counts_in first_unsigned
counts_in-all [] zero h l = refl
counts_in-all [] (suc most) h l = none
  where
    none : counts_in (suc most) [] ≡ []
    none = refl
counts_in-all (k ∷ ks) zero h l = absurd (omega arith)
counts_in-all (k ∷ ks) (suc most) h l = counts_in-front most k (flat_map uleb ks) h.0 ∙ ap (λ b. k ∷ b) (counts_in-all ks most h.1 (omega arith))

pub counts_of-spelled : (counts : List ℕ) → AreNumbers counts → counts_of (flat_map uleb counts) ≡ counts
counts_of-spelled counts h = counts_in-all counts (length (flat_map uleb counts)) h (long_enough counts)

-- bytes are those of one list of counts at most
pub one_counts : (xs ys : List ℕ) → AreNumbers xs → AreNumbers ys → flat_map uleb xs ≡ flat_map uleb ys → xs ≡ ys
one_counts xs ys p q e = sym (counts_of-spelled xs p) ∙ ap counts_of e ∙ counts_of-spelled ys q

pub one_number : (a b : ℕ) (r s : List ℕ) → a < 2 ^ 64 → b < 2 ^ 64 → uleb a ++ r ≡ uleb b ++ s → (a ≡ b) × (r ≡ s)
one_number a b r s h g e =
    let w : ◌≡◌ {A = Result (ℕ × ℕ) LebFault} (Ok (a, length (uleb a))) (Ok (b, length (uleb b))) = sym (first_unsigned-uleb a r h) ∙ ap first_unsigned e ∙ first_unsigned-uleb b s g in
    let same : a ≡ b = (let v : ◌≡◌ {A = ℕ × ℕ} (a, length (uleb a)) (b, length (uleb b)) = cc in ap (λ (p : ℕ × ℕ). p.0) v) in
    (same, sym (drop_at (uleb a) r (length (uleb a)) refl) ∙ ap (drop (length (uleb a))) e ∙ drop_at (uleb b) s (length (uleb a)) (ap (λ n. length (uleb n)) (sym same)))

pub sum-cons : (k : ℕ) (ks : List ℕ) → sum (k ∷ ks) ≡ k + sum ks
sum-cons k ks = sum_by-cons (λ n. n) k ks

pub length-alternating : (flag : Bool) (counts : List ℕ) → length (alternating flag counts) ≡ sum counts
length-alternating flag [] = refl
length-alternating flag (k ∷ ks) = omega (arith, sum-cons k ks, length-append (replicate k flag) (alternating (not flag) ks), length-replicate k flag, length-alternating (not flag) ks)

pub counts_append : (xs ys : List ℕ) → AreCounts xs → AreCounts ys → AreCounts (xs ++ ys)
counts_append [] ys p q = q
counts_append (x ∷ xs) ys p q = (p.0, counts_append xs ys p.1 q)

pub flat_map-append : (xs ys : List ℕ) → flat_map uleb (xs ++ ys) ≡ flat_map uleb xs ++ flat_map uleb ys
flat_map-append [] ys = refl
flat_map-append (x ∷ xs) ys = ap (λ l. uleb x ++ l) (flat_map-append xs ys) ∙ sym (append_assoc (uleb x) (flat_map uleb xs) (flat_map uleb ys))

sum-append : (xs ys : List ℕ) → sum (xs ++ ys) ≡ sum xs + sum ys
sum-append [] ys = omega arith
sum-append (x ∷ xs) ys = omega (arith, sum-append xs ys, sum-cons x xs, sum-cons x (xs ++ ys))

-- ---- the loop over the counts

pub record CountedSoFar (bytes rest : List ℕ) (total : ℕ) : Type 0 where
  pub counts : List ℕ
  pub each : AreCounts counts
  pub front : bytes ≡ flat_map uleb counts ++ rest
  pub total_is : total ≡ sum counts

pub one_counted : (bytes rest behind : List ℕ) (total count : ℕ) → CountedSoFar bytes rest total → rest ≡ uleb count ++ behind → 1 ≤ count → count < 2 ^ 64 → CountedSoFar bytes behind (total + count)
one_counted bytes rest behind total count w e h g = record {
  counts = w.counts ++ count ∷ [];
  each = counts_append w.counts (count ∷ []) w.each ((h, g), tt);
  front = w.front ∙ ap (λ s. flat_map uleb w.counts ++ s) e ∙ sym (append_assoc (flat_map uleb w.counts) (uleb count) behind)
      ∙ ap (λ s. s ++ behind) (ap (λ s. flat_map uleb w.counts ++ s) (sym (append-nil (uleb count))) ∙ sym (flat_map-append w.counts (count ∷ [])));
  total_is = omega (arith, w.total_is, sum-append w.counts (count ∷ []), sum-cons count []);
}

go_on : (done counts rest : List ℕ) → AreCounts done → AreCounts counts → flat_map uleb counts ≡ flat_map uleb done ++ rest → (more : List ℕ) × (counts ≡ done ++ more) × AreCounts more × (rest ≡ flat_map uleb more)
go_on [] counts rest p q e = (counts, refl, q, sym e)
go_on (d ∷ ds) [] rest p q e = absurd (omega (arith, ap length e, length-append (flat_map uleb (d ∷ ds)) rest, length-append (uleb d) (flat_map uleb ds), length_uleb-pos d))
go_on (d ∷ ds) (k ∷ ks) rest p q e =
    let w = one_number k d (flat_map uleb ks) (flat_map uleb ds ++ rest) q.0.1 p.0.1 (e ∙ append_assoc (uleb d) (flat_map uleb ds) rest) in
    let v = go_on ds ks rest p.1 q.1 w.1 in
    (v.0, (let h = w.0 in let t = v.1 in cc), v.2, v.3)

-- where the next count is none, 0 or too great
pub no_next : (bytes rest : List ℕ) (total most : ℕ) → CountedSoFar bytes rest total → total ≤ most → 0 < length rest → ((k : ℕ) (behind : List ℕ) → 1 ≤ k → k < 2 ^ 64 → rest ≡ uleb k ++ behind → most - total < k) → (counts : List ℕ) → AreCounts counts → bytes ≡ flat_map uleb counts → most < sum counts
no_next bytes rest total most w le ne none counts c e =
    let g = go_on w.counts counts rest w.each c (sym e ∙ w.front) in
    longer g.0 g.1 g.2 g.3
  where
    longer : (more : List ℕ) → counts ≡ w.counts ++ more → AreCounts more → rest ≡ flat_map uleb more → most < sum counts
    longer [] a p q = absurd (omega (arith, ap length q))
    longer (k ∷ ks) a p q = omega (arith, none k (flat_map uleb ks) p.0.0 p.0.1 q, w.total_is, ap sum a, sum-append w.counts (k ∷ ks), sum-cons k ks)

pub shorter : (rest behind : List ℕ) (count : ℕ) → rest ≡ uleb count ++ behind → length behind < length rest
shorter rest behind count e = omega (arith, ap length e, length-append (uleb count) behind, length_uleb-pos count)

-- ---- what a cursor shows

pub flags_at-spelled : (flag : Bool) (count : ℕ) (rest counts : List ℕ) → AreCounts counts → rest ≡ flat_map uleb counts → flags_at flag count rest ≡ replicate count flag ++ alternating (not flag) counts
flags_at-spelled flag count rest counts h e = ap (λ ks. replicate count flag ++ alternating (not flag) ks) (ap counts_of e ∙ counts_of-spelled counts (numbers_counts counts h))

-- between blocks
pub open_next : (flag : Bool) (k : ℕ) (rest behind : List ℕ) → k < 2 ^ 64 → SpellCounts rest → rest ≡ uleb k ++ behind → SpellCounts behind × (1 ≤ k) × (flags_at (not flag) k behind ≡ flags_at flag 0 rest)
open_next flag k rest behind g s e = by_counts s.0 s.1 s.2
  where
    by_counts : (counts : List ℕ) → AreCounts counts → rest ≡ flat_map uleb counts → SpellCounts behind × (1 ≤ k) × (flags_at (not flag) k behind ≡ flags_at flag 0 rest)
    by_counts [] c r = absurd (omega (arith, ap length r, ap length e, length-append (uleb k) behind, length_uleb-pos k))
    by_counts (j ∷ js) c r =
        let w = one_number k j behind (flat_map uleb js) g c.0.1 (sym e ∙ r) in (
          (js, c.1, w.1),
          omega (arith, w.0, c.0.0),
          flags_at-spelled (not flag) k behind js c.1 w.1 ∙ ap (λ n. replicate n (not flag) ++ alternating (not (not flag)) js) w.0 ∙ sym (flags_at-spelled flag 0 rest (j ∷ js) c r),
        )

pub ends_here : (flag : Bool) (rest : List ℕ) → SpellCounts rest → ((n : ℕ) (behind : List ℕ) → n < 2 ^ 64 → rest ≡ uleb n ++ behind → ⊥) → flags_at flag 0 rest ≡ []
ends_here flag rest s none = by_counts s.0 s.1 s.2
  where
    by_counts : (counts : List ℕ) → AreCounts counts → rest ≡ flat_map uleb counts → flags_at flag 0 rest ≡ []
    by_counts [] c r = flags_at-spelled flag 0 rest [] c r
    by_counts (j ∷ js) c r = absurd (none j (flat_map uleb js) c.0.1 r)

-- ---- for the code

pub front_of : (bytes : List ℕ) (n len : ℕ) → (n < 2 ^ 64) × (len ≤ length bytes) × IsUleb (take len bytes) n → (n < 2 ^ 64) × (bytes ≡ uleb n ++ take (length bytes - len) (drop len bytes))
front_of bytes n len f =
    let whole : take (length bytes - len) (drop len bytes) ≡ drop len bytes = take_all (length bytes - len) (drop len bytes) (omega (arith, length-drop len bytes)) in
    (f.0, sym (take-append-drop len bytes) ∙ ap (λ s. s ++ drop len bytes) (IsUleb-is_uleb f.2) ∙ ap (λ s. uleb n ++ s) (sym whole))

empty : (bytes : List ℕ) → length bytes ≡ 0 → bytes ≡ []
empty [] e = refl
empty (x ∷ bytes) e = absurd (omega arith)

pub over_nothing : (bytes : List ℕ) (most : ℕ) → length bytes ≡ 0 → (SpellCounts bytes × (0 ≡ length (flags_at false 0 bytes))) × (JoinsFlags bytes (flags_at false 0 bytes) × (length (flags_at false 0 bytes) ≤ most))
over_nothing bytes most e =
    let b = empty bytes e in
    let f : flags_at false 0 bytes ≡ [] = flags_at-spelled false 0 bytes [] tt b in
    ((([], tt, b), ap length (sym f)), (([], tt, b, f), omega (arith, ap length f)))

-- behind the first count
pub over_counts : (bytes rest : List ℕ) (count total most : ℕ) → count < 2 ^ 64 → bytes ≡ uleb count ++ rest → count ≤ most → total ≤ most - count → ((counts : List ℕ) × AreCounts counts × (rest ≡ flat_map uleb counts) × (total ≡ sum counts))
    → (SpellCounts rest × (count + total ≡ length (flags_at false count rest))) × (JoinsFlags bytes (flags_at false count rest) × (length (flags_at false count rest) ≤ most))
over_counts bytes rest count total most h e le l w =
    let f = flags_at-spelled false count rest w.0 w.1 w.2 in
    let size : length (flags_at false count rest) ≡ count + total = omega (arith, ap length f, length-append (replicate count false) (alternating true w.0), length-replicate count false, length-alternating true w.0, w.3) in
    (((w.0, w.1, w.2), sym size), ((count ∷ w.0, (h, w.1), (e ∙ ap (λ s. uleb count ++ s) w.2), f), omega (arith, size)))

-- a list that the bytes spell begins with the first count
pub first_counts : (bytes rest : List ℕ) (count : ℕ) (flags : List Bool) → 0 < length bytes → count < 2 ^ 64 → bytes ≡ uleb count ++ rest → JoinsFlags bytes flags → (counts : List ℕ) × AreCounts counts × (rest ≡ flat_map uleb counts) × (length flags ≡ count + sum counts)
first_counts bytes rest count flags n h e j = by_counts j.0 j.1 j.2 j.3
  where
    by_counts : (counts : List ℕ) → OnlyFirstEmpty counts → bytes ≡ flat_map uleb counts → flags ≡ alternating false counts → (counts : List ℕ) × AreCounts counts × (rest ≡ flat_map uleb counts) × (length flags ≡ count + sum counts)
    by_counts [] c b f = absurd (omega (arith, ap length b))
    by_counts (k ∷ ks) c b f =
        let w = one_number count k rest (flat_map uleb ks) h c.0 (sym e ∙ b) in
        (ks, c.1, w.1, omega (arith, ap length f, w.0, length-alternating false (k ∷ ks), sum-cons k ks))

pub no_first : (bytes : List ℕ) (flags : List Bool) → 0 < length bytes → ((n : ℕ) (rest : List ℕ) → n < 2 ^ 64 → bytes ≡ uleb n ++ rest → ⊥) → JoinsFlags bytes flags → ⊥
no_first bytes flags n none j = by_counts j.0 j.1 j.2
  where
    by_counts : (counts : List ℕ) → OnlyFirstEmpty counts → bytes ≡ flat_map uleb counts → ⊥
    by_counts [] c b = omega (arith, ap length b)
    by_counts (k ∷ ks) c b = none k (flat_map uleb ks) c.0 b

-- what bytes are known to spell, from the first count on

pub known_nothing : (bytes : List ℕ) (flags : List Bool) (count : ℕ) → JoinsFlags bytes flags → length flags ≡ count → ((n : ℕ) (rest : List ℕ) → n < 2 ^ 64 → bytes ≡ uleb n ++ rest → ⊥)
    → (SpellCounts bytes × (count ≡ length (flags_at false 0 bytes))) × JoinsFlags bytes (flags_at false 0 bytes)
known_nothing bytes flags count j n none = by_counts j.0 j.1 j.2 j.3
  where
    by_counts : (counts : List ℕ) → OnlyFirstEmpty counts → bytes ≡ flat_map uleb counts → flags ≡ alternating false counts → (SpellCounts bytes × (count ≡ length (flags_at false 0 bytes))) × JoinsFlags bytes (flags_at false 0 bytes)
    by_counts [] c b f =
        let w = over_nothing bytes 0 (ap length b) in
        ((w.0.0, sym n ∙ ap length f ∙ w.0.1), w.1.0)
    by_counts (k ∷ ks) c b f = absurd (none k (flat_map uleb ks) c.0 b)

pub known_counts : (bytes rest : List ℕ) (first : ℕ) (flags : List Bool) (count : ℕ) → JoinsFlags bytes flags → length flags ≡ count → first < 2 ^ 64 → bytes ≡ uleb first ++ rest
    → (SpellCounts rest × (count ≡ length (flags_at false first rest))) × JoinsFlags bytes (flags_at false first rest)
known_counts bytes rest first flags count j n h e =
    let f = first_counts bytes rest first flags (omega (arith, ap length e, length-append (uleb first) rest, length_uleb-pos first)) h e j in
    let most = first + sum f.0 in
    let w = over_counts bytes rest first (sum f.0) most h e (omega arith) (omega arith) (f.0, f.1, f.2, refl) in
    ((w.0.0, sym n ∙ f.3 ∙ w.0.1), w.1.0)

drop_replicate : (flag : Bool) (k n : ℕ) (xs : List Bool) → k ≤ n → drop k (replicate n flag ++ xs) ≡ replicate (n - k) flag ++ xs
drop_replicate flag zero n xs h = ap (λ m. replicate m flag ++ xs) (let e : n ≡ n - 0 = omega arith in e)
drop_replicate flag (suc k) zero xs h = absurd (omega arith)
drop_replicate flag (suc k) (suc n) xs h = drop_replicate flag k n xs (omega arith) ∙ ap (λ m. replicate m flag ++ xs) (let e : n - k ≡ suc n - suc k = omega arith in e)

pub flags-jump : (flag : Bool) (count k n : ℕ) (rest : List ℕ) (list : List Bool) → k ≤ count → k ≤ n → flags_at flag count rest ≡ list → drop (n - k) (flags_at flag (count - k) rest) ≡ drop n list
flags-jump flag count k n rest list h g e =
    ap (drop (n - k)) (sym (drop_replicate flag k count (alternating (not flag) (counts_of rest)) h)) ∙ drop-drop (n - k) k (flags_at flag count rest) ∙ ap (λ m. drop m (flags_at flag count rest)) (let q : k + (n - k) ≡ n = omega arith in q) ∙ ap (drop n) e

pub drop_nothing : (n : ℕ) (xs : List Bool) → xs ≡ [] → drop n xs ≡ []
drop_nothing n xs e = ap (drop n) e ∙ nothing n
  where
    nothing : (n : ℕ) → ◌≡◌ {A = List Bool} (drop n []) []
    nothing zero = refl
    nothing (suc n) = refl
