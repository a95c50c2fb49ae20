-- What a writer of flags holds after each push.
use Rattle.std.proofs.Common.{◌≡◌, ℕ, suc, zero, ◌+◌, ◌^◌, ◌<◌, ◌≤◌, List, [], ◌∷◌, ◌++◌, length, Bool, true, false, not, cond, Option, Some, None, inl, inr, ◌⊎◌, ⊎_elim, refl, sym, ap, ◌∙◌, subst, arith, append_assoc, length-append}
use Rattle.std.specs.Prelude.{replicate}
use Rattle.std.specs.Option.{IfSome}
use Rattle.std.specs.List.{flat_map}
use Rattle.std.proofs.lemmas.List.{length-replicate, append-nil, replicate-append-replicate}
use Rattle.am_leb.specs.Leb.{uleb}
use Rattle.am_flags.specs.Flags.{alternating, OnlyFirstEmpty, LastStands, CanonFlags, AreFalse, CanonMaybe, counts_of, turned, HoldsFlags, flags_written, IsWriting}
use Rattle.am_flags.proofs.Counts.{counts_of-spelled, numbers_first, counts_append, flat_map-append, long_enough}

turned-push : (flag : Bool) (xs : List ℕ) (k : ℕ) → turned flag (xs ++ k ∷ []) ≡ not (turned flag xs)
turned-push flag [] k = refl
turned-push flag (x ∷ xs) k = turned-push (not flag) xs k

alternating-push : (flag : Bool) (xs : List ℕ) (k : ℕ) → alternating flag (xs ++ k ∷ []) ≡ alternating flag xs ++ replicate k (turned flag xs)
alternating-push flag [] k = append-nil (replicate k flag)
alternating-push flag (x ∷ xs) k = ap (λ l. replicate x flag ++ l) (alternating-push (not flag) xs k) ∙ sym (append_assoc (replicate x flag) (alternating (not flag) xs) (replicate k (turned (not flag) xs)))

empty_push : (xs : List ℕ) (k : ℕ) → OnlyFirstEmpty xs → k < 2 ^ 64 → (xs ≡ []) ⊎ (1 ≤ k) → OnlyFirstEmpty (xs ++ k ∷ [])
empty_push [] k o h e = (h, tt)
empty_push (x ∷ xs) k o h e = (o.0, counts_append xs (k ∷ []) o.1 ((⊎_elim (λ n. absurd (cc)) (λ g. g) e, h), tt))

stands_push : (xs : List ℕ) (k : ℕ) → 1 ≤ k → LastStands (xs ++ k ∷ [])
stands_push [] k h = h
stands_push (x ∷ []) k h = h
stands_push (x ∷ y ∷ xs) k h = stands_push (y ∷ xs) k h

done_push : (done : List ℕ) (before : List ℕ) (k : ℕ) → done ≡ flat_map uleb before → done ++ uleb k ≡ flat_map uleb (before ++ k ∷ [])
done_push done before k e = ap (λ d. d ++ uleb k) e ∙ ap (λ s. flat_map uleb before ++ s) (sym (append-nil (uleb k))) ∙ sym (flat_map-append before (k ∷ []))

pub put_same : (done : List ℕ) (flag next : Bool) (count more : ℕ) (list : List Bool) → next ≡ flag → 1 ≤ more → HoldsFlags done flag count list → HoldsFlags done next (count + more) (list ++ replicate more next)
put_same done flag next count more list e m h = subst (λ f. HoldsFlags done f (count + more) (list ++ replicate more f)) (sym e)
    (h.0, h.1, h.2, h.3, inr (omega arith), ap (λ l. l ++ replicate more flag) h.5 ∙ append_assoc (alternating false h.0) (replicate count flag) (replicate more flag) ∙ ap (λ l. alternating false h.0 ++ l) (replicate-append-replicate count more flag))

pub put_turn : (done new : List ℕ) (flag next : Bool) (count more : ℕ) (list : List Bool) → next ≡ not flag → 1 ≤ more → count < 2 ^ 64 → new ≡ done ++ uleb count → HoldsFlags done flag count list → HoldsFlags new next more (list ++ replicate more next)
put_turn done new flag next count more list e m c n h = (
  h.0 ++ count ∷ [],
  empty_push h.0 count h.1 c h.4,
  (n ∙ done_push done h.0 count h.2),
  (e ∙ ap not h.3 ∙ sym (turned-push false h.0 count)),
  inr (omega arith),
  ap (λ l. l ++ replicate more next) (all_pushed done flag count list h),
)
  where
    all_pushed : (done : List ℕ) (flag : Bool) (count : ℕ) (list : List Bool) (h : HoldsFlags done flag count list) → list ≡ alternating false (h.0 ++ count ∷ [])
    all_pushed done flag count list h = h.5 ∙ ap (λ f. alternating false h.0 ++ replicate count f) h.3 ∙ sym (alternating-push false h.0 count)

pub ended_full : (done new : List ℕ) (flag : Bool) (count : ℕ) (list : List Bool) → 1 ≤ count → count < 2 ^ 64 → new ≡ done ++ uleb count → HoldsFlags done flag count list → CanonFlags new list
ended_full done new flag count list p c n h = (
  h.0 ++ count ∷ [],
  empty_push h.0 count h.1 c h.4,
  stands_push h.0 count p,
  (n ∙ done_push done h.0 count h.2),
  (h.5 ∙ ap (λ f. alternating false h.0 ++ replicate count f) h.3 ∙ sym (alternating-push false h.0 count)),
)

pub ended_empty : (done : List ℕ) (flag : Bool) (count : ℕ) (list : List Bool) → count ≡ 0 → HoldsFlags done flag count list → CanonFlags done list
ended_empty done flag count list z h = ⊎_elim (λ e. none e) (λ g. absurd (omega arith)) h.4
  where
    none : h.0 ≡ [] → CanonFlags done list
    none e = ([], tt, tt, (h.2 ∙ ap (flat_map uleb) e), (h.5 ∙ ap (λ b. alternating false b ++ replicate count flag) e ∙ ap (λ n. replicate n flag) z))

pub shown : (done : List ℕ) (flag : Bool) (count : ℕ) (list : List Bool) → HoldsFlags done flag count list → flags_written done flag count ≡ list
shown done flag count list h = ap (λ ks. alternating false ks ++ replicate count flag) (ap counts_of h.2 ∙ counts_of-spelled h.0 (numbers_first h.0 h.1)) ∙ sym h.5

pub none_held : (done : List ℕ) → done ≡ [] → HoldsFlags done false 0 []
none_held done e = ([], tt, e, refl, inl refl, refl)

pub new_written : (done : List ℕ) → done ≡ [] → (flags_written done false 0 ≡ []) × IsWriting false done false 0
new_written done e =
    let s = shown done false 0 [] (none_held done e) in
    (s, (subst (HoldsFlags done false 0) (sym s) (none_held done e), omega arith))

open_writing : (failed : Bool) (done : List ℕ) (flag : Bool) (count : ℕ) → failed ≡ false → IsWriting failed done flag count → IsWriting false done flag count
open_writing true done flag count e w = absurd (cc)
open_writing false done flag count e w = w

in_value : (failed : Bool) (list : List Bool) (value : Option (List Bool)) → failed ≡ false → cond failed None (Some list) ≡ value → Some list ≡ value
in_value true list value e v = absurd (cc)
in_value false list value e v = v

pub count_within : (failed : Bool) (done : List ℕ) (flag : Bool) (count : ℕ) → failed ≡ false → IsWriting failed done flag count → count ≤ length (flags_written done flag count)
count_within failed done flag count e w = omega (arith, length-append (alternating false (counts_of done)) (replicate count flag), length-replicate count flag)

pub room_left : (failed : Bool) (done : List ℕ) (flag : Bool) (count : ℕ) (value : Option (List Bool)) (more : ℕ) → failed ≡ false → IsWriting failed done flag count → cond failed None (Some (flags_written done flag count)) ≡ value → IfSome value (λ list. length list + more ≤ 2 ^ 32) → count + more ≤ 2 ^ 32
room_left failed done flag count value more f w e r =
    let s : length (flags_written done flag count) + more ≤ 2 ^ 32 = subst (λ v. IfSome v (λ list. length list + more ≤ 2 ^ 32)) (sym (in_value failed (flags_written done flag count) value f e)) r in
    omega (arith, s, count_within failed done flag count f w)

pub next_writing : (failed : Bool) (done new : List ℕ) (flag next : Bool) (count now more : ℕ) (value : Option (List Bool)) → failed ≡ false → IsWriting failed done flag count → cond failed None (Some (flags_written done flag count)) ≡ value → IfSome value (λ list. length list + more ≤ 2 ^ 32)
    → ((list : List Bool) → HoldsFlags done flag count list → HoldsFlags new next now (list ++ replicate more next)) → now ≤ count + more
    → IsWriting false new next now × IfSome value (λ list. Some (flags_written new next now) ≡ Some (list ++ replicate more next))
next_writing failed done new flag next count now more value f w e r step le =
    let o = open_writing failed done flag count f w in
    let list = flags_written done flag count in
    let h = step list o.0 in
    let s = shown new next now (list ++ replicate more next) h in (
      (subst (HoldsFlags new next now) (sym s) h, omega (arith, le, room_left failed done flag count value more f w e r)),
      subst (λ v. IfSome v (λ l. Some (flags_written new next now) ≡ Some (l ++ replicate more next))) (in_value failed list value f e) (ap Some s),
    )

pub plain_at_end : (failed : Bool) (done : List ℕ) (flag : Bool) (count : ℕ) (value : Option (List Bool)) → failed ≡ false → IsWriting failed done flag count → cond failed None (Some (flags_written done flag count)) ≡ value
    → (bytes out : List ℕ) → ((flag : Bool) (list : List Bool) → HoldsFlags done flag count list → CanonFlags bytes list) → out ≡ bytes → IfSome value (CanonFlags out)
plain_at_end failed done flag count value f w e bytes out h o =
    subst (λ b. IfSome value (CanonFlags b)) (sym o) (subst (λ v. IfSome v (CanonFlags bytes)) (in_value failed _ value f e) (h flag (flags_written done flag count) (open_writing failed done flag count f w).0))

-- ---- where all are false

false_both : (xs ys : List Bool) → AreFalse (xs ++ ys) → AreFalse xs × AreFalse ys
false_both [] ys h = (tt, h)
false_both (x ∷ xs) ys h = let w = false_both xs ys h.1 in ((h.0, w.0), w.1)

falses : (n : ℕ) → AreFalse (replicate n false)
falses zero = tt
falses (suc n) = (refl, falses n)

no_trues : (n : ℕ) → 1 ≤ n → AreFalse (replicate n true) → ⊥
no_trues zero h a = omega arith
no_trues (suc n) h a = let e = a.0 in cc

nonempty_before : (done before : List ℕ) → 0 < length done → done ≡ flat_map uleb before → before ≡ [] → ⊥
nonempty_before done before n d e = omega (arith, ap length (d ∙ ap (flat_map uleb) e))

some_true : (before : List ℕ) (flag : Bool) (count : ℕ) → (before ≡ [] → ⊥) → OnlyFirstEmpty before → flag ≡ turned false before → (before ≡ []) ⊎ (1 ≤ count) → AreFalse (alternating false before ++ replicate count flag) → ⊥
some_true [] flag count n o t c a = n refl
some_true (k ∷ []) flag count n o t c a = ⊎_elim (λ e. n e) (λ g. no_trues count g (subst (λ f. AreFalse (replicate count f)) t (false_both (alternating false (k ∷ [])) (replicate count flag) a).1)) c
some_true (k ∷ j ∷ js) flag count n o t c a =
    let all = (false_both (alternating false (k ∷ j ∷ js)) (replicate count flag) a).0 in
    no_trues j o.1.0.0 (false_both (replicate j true) (alternating false js) (false_both (replicate k false) (alternating true (j ∷ js)) all).1).0

bare : (done : List ℕ) (flag : Bool) (count : ℕ) (list : List Bool) → length done ≡ 0 → HoldsFlags done flag count list → AreFalse list × (done ≡ [])
bare done flag count list z h =
    let b : h.0 ≡ [] = none h.0 (omega (arith, ap length h.2, long_enough h.0)) in
    let f : flag ≡ false = h.3 ∙ ap (turned false) b in
    (subst AreFalse (sym (h.5 ∙ ap (λ b. alternating false b ++ replicate count flag) b ∙ ap (replicate count) f)) (falses count), h.2 ∙ ap (flat_map uleb) b)
  where
    none : (xs : List ℕ) → length xs ≡ 0 → xs ≡ []
    none [] e = refl
    none (x ∷ xs) e = absurd (omega arith)

pub maybe_bare : (failed : Bool) (done : List ℕ) (flag : Bool) (count : ℕ) (value : Option (List Bool)) → failed ≡ false → IsWriting failed done flag count → cond failed None (Some (flags_written done flag count)) ≡ value → length done ≡ 0 → (out : List ℕ) → out ≡ done → IfSome value (CanonMaybe out)
maybe_bare failed done flag count value f w e z out o =
    subst (λ b. IfSome value (CanonMaybe b)) (sym o) (subst (λ v. IfSome v (CanonMaybe done)) (in_value failed _ value f e) (inl (bare done flag count _ z (open_writing failed done flag count f w).0)))

pub maybe_at_end : (failed : Bool) (done : List ℕ) (flag : Bool) (count : ℕ) (value : Option (List Bool)) → failed ≡ false → IsWriting failed done flag count → cond failed None (Some (flags_written done flag count)) ≡ value → 0 < length done
    → (bytes out : List ℕ) → ((flag : Bool) (list : List Bool) → HoldsFlags done flag count list → CanonFlags bytes list) → out ≡ bytes → IfSome value (CanonMaybe out)
maybe_at_end failed done flag count value f w e n bytes out h out_is =
    let o = (open_writing failed done flag count f w).0 in
    subst (λ b. IfSome value (CanonMaybe b)) (sym out_is) (subst (λ v. IfSome v (CanonMaybe bytes)) (in_value failed _ value f e)
    (inr ((λ a. some_true o.0 flag count (nonempty_before done o.0 n o.2) o.1 o.3 o.4 (subst AreFalse o.5 a)), h flag (flags_written done flag count) o)))

pub differ : (r a b : Bool) → ((r ≡ true → a ≡ b) × (a ≡ b → r ≡ true)) → r ≡ false → a ≡ not b
differ r true false i e = refl
differ r false true i e = refl
differ r true true i e = absurd (let q = i.1 refl in cc)
differ r false false i e = absurd (let q = i.1 refl in cc)

pub none_more : (value : Option (List Bool)) (flag : Bool) (count : ℕ) → count ≡ 0 → IfSome value (λ list. value ≡ Some (list ++ replicate count flag))
none_more None flag count e = tt
none_more (Some list) flag count e = ap Some (sym (append-nil list) ∙ ap (λ n. list ++ replicate n flag) (sym e))
