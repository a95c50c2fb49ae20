-- Runs tell where a key stands; how they grow and are cut.
use Rattle.std.proofs.Common.{ℕ, zero, suc, ◌≡◌, ◌+◌, ◌-◌, ◌<◌, ◌≤◌, nat_lt, Bool, List, [], ◌∷◌, ◌++◌, length, get_or, set, take, drop, map, filter, slice_get, true, Some, refl, sym, ap, ◌∙◌, subst, inl, inr, All, AllPairs, Contains, arith}
use Rattle.std.specs.Global.{Vec}
use Rattle.std.specs.List.{insert}
use Rattle.std.specs.List.Sorted.{IsNonDecreasingBy}
use Rattle.std.proofs.lemmas.Bool.{cases_lt, cases_eq, lt-ltb, ltb-true}
use Rattle.std.proofs.lemmas.List.{length-append, get_or_default, flat_map_more, take_more, take_more_set, take-append-le, length-map, map-set, get_or-map, get_or-set_same, get_or-set_other, get_or_past}
use Rattle.std.proofs.lemmas.List.Edits.{length-insert, get_or-insert_below, get_or-insert_at, get_or-insert_above}
use Rattle.std.proofs.lemmas.List.Elements.{All-append, All-cons, All-take, All-drop, All-weaker, All-map, All-filter, filter_passes}
use Rattle.std.proofs.lemmas.List.Kept.{AllPairs-filter}
use Rattle.std.proofs.lemmas.List.Sorted.{IsPermutation-insert, Contains-permutation}
use Rattle.std.proofs.lemmas.Option.{slice_get_within, same_Some}
use Rattle.am_types.proofs.Lists.{Contains-head, Contains-tail}
use Rattle.am_laws.proofs.Ancestry.{Contains-filter}
use Rattle.am_fits.specs.declared.runs.Run.{Run}
use Rattle.am_fits.specs.declared.spans.Span.{Span}
use Rattle.am_fits.specs.declared.table.IdKey.{IdKey}
use Rattle.am_fits.specs.Runs.{key_at, keys_from, span_keys, keys_of, runs_in, AreNew, Apart, HasPlace, IsEntered, Joins, run_below, runs_below, IsRun, AreRuns}
use Rattle.am_fits.proofs.Places.{get_left, get_right, get_either, get_take, get_from_take, pairs_map, contains_map, both_same}

-- ---- keys

pub length-keys : (a c n : ℕ) → length (keys_from a c n) ≡ n
length-keys a c zero = refl
length-keys a c (suc n) = ap suc (length-keys a (c + 1) n)

pub key_get : (a c n j : ℕ) → j < n → slice_get (keys_from a c n) j ≡ Some (key_at a (c + j))
key_get a c zero j l = absurd (omega arith)
key_get a c (suc n) zero l = let e : c ≡ c + 0 = omega arith in ap (λ k. Some (key_at a k)) e
key_get a c (suc n) (suc j) l =
    let again : slice_get (keys_from a (c + 1) n) j ≡ Some (key_at a (c + 1 + j)) = key_get a (c + 1) n j (omega arith) in
    let e : c + 1 + j ≡ c + suc j = omega arith in
    again ∙ ap (λ k. Some (key_at a k)) e

pub key_from : (a c n j : ℕ) (k : IdKey) → slice_get (keys_from a c n) j ≡ Some k → (j < n) × (k ≡ key_at a (c + j))
key_from a c n j k e =
    let within = slice_get_within (keys_from a c n) j k e in
    let long = length-keys a c n in
    let l : j < n = omega arith in
    (l, same_Some k (key_at a (c + j)) (sym e ∙ key_get a c n j l))

pub keys_push : (ss : List Span) (s : Span) → keys_of (ss ++ s ∷ []) ≡ keys_of ss ++ span_keys s
keys_push ss s = sym (flat_map_more span_keys [] ss s)

keys_more : (ss : List Span) (n : ℕ) (s : Span) → n < length ss → s ≡ get_or ss n s → keys_of (take (n + 1) ss) ≡ keys_of (take n ss) ++ span_keys s
keys_more ss n s l e = ap keys_of (take_more ss n s l ∙ ap (λ x. take n ss ++ x ∷ []) (sym e)) ∙ keys_push (take n ss) s

take_keys : (a c m n : ℕ) → m ≤ n → take m (keys_from a c n) ≡ keys_from a c m
take_keys a c zero n l = refl
take_keys a c (suc m) zero l = absurd (omega arith)
take_keys a c (suc m) (suc n) l = ap (λ ks. key_at a c ∷ ks) (take_keys a (c + 1) m n (omega arith))

take_past : (ks more : List IdKey) (m n : ℕ) → n ≡ length ks + m → take n (ks ++ more) ≡ ks ++ take m more
take_past [] more m n e = let s : n ≡ m = omega arith in ap (λ k. take k more) s
take_past (a ∷ ks) more m zero e = absurd (omega arith)
take_past (a ∷ ks) more m (suc n) e = ap (λ l. a ∷ l) (take_past ks more m n (omega arith))

-- the last of some spans leaves, or some of its keys
module _ (ss : List Span) (n left : ℕ) (s : Span) (l : n < length ss) (is : s ≡ get_or ss n s) where
  pub whole_leaves : s.count ≤ left → left ≤ length (keys_of (take (n + 1) ss))
      → (left - s.count ≤ length (keys_of (take n ss))) × (take (length (keys_of (take (n + 1) ss)) - left) (keys_of (take (n + 1) ss)) ≡ take (length (keys_of (take n ss)) - (left - s.count)) (keys_of (take n ss)))
  whole_leaves m k =
      let e = keys_more ss n s l is in
      let size = ap length e ∙ length-append (keys_of (take n ss)) (span_keys s) in
      let own = length-keys s.author s.start s.count in
      let few : length (keys_of (take n ss)) - (left - s.count) ≤ length (keys_of (take n ss)) = omega arith in
      let number : length (keys_of (take (n + 1) ss)) - left ≡ length (keys_of (take n ss)) - (left - s.count) = omega arith in
      (omega arith, (λ j. take (number j) (e j)) ∙ take-append-le (length (keys_of (take n ss)) - (left - s.count)) (keys_of (take n ss)) (span_keys s) few)

  pub part_leaves : left < s.count → keys_of (take (n + 1) (set ss n (record { author = s.author; start = s.start; count = s.count - left }))) ≡ take (length (keys_of (take (n + 1) ss)) - left) (keys_of (take (n + 1) ss))
  part_leaves m =
      let e = keys_more ss n s l is in
      let size = ap length e ∙ length-append (keys_of (take n ss)) (span_keys s) in
      let own = length-keys s.author s.start s.count in
      let number : length (keys_of (take (n + 1) ss)) - left ≡ length (keys_of (take n ss)) + (s.count - left) = omega arith in
      let cut : Span = record { author = s.author; start = s.start; count = s.count - left } in
      ap keys_of (take_more_set ss n cut l) ∙ keys_push (take n ss) cut
      ∙ ap (λ ks. keys_of (take n ss) ++ ks) (sym (take_keys s.author s.start (s.count - left) s.count (omega arith)))
      ∙ sym (take_past (keys_of (take n ss)) (span_keys s) (s.count - left) (length (keys_of (take (n + 1) ss)) - left) number)
      ∙ ap (take (length (keys_of (take (n + 1) ss)) - left)) (sym e)

-- ---- one place at most

pair_apart : (rs : List Run) → AllPairs Apart rs → (r s : Run) (i j : ℕ) → get_or rs i r ≡ r → get_or rs j s ≡ s → i < j → j < length rs → r.start + r.count ≤ s.start
pair_apart rs pairs r s i j e f l m =
    let a : (get_or rs i r).start + (get_or rs i r).count ≤ (get_or rs j r).start = (pairs i j r l m).ends in
    let x = ap (λ (r : Run). r.start) e in
    let y = ap (λ (r : Run). r.count) e in
    let z = ap (λ (r : Run). r.start) (get_or_default rs j r s m ∙ f) in
    omega arith

pub one_place : (rs : List Run) (c p q : ℕ) → AllPairs Apart rs → HasPlace rs c p → HasPlace rs c q → p ≡ q
one_place rs c p q pairs h g =
    let a : h.run.start + h.step ≡ c = h.counter in
    let b : g.run.start + g.step ≡ c = g.counter in
    let m = h.within in
    let n = g.within in
    elim (cases_lt h.is_among.0 g.is_among.0) [
      | inl l ↦ let x = pair_apart rs pairs h.run g.run h.is_among.0 g.is_among.0 h.is_among.2 g.is_among.2 l g.is_among.1 in absurd (omega arith)
      | inr l ↦ elim (cases_lt g.is_among.0 h.is_among.0) [
        | inl k ↦ let x = pair_apart rs pairs g.run h.run g.is_among.0 h.is_among.0 g.is_among.2 h.is_among.2 k h.is_among.1 in absurd (omega arith)
        | inr k ↦
            let same : h.is_among.0 ≡ g.is_among.0 = omega arith in
            let run : h.run ≡ g.run = sym h.is_among.2 ∙ ap (λ i. get_or rs i h.run) same ∙ get_or_default rs g.is_among.0 h.run g.run g.is_among.1 ∙ g.is_among.2 in
            let x = ap (λ (r : Run). r.start) run in
            let y = ap (λ (r : Run). r.first) run in
            let u = h.place in
            let v = g.place in
            omega arith
      ]
    ]

-- all start at the counter or below, where the last does
pub starts_below : (rs : List Run) (c : ℕ) (last : Run) → AllPairs Apart rs → 0 < length rs → last ≡ get_or rs (length rs - 1) last → last.start ≤ c → (k : ℕ) (d : Run) → k < length rs → (get_or rs k d).start ≤ c
starts_below rs c last pairs m at low k d l = elim (cases_lt k (length rs - 1)) [
  | inl n ↦
      let x = (pairs k (length rs - 1) last n (omega arith)).ends in
      let y = ap (λ (r : Run). r.start) at in
      let z = ap (λ (r : Run). r.start) (get_or_default rs k d last l) in
      omega arith
  | inr n ↦
      let same : k ≡ length rs - 1 = omega arith in
      let y = ap (λ (r : Run). r.start) (at ∙ ap (λ i. get_or rs i last) (sym same)) in
      let z = ap (λ (r : Run). r.start) (get_or_default rs k d last l) in
      omega arith
]

pub starts_rise : (rs : List Run) → AllPairs Apart rs → IsNonDecreasingBy (λ r. r.start) rs
starts_rise rs pairs i j d l m = elim (cases_lt i j) [
  | inl n ↦ let x = (pairs i j d n m).ends in omega arith
  | inr n ↦ let same : i ≡ j = omega arith in let x = ap (λ k. (get_or rs k d).start) same in omega arith
]

-- ---- none

pub none_below : (rs : List Run) (c : ℕ) → ((k : ℕ) (d : Run) → k < length rs → c < (get_or rs k d).start) → (p : ℕ) → HasPlace rs c p → ⊥
none_below rs c above p h =
    let x = above h.is_among.0 h.run h.is_among.1 in
    let y = ap (λ (r : Run). r.start) h.is_among.2 in
    let z = h.counter in
    omega arith

-- r is the last run that starts at c or below, and ends before it
pub none_there : (rs : List Run) (c n : ℕ) (r : Run) → AllPairs Apart rs → n < length rs → r ≡ get_or rs n r → ((k : ℕ) (d : Run) → n < k → k < length rs → c < (get_or rs k d).start)
    → r.start ≤ c → r.count ≤ c - r.start → (p : ℕ) → HasPlace rs c p → ⊥
none_there rs c n r pairs m at above low end p h =
    let z : h.run.start + h.step ≡ c = h.counter in
    let w : h.step < h.run.count = h.within in
    elim (cases_lt h.is_among.0 n) [
      | inl l ↦ let x = pair_apart rs pairs h.run r h.is_among.0 n h.is_among.2 (sym at) l m in omega arith
      | inr l ↦ elim (cases_lt n h.is_among.0) [
        | inl k ↦
            let x = above h.is_among.0 h.run k h.is_among.1 in
            let y = ap (λ (r : Run). r.start) h.is_among.2 in
            omega arith
        | inr k ↦
            let same : h.is_among.0 ≡ n = omega arith in
            let run : h.run ≡ r = sym h.is_among.2 ∙ ap (λ i. get_or rs i h.run) same ∙ get_or_default rs n h.run r m ∙ sym at in
            let x = ap (λ (r : Run). r.start) run in
            let y = ap (λ (r : Run). r.count) run in
            omega arith
      ]
    ]

-- ---- a run joins

pub run_stays : (keys more : List IdKey) (a : ℕ) (r : Run) → IsRun keys a r → IsRun (keys ++ more) a r
run_stays keys more a r h = record { some = h.some; each = λ j l. get_left keys more (r.first + j) (key_at a (r.start + j)) (h.each j l) }

pairs_insert : (rs : List Run) (at : ℕ) (r : Run) → at ≤ length rs → AllPairs Apart rs
    → ((k : ℕ) (d : Run) → k < at → (get_or rs k d).start + (get_or rs k d).count ≤ r.start)
    → ((k : ℕ) (d : Run) → at ≤ k → k < length rs → r.start + r.count ≤ (get_or rs k d).start) → AllPairs Apart (insert rs at r)
pairs_insert rs at r within pairs below above i j d l m =
    let long = length-insert rs at r within in
    elim (cases_lt j at) [
      | inl a ↦ both_same Apart _ _ _ _ (sym (get_or-insert_below rs at r d i (omega arith) within)) (sym (get_or-insert_below rs at r d j a within)) (pairs i j d l (omega arith))
      | inr a ↦ elim (cases_lt at j) [
        | inl b ↦ later i (j - 1) l (omega arith) (omega arith) (omega arith)
        | inr b ↦
            let same : at ≡ j = omega arith in
            both_same Apart _ _ _ _ (sym (get_or-insert_below rs at r d i (omega arith) within)) (sym (ap (λ n. get_or (insert rs at r) n d) (sym same) ∙ get_or-insert_at rs at r d within)) (record { ends = below i d (omega arith) })
      ]
    ]
  where
    later : (i k : ℕ) → i < j → j ≡ k + 1 → at ≤ k → k < length rs → Apart (get_or (insert rs at r) i d) (get_or (insert rs at r) j d)
    later i k l is b m =
        let right : get_or rs k d ≡ get_or (insert rs at r) j d = sym (ap (λ n. get_or (insert rs at r) n d) is ∙ get_or-insert_above rs at r d k b within) in
        elim (cases_lt i at) [
          | inl a ↦ both_same Apart _ _ _ _ (sym (get_or-insert_below rs at r d i a within)) right (pairs i k d (omega arith) m)
          | inr a ↦ elim (cases_lt at i) [
            | inl c ↦
                let is_i : i ≡ (i - 1) + 1 = omega arith in
                both_same Apart _ _ _ _ (sym (ap (λ n. get_or (insert rs at r) n d) is_i ∙ get_or-insert_above rs at r d (i - 1) (omega arith) within)) right (pairs (i - 1) k d (omega arith) m)
            | inr c ↦
                let same : i ≡ at = omega arith in
                both_same Apart _ _ _ _ (sym (ap (λ n. get_or (insert rs at r) n d) same ∙ get_or-insert_at rs at r d within)) right (record { ends = above k d b m })
          ]
        ]

module _ (keys : List IdKey) (rs new : ℕ → List Run) (s : Span) (r : Run) (are : AreRuns keys rs) (fresh : AreNew keys s) (some : 1 ≤ s.count)
    (start : r.start ≡ s.start) (first : r.first ≡ length keys) (count : r.count ≡ s.count)
    (entered : IsEntered (rs s.author) r (new s.author)) (others : (a : ℕ) → (a ≡ s.author → ⊥) → new a ≡ rs a) where
  abbrev a : ℕ
  a = s.author

  abbrev all : List IdKey
  all = keys ++ span_keys s

  own : IsRun all a r
  own = record {
    some = omega arith;
    each = λ j l.
        let k : j < s.count = omega arith in
        ap (λ n. slice_get all (n + j)) first ∙ get_right keys (span_keys s) j ∙ key_get a s.start s.count j k ∙ ap (λ n. Some (key_at a (n + j))) (sym start);
  }

  sound_entered : All (IsRun all a) (new a)
  sound_entered =
      let old : All (IsRun all a) (rs a) = All-weaker (IsRun keys a) (IsRun all a) (run_stays keys (span_keys s) a) (rs a) (are.sound a) in
      subst (All (IsRun all a)) (sym entered.is)
      (All-append (IsRun all a) (take entered.at (rs a)) (r ∷ drop entered.at (rs a)) (All-take (IsRun all a) entered.at (rs a) old)
      (All-cons (IsRun all a) r (drop entered.at (rs a)) own (All-drop (IsRun all a) entered.at (rs a) old)))

  -- a run that is there has no counter of the new one
  clear : (k : ℕ) (d : Run) (i j : ℕ) → k < length (rs a) → i < (get_or (rs a) k d).count → j < s.count → (get_or (rs a) k d).start + i ≡ s.start + j → ⊥
  clear k d i j l m n e = fresh.each ((get_or (rs a) k d).first + i) j n ((are.sound a k d l).each i m ∙ ap (λ c. Some (key_at a c)) e)

  before : (k : ℕ) (d : Run) → k < entered.at → (get_or (rs a) k d).start + (get_or (rs a) k d).count ≤ r.start
  before k d l =
      let low = entered.below k d l in
      let within = entered.within in
      elim (cases_lt r.start ((get_or (rs a) k d).start + (get_or (rs a) k d).count)) [
        | inl m ↦ absurd (clear k d (r.start - (get_or (rs a) k d).start) 0 (omega arith) (omega arith) (omega arith) (omega arith))
        | inr m ↦ m
      ]

  behind : (k : ℕ) (d : Run) → entered.at ≤ k → k < length (rs a) → r.start + r.count ≤ (get_or (rs a) k d).start
  behind k d l m =
      let high = entered.above k d l m in
      let some_k = (are.sound a k d m).some in
      elim (cases_lt (get_or (rs a) k d).start (r.start + r.count)) [
        | inl n ↦ absurd (clear k d 0 ((get_or (rs a) k d).start - s.start) m (omega arith) (omega arith) (omega arith))
        | inr n ↦ n
      ]

  apart_entered : AllPairs Apart (new a)
  apart_entered = subst (AllPairs Apart) (sym entered.is) (pairs_insert (rs a) entered.at r entered.within (are.apart a) before behind)

  joins : (x : Run) → Contains (r ∷ rs a) x → Contains (new a) x
  joins x c = subst (λ l. Contains l x) (sym entered.is) (Contains-permutation (r ∷ rs a) (insert (rs a) entered.at r) x (IsPermutation-insert (rs a) entered.at r) c)

  kept_place : (b c p : ℕ) → HasPlace (rs b) c p → HasPlace (new b) c p
  kept_place b c p h = elim (cases_eq b a) [
    | inl e ↦
        let there : Contains (rs a) h.run = subst (λ n. Contains (rs n) h.run) e h.is_among in
        record { run = h.run; is_among = subst (λ n. Contains (new n) h.run) (sym e) (joins h.run (Contains-tail r (rs a) h.run there)); step = h.step; within = h.within; counter = h.counter; place = h.place }
    | inr e ↦ subst (λ l. HasPlace l c p) (sym (others b e)) h
  ]

  found_entered : (p : ℕ) (k : IdKey) → slice_get all p ≡ Some k → HasPlace (new k.author) k.counter p
  found_entered p k e = elim (get_either keys (span_keys s) p k e) [
    | inl f ↦ kept_place k.author k.counter p (are.found p k f)
    | inr f ↦
        let g = key_from a s.start s.count f.0 k f.2 in
        let l : f.0 < s.count = g.0 in
        let at : p ≡ length keys + f.0 = f.1 in
        let here : HasPlace (new a) (s.start + f.0) p = record { run = r; is_among = joins r (Contains-head r (rs a)); step = f.0; within = omega arith; counter = omega arith; place = omega arith } in
        subst (λ (k : IdKey). HasPlace (new k.author) k.counter p) (sym g.1) here
  ]

  pub runs_entered : AreRuns all new
  runs_entered = record {
    sound = λ b. elim (cases_eq b a) [
      | inl e ↦ subst (λ n. All (IsRun all n) (new n)) (sym e) sound_entered
      | inr e ↦ subst (All (IsRun all b)) (sym (others b e)) (All-weaker (IsRun keys b) (IsRun all b) (run_stays keys (span_keys s) b) (rs b) (are.sound b))
    ];
    apart = λ b. elim (cases_eq b a) [
      | inl e ↦ subst (λ n. AllPairs Apart (new n)) (sym e) apart_entered
      | inr e ↦ subst (AllPairs Apart) (sym (others b e)) (are.apart b)
    ];
    found = found_entered;
  }

-- ---- what stands at places below n

below_apart : (n : ℕ) (r s : Run) → Apart r s → Apart (run_below n r) (run_below n s)
below_apart n r s h = let e = h.ends in record { ends = omega arith }

run_cut : (keys : List IdKey) (a n : ℕ) (r : Run) → IsRun keys a r → nat_lt r.first n ≡ true → IsRun (take n keys) a (run_below n r)
run_cut keys a n r h t =
    let l : r.first < n = ltb-true r.first n t in
    let some = h.some in
    record { some = omega arith; each = λ j m. get_take n keys (r.first + j) (omega arith) ∙ h.each j (omega arith) }

pub runs_cut : (keys : List IdKey) (rs new : ℕ → List Run) (n : ℕ) → AreRuns keys rs → ((a : ℕ) → new a ≡ runs_below n (rs a)) → AreRuns (take n keys) new
runs_cut keys rs new n are is = record {
  sound = λ a. subst (All (IsRun (take n keys) a)) (sym (is a)) (All-map (IsRun (take n keys) a) (run_below n) (filter low (rs a))
      (λ k d l. run_cut keys a n (get_or (filter low (rs a)) k d) (All-filter low (IsRun keys a) (rs a) (are.sound a) k d l) (filter_passes low (rs a) k d l)));
  apart = λ a. subst (AllPairs Apart) (sym (is a)) (pairs_map Apart Apart (run_below n) (below_apart n) (record { start = 0; first = 0; count = 0 }) (filter low (rs a)) (AllPairs-filter Apart low (rs a) (are.apart a)));
  found = λ p k e.
      let t = get_from_take n keys p k e in
      let l : p < n = t.0 in
      let h = are.found p k t.1 in
      let m : h.step < h.run.count = h.within in
      let at : h.run.first + h.step ≡ p = h.place in
      let there : Contains (runs_below n (rs k.author)) (run_below n h.run) =
      contains_map (run_below n) (filter low (rs k.author)) h.run (Contains-filter low (rs k.author) h.run h.is_among (lt-ltb h.run.first n (omega arith))) in
      record { run = run_below n h.run; is_among = subst (λ x. Contains x (run_below n h.run)) (sym (is k.author)) there; step = h.step; within = omega arith; counter = h.counter; place = h.place };
}
  where
    low : Run → Bool
    low r = nat_lt r.first n

-- ---- the runs of one author in the table

module _ (rss : List (Vec Run)) (a : ℕ) (v : Vec Run) where
  pub runs_set : a < length rss → runs_in (set rss a v) a ≡ v.items
  runs_set l = let long = length-map rss (λ v. v.items) in ap (λ xs. get_or xs a []) (map-set (λ v. v.items) rss a v) ∙ get_or-set_same (map (λ v. v.items) rss) a v.items [] (omega arith)

  pub runs_set_other : (b : ℕ) → (b ≡ a → ⊥) → runs_in (set rss a v) b ≡ runs_in rss b
  runs_set_other b n = ap (λ xs. get_or xs b []) (map-set (λ v. v.items) rss a v) ∙ get_or-set_other (map (λ v. v.items) rss) a b v.items [] n

pub runs_at : (rss : List (Vec Run)) (a : ℕ) (v : Vec Run) → a < length rss → v ≡ get_or rss a v → runs_in rss a ≡ v.items
runs_at rss a v l e = get_or-map (λ v. v.items) rss a v [] l ∙ sym (ap (λ v. v.items) e)

pub runs_past : (rss : List (Vec Run)) (a : ℕ) → length rss ≤ a → runs_in rss a ≡ []
runs_past rss a l = let long = length-map rss (λ v. v.items) in get_or_past (map (λ v. v.items) rss) a [] (omega arith)

-- where the runs of one author are as they were, all are
pub runs_kept : (rss : List (Vec Run)) (a : ℕ) (old new : Vec Run) → a < length rss → old ≡ get_or rss a old → new.items ≡ old.items → (b : ℕ) → runs_in (set rss a new) b ≡ runs_in rss b
runs_kept rss a old new l at same b = elim (cases_eq b a) [
  | inl e ↦ subst (λ b. runs_in (set rss a new) b ≡ runs_in rss b) (sym e) (runs_set rss a new l ∙ same ∙ sym (runs_at rss a old l at))
  | inr n ↦ runs_set_other rss a new b n
]

-- a run joined those of an author
pub joins_at : (rss : List (Vec Run)) (a : ℕ) (old new : Vec Run) (r : Run) → a < length rss → old ≡ get_or rss a old → Joins old.items r new.items → Joins (runs_in rss a) r (runs_in (set rss a new) a)
joins_at rss a old new r l at e =
    subst (λ xs. Joins xs r (runs_in (set rss a new) a)) (sym (runs_at rss a old l at)) (subst (Joins old.items r) (sym (runs_set rss a new l)) e)
