-- The last run of an author goes on.
use Rattle.std.proofs.Common.{ℕ, ◌≡◌, ◌+◌, ◌-◌, ◌<◌, ◌≤◌, List, ◌++◌, length, get_or, slice_get, Some, sym, ap, ◌∙◌, subst, inl, inr, All, AllPairs, arith}
use Rattle.std.proofs.lemmas.Bool.{cases_lt, cases_eq}
use Rattle.std.proofs.lemmas.List.{get_or-set_same, get_or-set_other, length-set}
use Rattle.std.proofs.lemmas.List.Elements.{All-weaker}
use Rattle.am_fits.specs.declared.runs.Run.{Run}
use Rattle.am_fits.specs.declared.spans.Span.{Span}
use Rattle.am_fits.specs.declared.table.IdKey.{IdKey}
use Rattle.am_fits.specs.Runs.{key_at, span_keys, AreNew, Apart, GoesOn, HasPlace, IsLengthened, Joins, IsRun, AreRuns}
use Rattle.am_fits.proofs.Places.{get_right, get_either, both_same}
use Rattle.am_fits.proofs.RunLaws.{key_get, key_from, run_stays, runs_entered}

module _ (keys : List IdKey) (rs new : ℕ → List Run) (s : Span) (r : Run) (are : AreRuns keys rs) (some : 1 ≤ s.count)
    (start : r.start ≡ s.start) (first : r.first ≡ length keys) (count : r.count ≡ s.count)
    (longer : IsLengthened (rs s.author) r (new s.author)) (others : (a : ℕ) → (a ≡ s.author → ⊥) → new a ≡ rs a) where
  abbrev a : ℕ
  a = s.author

  abbrev all : List IdKey
  all = keys ++ span_keys s

  abbrev at : ℕ
  at = longer.at

  long : length (new a) ≡ length (rs a)
  long = ap length longer.is ∙ length-set (rs a) at longer.longer

  at_last : (d : Run) → get_or (new a) at d ≡ longer.longer
  at_last d = let e = longer.last in ap (λ l. get_or l at d) longer.is ∙ get_or-set_same (rs a) at longer.longer d (omega arith)

  at_other : (k : ℕ) (d : Run) → (k ≡ at → ⊥) → get_or (new a) k d ≡ get_or (rs a) k d
  at_other k d n = ap (λ l. get_or l k d) longer.is ∙ get_or-set_other (rs a) at k longer.longer d n

  whole : IsRun all a longer.longer
  whole =
      let d : Run = r in
      let on = longer.goes_on d in
      let e = longer.last in
      let old = are.sound a at d (omega arith) in
      let on_start = on.start in let on_first = on.first in let on_count = on.count in let on_counters = on.counters in let on_places = on.places in
      let old_some = old.some in
      record {
        some = omega arith;
        each = λ j l. elim (cases_lt j (get_or (rs a) at d).count) [
          | inl m ↦ ap (λ n. slice_get all (n + j)) on_first ∙ (run_stays keys (span_keys s) a (get_or (rs a) at d) old).each j m ∙ ap (λ n. Some (key_at a (n + j))) (sym on_start)
          | inr m ↦
              let k : j - (get_or (rs a) at d).count < s.count = omega arith in
              let place : longer.longer.first + j ≡ length keys + (j - (get_or (rs a) at d).count) = omega arith in
              let counter : s.start + (j - (get_or (rs a) at d).count) ≡ longer.longer.start + j = omega arith in
              ap (slice_get all) place ∙ get_right keys (span_keys s) (j - (get_or (rs a) at d).count) ∙ key_get a s.start s.count (j - (get_or (rs a) at d).count) k ∙ ap (λ n. Some (key_at a n)) counter
        ];
      }

  sound_longer : All (IsRun all a) (new a)
  sound_longer k d l = elim (cases_eq k at) [
    | inl e ↦ subst (IsRun all a) (sym (ap (λ k. get_or (new a) k d) e ∙ at_last d)) whole
    | inr n ↦ subst (IsRun all a) (sym (at_other k d n)) (run_stays keys (span_keys s) a (get_or (rs a) k d) (are.sound a k d (let e = long in omega arith)))
  ]

  apart_longer : AllPairs Apart (new a)
  apart_longer i j d l m =
      let e = long in
      let f = longer.last in
      let before : (i ≡ at → ⊥) = λ g. absurd (omega arith) in
      let both = are.apart a i j d l (omega arith) in
      elim (cases_eq j at) [
        | inl g ↦
            let moved : Apart (get_or (rs a) i d) (get_or (rs a) at d) = subst (λ j. Apart (get_or (rs a) i d) (get_or (rs a) j d)) g both in
            let h = moved.ends in
            let on_start = (longer.goes_on d).start in
            both_same Apart _ _ _ _ (sym (at_other i d before)) (sym (ap (λ j. get_or (new a) j d) g ∙ at_last d)) (record { ends = omega arith })
        | inr n ↦ both_same Apart _ _ _ _ (sym (at_other i d before)) (sym (at_other j d n)) both
      ]

  here : (j : ℕ) → j < s.count → HasPlace (new a) (s.start + j) (length keys + j)
  here j l =
      let d : Run = r in
      let e = long in let f = longer.last in
      let on = longer.goes_on d in
      let on_start = on.start in let on_first = on.first in let on_count = on.count in let on_counters = on.counters in let on_places = on.places in
      record { run = longer.longer; is_among = (at, omega arith, at_last longer.longer); step = (get_or (rs a) at d).count + j; within = omega arith; counter = omega arith; place = omega arith }

  stays : (c p : ℕ) → HasPlace (rs a) c p → HasPlace (new a) c p
  stays c p h =
      let e = long in let f = longer.last in
      let k = h.is_among.0 in
      let within : k < length (rs a) = h.is_among.1 in
      let is : get_or (rs a) k h.run ≡ h.run = h.is_among.2 in
      elim (cases_eq k at) [
        | inl g ↦
            let same : get_or (rs a) at h.run ≡ h.run = ap (λ k. get_or (rs a) k h.run) (sym g) ∙ is in
            let on : GoesOn h.run r longer.longer = subst (λ x. GoesOn x r longer.longer) same (longer.goes_on h.run) in
            let on_start = on.start in let on_first = on.first in let on_count = on.count in
            let h_within = h.within in let h_counter = h.counter in let h_place = h.place in
            record { run = longer.longer; is_among = (at, omega arith, at_last longer.longer); step = h.step; within = omega arith; counter = omega arith; place = omega arith }
        | inr n ↦ record { run = h.run; is_among = (k, omega arith, at_other k h.run n ∙ is); step = h.step; within = h.within; counter = h.counter; place = h.place }
      ]

  stays_all : (b c p : ℕ) → HasPlace (rs b) c p → HasPlace (new b) c p
  stays_all b c p h = elim (cases_eq b a) [
    | inl e ↦ subst (λ n. HasPlace (new n) c p) (sym e) (stays c p (subst (λ n. HasPlace (rs n) c p) e h))
    | inr e ↦ subst (λ l. HasPlace l c p) (sym (others b e)) h
  ]

  found_longer : (p : ℕ) (k : IdKey) → slice_get all p ≡ Some k → HasPlace (new k.author) k.counter p
  found_longer p k e = elim (get_either keys (span_keys s) p k e) [
    | inl f ↦ stays_all k.author k.counter p (are.found p k f)
    | inr f ↦
        let g = key_from a s.start s.count f.0 k f.2 in
        subst (λ (k : IdKey). HasPlace (new k.author) k.counter p) (sym g.1) (subst (HasPlace (new a) (s.start + f.0)) (sym f.1) (here f.0 g.0))
  ]

  pub runs_lengthened : AreRuns all new
  runs_lengthened = record {
    sound = λ b. elim (cases_eq b a) [
      | inl e ↦ subst (λ n. All (IsRun all n) (new n)) (sym e) sound_longer
      | inr e ↦ subst (All (IsRun all b)) (sym (others b e)) (All-weaker (IsRun keys b) (IsRun all b) (run_stays keys (span_keys s) b) (rs b) (are.sound b))
    ];
    apart = λ b. elim (cases_eq b a) [
      | inl e ↦ subst (λ n. AllPairs Apart (new n)) (sym e) apart_longer
      | inr e ↦ subst (AllPairs Apart) (sym (others b e)) (are.apart b)
    ];
    found = found_longer;
  }

-- a run joins those of an author
pub runs_joined : (keys : List IdKey) (rs new : ℕ → List Run) (s : Span) (r : Run) → AreRuns keys rs → AreNew keys s → 1 ≤ s.count → r.start ≡ s.start → r.first ≡ length keys → r.count ≡ s.count
    → Joins (rs s.author) r (new s.author) → ((a : ℕ) → (a ≡ s.author → ⊥) → new a ≡ rs a) → AreRuns (keys ++ span_keys s) new
runs_joined keys rs new s r are fresh some start first count joins others = elim joins [
  | inl entered ↦ runs_entered keys rs new s r are fresh some start first count entered others
  | inr longer ↦ runs_lengthened keys rs new s r are some start first count longer others
]
