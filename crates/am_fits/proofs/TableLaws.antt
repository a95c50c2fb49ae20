-- What a table finds, and what it says once operations join or leave.
use Rattle.std.proofs.Common.{ℕ, ◌≡◌, ◌+◌, ◌-◌, ◌<◌, ◌≤◌, ◌^◌, min, List, [], ◌∷◌, ◌++◌, length, get_or, take, map, slice_get, true, Some, None, option_map, refl, sym, ap, ◌∙◌, subst, inl, inr, All, AllPairs, arith}
use Rattle.std.specs.List.{zip}
use Rattle.std.specs.Map.{lookup}
use Rattle.std.proofs.lemmas.List.{length-append, length-take, length-map, map-append, take-map, take_all, get_or_past}
use Rattle.std.proofs.lemmas.List.Elements.{All-append, All-contains, All-weaker}
use Rattle.std.proofs.lemmas.Slice.Zip.{length-zip}
use Rattle.std.proofs.lemmas.Option.{slice_get_within, slice_get-get_or, slice_get_cases}
use Rattle.am_types.specs.declared.OpId.{OpId}
use Rattle.am_types.specs.declared.Change.{Change}
use Rattle.am_types.specs.Operations.{Operation, operations}
use Rattle.am_graph.specs.Reaches.{number}
use Rattle.am_fits.specs.contracts.table.IdKeyPartialEq.TheImpl as equality
use Rattle.am_fits.specs.declared.runs.Run.{Run}
use Rattle.am_fits.specs.declared.spans.Span.{Span}
use Rattle.am_fits.specs.declared.table.IdKey.{IdKey}
use Rattle.am_fits.specs.declared.table.Kept.{Kept}
use Rattle.am_fits.specs.declared.table.Table.{Table}
use Rattle.am_fits.specs.Facts.{facts, fact_with}
use Rattle.am_fits.specs.Runs.{key_at, keys_from, keys_of, runs_in, runs_below, AreNew, Apart, HasPlace, Joins, IsRun, AreRuns}
use Rattle.am_fits.specs.Tables.{entries_in, facts_in, IsTable, KeepsEach}
use Rattle.am_fits.specs.Told.{own}
use Rattle.am_fits.specs.Words.{Words, WordsGrow, words_of, entry_in, fact_in, IsKept, AreKept}
use Rattle.am_fits.proofs.Entering.{first_kept, no_fact}
use Rattle.am_fits.proofs.Interned.{are_kept_stay, entries_same}
use Rattle.am_fits.proofs.Lookups.{looked_up, same_key-true, same_key_itself}
use Rattle.am_fits.proofs.OwnOperations.{own_get, length-operations}
use Rattle.am_fits.proofs.Places.{zip-append, zip-take, zip_get, zip_key, lookup_at, lookup_no, not_there}
use Rattle.am_fits.proofs.RunLaws.{length-keys, keys_push, one_place, runs_cut}
use Rattle.am_fits.proofs.Lengthened.{runs_joined}

-- the places of runs are those of operations
pub runs_low : (keys : List IdKey) (rs : ℕ → List Run) (a : ℕ) → AreRuns keys rs → length keys < 2 ^ 64 → All (λ r. r.first + r.count < 2 ^ 64) (rs a)
runs_low keys rs a are l = All-weaker (IsRun keys a) (λ r. r.first + r.count < 2 ^ 64) low (rs a) (are.sound a)
  where
    low : (r : Run) → IsRun keys a r → r.first + r.count < 2 ^ 64
    low r h =
        let some = h.some in
        let last = slice_get_within keys (r.first + (r.count - 1)) _ (h.each (r.count - 1) (omega arith)) in
        omega arith

runs_same : (keys : List IdKey) (rs new : ℕ → List Run) → AreRuns keys rs → ((a : ℕ) → new a ≡ rs a) → AreRuns keys new
runs_same keys rs new are is = record {
  sound = λ a. subst (All (IsRun keys a)) (sym (is a)) (are.sound a);
  apart = λ a. subst (AllPairs Apart) (sym (is a)) (are.apart a);
  found = λ p k e. subst (λ x. HasPlace x k.counter p) (sym (is k.author)) (are.found p k e);
}

-- the places of runs are those of what is kept
pub place_within : (t : Table) → IsTable t → (author c p : ℕ) → HasPlace (runs_in t.runs.items author) c p → p < length t.kept.items
place_within t is author c p h =
    let keys = keys_of t.spans.items in
    let r = All-contains (IsRun keys author) (runs_in t.runs.items author) h.run (is.runs.sound author) h.is_among in
    let l = slice_get_within keys (h.run.first + h.step) _ (r.each h.step h.within) in
    let at = h.place in
    let even = is.even in
    omega arith

module _ (t : Table) (is : IsTable t) (author : ℕ) (i : OpId) (named : number (words_of t.texts).authors i.actor ≡ Some author) where
  abbrev w : Words
  w = words_of t.texts

  abbrev keys : List IdKey
  keys = keys_of t.spans.items

  abbrev rs : List Run
  rs = runs_in t.runs.items author

  abbrev key : IdKey
  key = key_at author i.counter

  -- an entry with the key has its place
  has_place : (q : ℕ) (d : IdKey × Kept) → slice_get (entries_in t) q ≡ Some d → equality.eq-value.it key d.0 ≡ true → HasPlace rs i.counter q
  has_place q d e f = is.runs.found q key (zip_key keys t.kept.items q d e ∙ ap Some (sym (same_key-true key d.0 f)))

  pub there : (p : ℕ) (x : Kept) → HasPlace rs i.counter p → x ≡ get_or t.kept.items p x → p < length t.kept.items → Some (fact_in w x) ≡ fact_with (facts_in t) i
  there p x h at l =
      let r = All-contains (IsRun keys author) rs h.run (is.runs.sound author) h.is_among in
      let k : slice_get keys p ≡ Some key = sym (ap (slice_get keys) h.place) ∙ r.each h.step h.within ∙ ap (λ c. Some (key_at author c)) h.counter in
      let e : slice_get (entries_in t) p ≡ Some (key, x) = zip_get keys t.kept.items p key x k (slice_get-get_or t.kept.items p x l ∙ ap Some (sym at)) in
      let found : lookup (equality.eq-value.it key) (entries_in t) ≡ Some x =
      lookup_at (equality.eq-value.it key) (entries_in t) p (key, x) e (same_key_itself key) (λ q d f g. one_place rs i.counter q p (is.runs.apart author) (has_place q d f g) h) in
      sym (ap (option_map (fact_in w)) found) ∙ looked_up w i key (named, refl) (entries_in t) is.kept

  pub nowhere : ((p : ℕ) → HasPlace rs i.counter p → ⊥) → None ≡ fact_with (facts_in t) i
  nowhere nothing =
      let none : lookup (equality.eq-value.it key) (entries_in t) ≡ None = lookup_no (equality.eq-value.it key) (entries_in t) (λ q d f g. nothing q (has_place q d f g)) in
      sym (ap (option_map (fact_in w)) none) ∙ looked_up w i key (named, refl) (entries_in t) is.kept

  pub no_runs : length t.runs.items ≤ author → None ≡ fact_with (facts_in t) i
  no_runs l =
      let long = length-map t.runs.items (λ v. v.items) in
      let empty : rs ≡ [] = get_or_past (map (λ v. v.items) t.runs.items) author [] (omega arith) in
      nowhere (λ p h. let n : h.is_among.0 < length rs = h.is_among.1 in let z = ap length empty in omega arith)

-- ---- operations join

-- another table that says the same
module _ (t u : Table) (is : IsTable t) (grow : WordsGrow (words_of t.texts) (words_of u.texts)) (kept : u.kept.items ≡ t.kept.items) (spans : u.spans.items ≡ t.spans.items)
    (runs : (a : ℕ) → runs_in u.runs.items a ≡ runs_in t.runs.items a) where
  entries_equal : entries_in u ≡ entries_in t
  entries_equal = λ j. zip (keys_of (spans j)) (kept j)

  pub table_same : IsTable u
  table_same = record {
    even = ap length kept ∙ is.even ∙ ap (λ ss. length (keys_of ss)) (sym spans);
    kept = subst (AreKept (words_of u.texts)) (sym entries_equal) (are_kept_stay (words_of t.texts) (words_of u.texts) grow (entries_in t) is.kept);
    runs = subst (λ ss. AreRuns (keys_of ss) (runs_in u.runs.items)) (sym spans) (runs_same (keys_of t.spans.items) (runs_in t.runs.items) (runs_in u.runs.items) is.runs runs);
  }

  pub facts_equal : facts_in u ≡ facts_in t
  facts_equal = ap (map (entry_in (words_of u.texts))) entries_equal ∙ entries_same (words_of t.texts) (words_of u.texts) grow (entries_in t) is.kept

-- the operations of c are new
pub are_new : (t : Table) (is : IsTable t) (c : Change) (author : ℕ) → number (words_of t.texts).authors c.actor ≡ Some author → All (λ x. fact_with (facts_in t) x.id ≡ None) (operations c)
    → AreNew (keys_of t.spans.items) (record { author = author; start = c.start; count = length c.ops })
are_new t is c author named new = record { each = clash }
  where
    w : Words
    w = words_of t.texts

    clash : (p j : ℕ) → j < length c.ops → slice_get (keys_of t.spans.items) p ≡ Some (key_at author (c.start + j)) → ⊥
    clash p j l e = elim (slice_get_cases t.kept.items p).1 [
      | inl x ↦ elim (slice_get_cases c.ops j).1 [
        | inl op ↦
            let key = key_at author (c.start + j) in
            let i : OpId = (own c j op.0).id in
            let long = length-operations c in
            let none : fact_with (facts_in t) i ≡ None = subst (λ (x : Operation). fact_with (facts_in t) x.id ≡ None) (own_get c j (own c j op.0) op.0 l) (new j (own c j op.0) (omega arith)) in
            not_there (equality.eq-value.it key) (entries_in t) (no_fact w (lookup (equality.eq-value.it key) (entries_in t)) (looked_up w i key (named, refl) (entries_in t) is.kept ∙ none))
            p (key, x.0) (zip_get (keys_of t.spans.items) t.kept.items p key x.0 e x.2) (same_key_itself key)
        | inr past ↦ omega (arith, past.0)
      ]
      | inr past ↦ let m = slice_get_within (keys_of t.spans.items) p _ e in let even = is.even in omega (arith, past.0)
    ]

-- the operations of c join
module _ (t u : Table) (is : IsTable t) (c : Change) (author : ℕ) (run : Run) (grow : WordsGrow (words_of t.texts) (words_of u.texts))
    (keeps : KeepsEach (words_of u.texts) author c (length c.ops) t.kept.items u.kept.items)
    (spans : u.spans.items ≡ t.spans.items ++ record { author = author; start = c.start; count = length c.ops } ∷ [])
    (fresh : AreNew (keys_of t.spans.items) (record { author = author; start = c.start; count = length c.ops })) (some : 1 ≤ length c.ops)
    (start : run.start ≡ c.start) (first : run.first ≡ length t.kept.items) (count : run.count ≡ length c.ops)
    (entered : Joins (runs_in t.runs.items author) run (runs_in u.runs.items author)) (others : (a : ℕ) → (a ≡ author → ⊥) → runs_in u.runs.items a ≡ runs_in t.runs.items a) where
  abbrev span : Span
  span = record { author = author; start = c.start; count = length c.ops }

  abbrev old_keys : List IdKey
  old_keys = keys_of t.spans.items

  keys_joined : keys_of u.spans.items ≡ old_keys ++ keys_from author c.start (length c.ops)
  keys_joined = ap keys_of spans ∙ keys_push t.spans.items span

  joined_entries : entries_in u ≡ entries_in t ++ zip (keys_from author c.start (length c.ops)) keeps.rest
  joined_entries = (λ j. zip (keys_joined j) (keeps.is j)) ∙ zip-append old_keys (keys_from author c.start (length c.ops)) t.kept.items keeps.rest is.even

  pub joined : IsTable u
  joined = record {
    even =
        let a = ap length keeps.is in let b = length-append t.kept.items keeps.rest in let d = keeps.long in let e = is.even in
        let f = ap length keys_joined in let g = length-append old_keys (keys_from author c.start (length c.ops)) in let h = length-keys author c.start (length c.ops) in
        omega arith;
    kept = record {
      each = subst (All (IsKept (words_of u.texts))) (sym joined_entries)
          (All-append (IsKept (words_of u.texts)) (entries_in t) (zip (keys_from author c.start (length c.ops)) keeps.rest) (are_kept_stay (words_of t.texts) (words_of u.texts) grow (entries_in t) is.kept).each keeps.kept.each);
    };
    runs = subst (λ ks. AreRuns ks (runs_in u.runs.items)) (sym keys_joined)
        (runs_joined old_keys (runs_in t.runs.items) (runs_in u.runs.items) span run is.runs fresh some start (first ∙ is.even) count entered others);
  }

  pub joined_facts : facts_in u ≡ facts_in t ++ facts (operations c)
  joined_facts =
      let v = words_of u.texts in
      let more = zip (keys_from author c.start (length c.ops)) keeps.rest in
      let size = length-operations c in
      ap (map (entry_in v)) joined_entries ∙ map-append (entry_in v) (entries_in t) more
      ∙ (λ j. entries_same (words_of t.texts) v grow (entries_in t) is.kept j ++ (keeps.facts ∙ ap facts (take_all (length c.ops) (operations c) (omega arith))) j)

-- ---- operations leave

module _ (t u : Table) (is : IsTable t) (n : ℕ) (low : n < length t.kept.items) (texts : words_of u.texts ≡ words_of t.texts) (kept : u.kept.items ≡ take n t.kept.items)
    (keys : keys_of u.spans.items ≡ take (length (keys_of t.spans.items) - (length t.kept.items - n)) (keys_of t.spans.items))
    (runs : (a : ℕ) → runs_in u.runs.items a ≡ runs_below n (runs_in t.runs.items a)) where
  first_keys : keys_of u.spans.items ≡ take n (keys_of t.spans.items)
  first_keys = let e = is.even in let same : length (keys_of t.spans.items) - (length t.kept.items - n) ≡ n = omega arith in keys ∙ ap (λ k. take k (keys_of t.spans.items)) same

  first_entries : entries_in u ≡ take n (entries_in t)
  first_entries = (λ j. zip (first_keys j) (kept j)) ∙ zip-take n (keys_of t.spans.items) t.kept.items

  pub cut_table : IsTable u
  cut_table = record {
    even = ap length kept ∙ length-take n t.kept.items ∙ (λ j. min n (is.even j)) ∙ sym (ap length first_keys ∙ length-take n (keys_of t.spans.items));
    kept = subst (λ w. AreKept w (entries_in u)) (sym texts) (subst (AreKept (words_of t.texts)) (sym first_entries) (first_kept (words_of t.texts) n (entries_in t) is.kept));
    runs = subst (λ ks. AreRuns ks (runs_in u.runs.items)) (sym first_keys) (runs_cut (keys_of t.spans.items) (runs_in t.runs.items) (runs_in u.runs.items) n is.runs runs);
  }

  pub cut_facts : facts_in u ≡ take n (facts_in t)
  cut_facts = (λ j. map (entry_in (texts j)) (first_entries j)) ∙ sym (take-map (entry_in (words_of t.texts)) n (entries_in t))

-- there are as many facts as there is kept
pub facts_short : (t : Table) → IsTable t → length (facts_in t) ≤ length t.kept.items
facts_short t is =
    let a = length-map (entries_in t) (entry_in (words_of t.texts)) in
    let b = length-zip (keys_of t.spans.items) t.kept.items in
    let e = is.even in
    omega arith

-- ---- a copy

module _ (t u : Table) (is : IsTable t) (texts : words_of u.texts ≡ words_of t.texts) (kept : u.kept.items ≡ t.kept.items) (spans : u.spans.items ≡ t.spans.items)
    (runs : map (λ v. v.items) u.runs.items ≡ map (λ v. v.items) t.runs.items) where
  grown : WordsGrow (words_of t.texts) (words_of u.texts)
  grown = subst (WordsGrow (words_of t.texts)) (sym texts) (record { authors = λ x n e. e; names = λ x n e. e })

  pub copied_table : IsTable u
  copied_table = table_same t u is grown kept spans (λ a. ap (λ rss. get_or rss a []) runs)

  pub copied_facts : facts_in u ≡ facts_in t
  copied_facts = facts_equal t u is grown kept spans (λ a. ap (λ rss. get_or rss a []) runs)
