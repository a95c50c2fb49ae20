-- The entries of stretches of one object are cut where the turns are: a letter is a slot of its own.
use Rattle.std.proofs.Common.{◌≡◌, ◌⊎◌, ℕ, Bool, true, false, not, cond, List, [], ◌∷◌, ◌++◌, map, length, refl, sym, ap, ◌∙◌, subst, true≢false, inl, inr, arith, ◌&&◌, ◌||◌}
use Rattle.std.specs.Prelude.{◌==◌, IsTrue}
use Rattle.std.specs.List.{list_all}
use Rattle.std.specs.Ordering.{is_lt}
use Rattle.std.proofs.lemmas.Bool.{cases_Bool, eqb-true}
use Rattle.std.proofs.lemmas.Cmp.{tied_itself}
use Rattle.am_types.specs.declared.ObjId.{ObjId}
use Rattle.am_types.specs.declared.OpId.{OpId}
use Rattle.am_types.specs.declared.Key.{Key}
use Rattle.am_types.specs.declared.Key.TheVariants.{Elem}
use Rattle.am_types.specs.declared.Entry.{Entry}
use Rattle.am_types.specs.Letters.{IsInserted, AreLetters}
use Rattle.am_types.specs.Order.{id_cmp}
use Rattle.am_types.specs.Same.{same_key}
use Rattle.am_types.proofs.Orders.{id_total}
use Rattle.am_types.proofs.SameLaws.{same_key-true}
use Rattle.am_json.specs.Steps.{goes_on, runs, with_first}
use Rattle.am_json.specs.Stretches.{Stretch, spread, closes, closes_slot, AreRuns, IsApart, AreApart}
use Rattle.am_json.specs.Turns.{Turn, turns, turn_with, with_stretch, goes_on_in, alone, all_slots}
use Rattle.am_json.proofs.SlotRuns.{rises, comes_before, is_by_slots, and_first, and_second}

-- ---- an inserted entry is the first of its slot

rises_in_slot : (b c : Bool) → b ≡ true → (not b || c) ≡ true → c ≡ true
rises_in_slot true c h k = k
rises_in_slot false c h k = absurd (true≢false (sym h))

not_both : (b : Bool) → not b ≡ true → b ≡ true → false ≡ true
not_both true n h = n
not_both false n h = h

-- none comes behind an entry that closes its slot
closed_apart : (e f : Entry) → closes e ≡ true → IsInserted f → rises e f ≡ true → same_key f.slot e.slot ≡ false
closed_apart e f closed inserted up = elim (cases_Bool (same_key f.slot e.slot)) [
  | inl t ↦
      let slot : e.slot ≡ Elem f.id = sym (same_key-true f.slot e.slot t) ∙ inserted in
      let not_less : not (is_lt (id_cmp e.id f.id)) ≡ true = subst (λ (k : Key). closes_slot k e.id ≡ true) slot closed in
      let less : is_lt (id_cmp e.id f.id) ≡ true = rises_in_slot (same_key f.slot e.slot) (is_lt (id_cmp e.id f.id)) t up in
      absurd (true≢false (sym (not_both (is_lt (id_cmp e.id f.id)) not_less less)))
  | inr f ↦ f
]

itself_not_less : (i : OpId) → not (is_lt (id_cmp i i)) ≡ true
itself_not_less i = ap (λ r. not (is_lt r)) (tied_itself id_total i)

inserted_closes : (e : Entry) → IsInserted e → closes e ≡ true
inserted_closes e h = subst (λ (k : Key). closes_slot k e.id ≡ true) (sym h) (itself_not_less e.id)

-- ---- letters

-- behind a letter comes another slot
next_apart : (o : ObjId) (l : Entry) (es : List Entry) (bs : List ℕ) (e : Entry) (rest : List Entry) → IsInserted l → AreLetters o es bs → IsInserted e → list_all (rises l) (es ++ e ∷ rest) ≡ true → goes_on l (es ++ e ∷ rest) ≡ false
next_apart o l [] bs e rest first h last up = closed_apart l e (inserted_closes l first) last (and_first (rises l e) _ up)
next_apart o l (m ∷ es) [] e rest first h last up = absurd h
next_apart o l (m ∷ es) (b ∷ bs) e rest first h last up = closed_apart l m (inserted_closes l first) h.0.inserted (and_first (rises l m) _ up)

behind_some : (l : Entry) (es : List Entry) (e : Entry) → (l ∷ es ≡ []) ⊎ IsInserted e → IsInserted e
behind_some l es e h = elim h [ inl none ↦ cc | inr is ↦ is ]

letters_alone : (o : ObjId) (es : List Entry) (bs : List ℕ) (e : Entry) (rest : List Entry) → AreLetters o es bs → (es ≡ []) ⊎ IsInserted e → is_by_slots (es ++ e ∷ rest) ≡ true → runs (es ++ e ∷ rest) ≡ map alone es ++ runs (e ∷ rest)
letters_alone o [] bs e rest h last by = refl
letters_alone o (l ∷ es) [] e rest h last by = absurd h
letters_alone o (l ∷ es) (b ∷ bs) e rest h last by =
    let is = behind_some l es e last in
    let up = and_first (list_all (rises l) (es ++ e ∷ rest)) _ (and_first (comes_before l (es ++ e ∷ rest)) _ by) in
    let far = next_apart o l es bs e rest h.0.inserted h.1 is up in
    rw far (ap (λ ss. alone l ∷ ss) (letters_alone o es bs e rest h.1 (inr is) (and_second (comes_before l (es ++ e ∷ rest)) _ by)))

slots_behind : (xs ys : List Entry) → is_by_slots (xs ++ ys) ≡ true → is_by_slots ys ≡ true
slots_behind [] ys h = h
slots_behind (x ∷ xs) ys h = slots_behind xs ys (and_second (comes_before x (xs ++ ys)) _ h)

-- ---- the slot of an entry goes on where its turn does

some_length : (b : ℕ) (bs : List ℕ) → (length (b ∷ bs) == 0) ≡ false
some_length b bs = elim (cases_Bool (length (b ∷ bs) == 0)) [
  | inl t ↦ let none : length (b ∷ bs) ≡ 0 = eqb-true _ _ t in absurd (omega (arith, none))
  | inr f ↦ f
]

same_test : (o : ObjId) (e : Entry) (ls : List Entry) (bs : List ℕ) (f : Entry) (rest : List Entry) → AreLetters o ls bs → (ls ≡ []) ⊎ IsTrue (closes e) → list_all (rises e) (ls ++ f ∷ rest) ≡ true
    → goes_on e (ls ++ f ∷ rest) ≡ (length bs == 0 && same_key f.slot e.slot)
same_test o e [] [] f rest h apart up = refl
same_test o e [] (b ∷ bs) f rest h apart up = absurd h
same_test o e (l ∷ ls) [] f rest h apart up = absurd h
same_test o e (l ∷ ls) (b ∷ bs) f rest h apart up =
    let closed : closes e ≡ true = elim apart [ inl none ↦ cc | inr is ↦ is ] in
    closed_apart e l closed h.0.inserted (and_first (rises e l) _ up) ∙ sym (ap (λ x. x && same_key f.slot e.slot) (some_length b bs))

goes_on_same : (e : Entry) (ss : List Stretch) → AreRuns ss → IsApart e ss → list_all (rises e) (spread ss) ≡ true → goes_on e (spread ss) ≡ goes_on_in e ss
goes_on_same e [] h apart up = refl
goes_on_same e (s ∷ ss) h apart up = same_test s.entry.obj e s.letters s.bytes s.entry (spread ss) h.0.letters apart up

-- ---- the first turn

-- the first turn has these letters
abbrev LeadsWith : List Entry → List Turn → Type 0
LeadsWith es [] = ⊥
LeadsWith es (t ∷ ts) = t.letters ≡ es

first_either : (es : List Entry) (b : Bool) (s : Stretch) (us vs : List Turn) → LeadsWith es us → LeadsWith s.letters (cond b (with_stretch s us) (turn_with (s ∷ []) s.entry ∷ vs))
first_either es true s [] vs h = absurd h
first_either es true s (u ∷ us) vs h = refl
first_either es false s us vs h = refl

first_turn : (s : Stretch) (ss : List Stretch) → LeadsWith s.letters (turns (s ∷ ss))
first_turn s [] = refl
first_turn s (t ∷ ss) = first_either t.letters (goes_on_in s.entry (t ∷ ss)) s (turns (t ∷ ss)) (turns (t ∷ ss)) (first_turn t ss)

-- no bytes, no letters
no_letters : (o : ObjId) (es : List Entry) (bs : List ℕ) (b : Bool) → AreLetters o es bs → (length bs == 0 && b) ≡ true → es ≡ []
no_letters o [] bs b h none = refl
no_letters o (e ∷ es) [] b h none = absurd h
no_letters o (e ∷ es) (c ∷ bs) b h none = absurd (true≢false (sym (and_first (length (c ∷ bs) == 0) b none) ∙ some_length c bs))

first_joins : (s : Stretch) (ts : List Turn) → LeadsWith [] ts → map alone s.letters ++ with_first s.entry (all_slots ts) ≡ all_slots (with_stretch s ts)
first_joins s [] h = absurd h
first_joins s (t ∷ ts) h = ap (λ es. map alone s.letters ++ with_first s.entry (map alone es ++ t.slot ∷ all_slots ts)) h

joins : (s : Stretch) (ss : List Stretch) → AreRuns ss → goes_on_in s.entry ss ≡ true → map alone s.letters ++ with_first s.entry (all_slots (turns ss)) ≡ all_slots (with_stretch s (turns ss))
joins s [] h on = absurd (true≢false (sym on))
joins s (t ∷ ss) h on =
    let none = no_letters t.entry.obj t.letters t.bytes _ h.0.letters on in
    first_joins s (turns (t ∷ ss)) (subst (λ (es : List Entry). LeadsWith es (turns (t ∷ ss))) none (first_turn t ss))

-- ---- the whole

choose : (s : Stretch) (ss : List Stretch) (b : Bool) → b ≡ goes_on_in s.entry ss → AreRuns ss → runs (spread ss) ≡ all_slots (turns ss)
    → map alone s.letters ++ cond b (with_first s.entry (runs (spread ss))) (record { winner = s.entry; entries = s.entry ∷ [] } ∷ runs (spread ss))
    ≡ all_slots (cond b (with_stretch s (turns ss)) (turn_with (s ∷ []) s.entry ∷ turns ss))
choose s ss true on h rest = ap (λ xs. map alone s.letters ++ with_first s.entry xs) rest ∙ joins s ss h (sym on)
choose s ss false on h rest = ap (λ xs. map alone s.letters ++ alone s.entry ∷ xs) rest

pub runs_are_turns : (ss : List Stretch) → AreRuns ss → AreApart ss → is_by_slots (spread ss) ≡ true → runs (spread ss) ≡ all_slots (turns ss)
runs_are_turns [] h apart by = refl
runs_are_turns (s ∷ ss) h apart by =
    let behind = slots_behind s.letters (s.entry ∷ spread ss) by in
    let up = and_first (list_all (rises s.entry) (spread ss)) _ (and_first (comes_before s.entry (spread ss)) _ behind) in
    let rest = runs_are_turns ss h.1 apart.1 (and_second (comes_before s.entry (spread ss)) _ behind) in
    letters_alone s.entry.obj s.letters s.bytes s.entry (spread ss) h.0.letters h.0.behind by
    ∙ (ap (λ b. map alone s.letters ++ cond b (with_first s.entry (runs (spread ss))) (alone s.entry ∷ runs (spread ss))) (goes_on_same s.entry ss h.1 apart.0 up)
    ∙ choose s ss (goes_on_in s.entry ss) refl h.1 rest)
