-- More is kept: an entry, or letters and an entry.
use Rattle.std.proofs.Common.{◌≡◌, ◌⊎◌, ℕ, true, List, [], ◌∷◌, ◌++◌, map, drop, take, zero, suc, ◌-◌, ◌<◌, length, get_or, refl, sym, ap, ◌∙◌, subst, inl, inr, arith}
use Rattle.std.specs.Str.{IsAscii}
use Rattle.std.proofs.lemmas.Str.Ascii.{IsAscii-nil, IsAscii-cons}
use Rattle.am_types.specs.declared.ObjId.{ObjId}
use Rattle.am_types.specs.declared.Entry.{Entry}
use Rattle.am_types.specs.Letters.{AreLetters, IsRun}
use Rattle.am_types.specs.EntryOrder.{IsInOrder}
use Rattle.am_json.specs.declared.form.Form.{Form}
use Rattle.am_json.specs.declared.form.Form.TheVariants as forms
use Rattle.am_json.specs.Stretches.{Stretch, bare, spread, closes, ends_closed, AreRuns, IsApart, AreApart, ArePlain, AreKept}
use Rattle.am_json.proofs.Spread.{spread-append, spread-bare}

-- ---- parts of a list

pub apart_drop : (n : ℕ) (ss : List Stretch) → AreApart ss → AreApart (drop n ss)
apart_drop zero ss h = h
apart_drop (suc n) [] h = tt
apart_drop (suc n) (s ∷ ss) h = apart_drop n ss h.1

first_apart : (e : Entry) (n : ℕ) (ss : List Stretch) → IsApart e ss → IsApart e (take n ss)
first_apart e zero ss h = tt
first_apart e (suc n) [] h = tt
first_apart e (suc n) (s ∷ ss) h = h

pub apart_take : (n : ℕ) (ss : List Stretch) → AreApart ss → AreApart (take n ss)
apart_take zero ss h = tt
apart_take (suc n) [] h = tt
apart_take (suc n) (s ∷ ss) h = (first_apart s.entry n ss h.0, apart_take n ss h.1)

-- ---- the last

pub ends_at : (ss : List Stretch) (d : Stretch) → 0 < length ss → ends_closed ss ≡ closes (get_or ss (length ss - 1) d).entry
ends_at [] d h = absurd (omega arith)
ends_at (s ∷ []) d h =
    let place : 0 ≡ length (s ∷ []) - 1 = omega arith in
    ap (λ (k : ℕ). closes (get_or (s ∷ []) k d).entry) place
ends_at (s ∷ t ∷ ss) d h =
    let place : suc (length (t ∷ ss) - 1) ≡ length (s ∷ t ∷ ss) - 1 = omega arith in
    ends_at (t ∷ ss) d (omega arith) ∙ ap (λ (k : ℕ). closes (get_or (s ∷ t ∷ ss) k d).entry) place

-- ---- one more

bare_run : (e : Entry) → IsRun [] [] e
bare_run e = record { letters = tt; behind = inl refl }

runs_more : (ss : List Stretch) (s : Stretch) → AreRuns ss → IsRun s.letters s.bytes s.entry → AreRuns (ss ++ s ∷ [])
runs_more [] s h r = (r, tt)
runs_more (t ∷ ss) s h r = (h.0, runs_more ss s h.1 r)

apart_more : (ss : List Stretch) (s : Stretch) → AreApart ss → (s.letters ≡ []) ⊎ (ends_closed ss ≡ true) → AreApart (ss ++ s ∷ [])
apart_more [] s h r = (tt, tt)
apart_more (t ∷ []) s h r = (r, (tt, tt))
apart_more (t ∷ u ∷ ss) s h r = (h.0, apart_more (u ∷ ss) s h.1 r)

plain_more : (ss : List Stretch) (s : Stretch) → ArePlain ss → s.letters ≡ [] → ArePlain (ss ++ s ∷ [])
plain_more [] s h r = (r, tt)
plain_more (t ∷ ss) s h r = (h.0, plain_more ss s h.1 r)

pub kept_more : (form : Form) (ss : List Stretch) (e : Entry) → AreKept form ss → IsInOrder (spread ss ++ e ∷ []) → AreKept form (ss ++ bare e ∷ [])
kept_more form ss e kept order = record {
  ordered = subst IsInOrder (sym (spread-append ss (bare e ∷ []))) order;
  runs = runs_more ss (bare e) kept.runs (bare_run e);
  apart = apart_more ss (bare e) kept.apart (inl refl);
  plain = λ all. plain_more ss (bare e) (kept.plain all) refl;
}

no_plain : forms.Winners ≡ forms.All → (ss : List Stretch) → ArePlain ss
no_plain h ss = cc

pub kept_run : (ss : List Stretch) (s : Stretch) → AreKept forms.Winners ss → ends_closed ss ≡ true → IsRun s.letters s.bytes s.entry → IsInOrder (spread ss ++ (s.letters ++ s.entry ∷ [])) → AreKept forms.Winners (ss ++ s ∷ [])
kept_run ss s kept closed run order = record {
  ordered = subst IsInOrder (sym (spread-append ss (s ∷ []))) order;
  runs = runs_more ss s kept.runs run;
  apart = apart_more ss s kept.apart (inr closed);
  plain = λ all. no_plain all (ss ++ s ∷ []);
}

-- ---- bare entries

bare_runs : (es : List Entry) → AreRuns (map bare es)
bare_runs [] = tt
bare_runs (e ∷ es) = (bare_run e, bare_runs es)

bare_first : (e : Entry) (es : List Entry) → IsApart e (map bare es)
bare_first e [] = tt
bare_first e (f ∷ es) = inl refl

bare_apart : (es : List Entry) → AreApart (map bare es)
bare_apart [] = tt
bare_apart (e ∷ es) = (bare_first e es, bare_apart es)

bare_plain : (es : List Entry) → ArePlain (map bare es)
bare_plain [] = tt
bare_plain (e ∷ es) = (refl, bare_plain es)

pub kept_bare : (form : Form) (es : List Entry) → IsInOrder es → AreKept form (map bare es)
kept_bare form es order = record {
  ordered = subst IsInOrder (sym (spread-bare es)) order;
  runs = bare_runs es;
  apart = bare_apart es;
  plain = λ _. bare_plain es;
}

-- ---- letters are ASCII

pub letters_ascii : (o : ObjId) (es : List Entry) (bs : List ℕ) → AreLetters o es bs → IsAscii bs
letters_ascii o [] [] h = IsAscii-nil
letters_ascii o [] (b ∷ bs) h = absurd h
letters_ascii o (e ∷ es) [] h = absurd h
letters_ascii o (e ∷ es) (b ∷ bs) h = IsAscii-cons b bs h.0.ascii (letters_ascii o es bs h.1)
