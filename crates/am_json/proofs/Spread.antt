-- The entries of stretches, one after another.
use Rattle.std.proofs.Common.{◌≡◌, ℕ, zero, suc, ◌-◌, Bool, true, false, cond, List, [], ◌∷◌, ◌++◌, length, get_or, take, map, filter, refl, sym, ap, ◌∙◌, arith, append_assoc, length-append}
use Rattle.std.specs.List.{list_all}
use Rattle.std.specs.Ordering.{is_le}
use Rattle.std.proofs.lemmas.List.Folds.{list_all-append}
use Rattle.am_types.specs.declared.ObjId.{ObjId}
use Rattle.am_types.specs.declared.Entry.{Entry}
use Rattle.am_types.specs.Letters.{AreLetters, IsRun}
use Rattle.am_types.specs.Order.{object_cmp}
use Rattle.am_types.specs.Same.{same_object}
use Rattle.am_types.specs.EntryOrder.{may_precede, goes_before, is_in_order}
use Rattle.am_json.specs.Entries.{is_in}
use Rattle.am_json.specs.Stretches.{Stretch, bare, spread, stands_in, AreRuns, ArePlain}
use Rattle.am_json.specs.Turns.{between}
use Rattle.am_json.proofs.Searched.{IsByObjects}
use Rattle.am_json.proofs.SlotRuns.{and_first, and_second, and_both}
use Rattle.am_json.proofs.Ordered.{not_greater, all_at}

pub spread-append : (ss ts : List Stretch) → spread (ss ++ ts) ≡ spread ss ++ spread ts
spread-append [] ts = refl
spread-append (s ∷ ss) ts =
    ap (λ es. s.letters ++ s.entry ∷ es) (spread-append ss ts) ∙ sym (append_assoc s.letters (s.entry ∷ spread ss) (spread ts))

pub spread-bare : (es : List Entry) → spread (map bare es) ≡ es
spread-bare [] = refl
spread-bare (e ∷ es) = ap (λ xs. e ∷ xs) (spread-bare es)

-- ---- the order

pub order_behind : (xs ys : List Entry) → is_in_order (xs ++ ys) ≡ true → is_in_order ys ≡ true
order_behind [] ys h = h
order_behind (e ∷ xs) ys h = order_behind xs ys (and_second (goes_before e (xs ++ ys)) _ h)

-- what all entries pass, those behind the letters pass
heads_pass : (p : Entry → Bool) (ss : List Stretch) → list_all p (spread ss) ≡ true → list_all (λ s. p s.entry) ss ≡ true
heads_pass p [] h = refl
heads_pass p (s ∷ ss) h =
    let behind = and_second (list_all p s.letters) _ (sym (list_all-append p s.letters (s.entry ∷ spread ss)) ∙ h) in
    and_both (p s.entry) _ (and_first (p s.entry) _ behind) (heads_pass p ss (and_second (p s.entry) _ behind))

pub by_objects : (ss : List Stretch) → is_in_order (spread ss) ≡ true → IsByObjects ss
by_objects [] h i j d lt below = absurd (omega arith)
by_objects (s ∷ ss) h i zero d lt below = absurd (omega arith)
by_objects (s ∷ ss) h zero (suc j) d lt below =
    let goes = and_first (goes_before s.entry (spread ss)) _ (order_behind s.letters (s.entry ∷ spread ss) h) in
    let all = heads_pass (may_precede s.entry) ss (and_first (list_all (may_precede s.entry) (spread ss)) _ goes) in
    let may = all_at (λ (t : Stretch). may_precede s.entry t.entry) ss d j all (omega arith) in
    not_greater (object_cmp s.entry.obj (get_or ss j d).entry.obj) (and_first (is_le (object_cmp s.entry.obj (get_or ss j d).entry.obj)) _ may)
by_objects (s ∷ ss) h (suc i) (suc j) d lt below =
    by_objects ss (and_second (goes_before s.entry (spread ss)) _ (order_behind s.letters (s.entry ∷ spread ss) h)) i j d (omega arith) (omega arith)

-- ---- the entries of one object

in_together : (o p : ObjId) (es : List Entry) (bs : List ℕ) (rest : List Entry) → AreLetters p es bs → same_object p o ≡ true → filter (is_in o) (es ++ rest) ≡ es ++ filter (is_in o) rest
in_together o p [] bs rest h within = refl
in_together o p (e ∷ es) [] rest h within = absurd h
in_together o p (e ∷ es) (b ∷ bs) rest h within =
    let here : is_in o e ≡ true = ap (λ x. same_object x o) h.0.object ∙ within in
    rw here (ap (λ xs. e ∷ xs) (in_together o p es bs rest h.1 within))

out_together : (o p : ObjId) (es : List Entry) (bs : List ℕ) (rest : List Entry) → AreLetters p es bs → same_object p o ≡ false → filter (is_in o) (es ++ rest) ≡ filter (is_in o) rest
out_together o p [] bs rest h apart = refl
out_together o p (e ∷ es) [] rest h apart = absurd h
out_together o p (e ∷ es) (b ∷ bs) rest h apart =
    let here : is_in o e ≡ false = ap (λ x. same_object x o) h.0.object ∙ apart in
    rw here (out_together o p es bs rest h.1 apart)

either : (o : ObjId) (s : Stretch) (ss : List Stretch) (b : Bool) → b ≡ is_in o s.entry → IsRun s.letters s.bytes s.entry → filter (is_in o) (spread ss) ≡ spread (filter (stands_in o) ss)
    → filter (is_in o) (s.letters ++ s.entry ∷ spread ss) ≡ spread (cond b (s ∷ filter (stands_in o) ss) (filter (stands_in o) ss))
either o s ss true is run rest =
    in_together o s.entry.obj s.letters s.bytes (s.entry ∷ spread ss) run.letters (sym is)
    ∙ ap (λ b. s.letters ++ cond b (s.entry ∷ filter (is_in o) (spread ss)) (filter (is_in o) (spread ss))) (sym is)
    ∙ ap (λ es. s.letters ++ s.entry ∷ es) rest
either o s ss false is run rest =
    out_together o s.entry.obj s.letters s.bytes (s.entry ∷ spread ss) run.letters (sym is)
    ∙ ap (λ b. cond b (s.entry ∷ filter (is_in o) (spread ss)) (filter (is_in o) (spread ss))) (sym is)
    ∙ rest

pub filter_spread : (o : ObjId) (ss : List Stretch) → AreRuns ss → filter (is_in o) (spread ss) ≡ spread (filter (stands_in o) ss)
filter_spread o [] h = refl
filter_spread o (s ∷ ss) h = either o s ss (is_in o s.entry) refl h.0 (filter_spread o ss h.1)

one_more_run : (b : Bool) (s : Stretch) (ss : List Stretch) → IsRun s.letters s.bytes s.entry → AreRuns ss → AreRuns (cond b (s ∷ ss) ss)
one_more_run true s ss r h = (r, h)
one_more_run false s ss r h = h

pub runs_filtered : (o : ObjId) (ss : List Stretch) → AreRuns ss → AreRuns (filter (stands_in o) ss)
runs_filtered o [] h = tt
runs_filtered o (s ∷ ss) h = one_more_run (stands_in o s) s (filter (stands_in o) ss) h.0 (runs_filtered o ss h.1)

one_more_plain : (b : Bool) (s : Stretch) (ss : List Stretch) → s.letters ≡ [] → ArePlain ss → ArePlain (cond b (s ∷ ss) ss)
one_more_plain true s ss r h = (r, h)
one_more_plain false s ss r h = h

pub plain_filtered : (o : ObjId) (ss : List Stretch) → ArePlain ss → ArePlain (filter (stands_in o) ss)
plain_filtered o [] h = tt
plain_filtered o (s ∷ ss) h = one_more_plain (stands_in o s) s (filter (stands_in o) ss) h.0 (plain_filtered o ss h.1)

-- ---- what was handed out

taken : (es rest : List Entry) → take (length es) (es ++ rest) ≡ es
taken [] [] = refl
taken [] (x ∷ rest) = refl
taken (e ∷ es) rest = ap (λ xs. e ∷ xs) (taken es rest)

pub between_is : (es : List Entry) (e : Entry) (rest all : List Entry) → all ≡ es ++ e ∷ rest → between all rest ≡ es
between_is es e rest all is =
    let count : length all - 1 - length rest ≡ length es = omega (arith, ap length is, length-append es (e ∷ rest)) in
    ap (λ n. take n all) count ∙ (ap (take (length es)) is ∙ taken es (e ∷ rest))
