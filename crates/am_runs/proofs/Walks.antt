-- The entries of runs come one after the other, in their order.
use Rattle.std.proofs.Common.{◌≡◌, ℕ, suc, zero, ◌+◌, ◌<◌, List, [], ◌∷◌, ◌++◌, length, drop, map, Option, Some, None, refl, sym, ap, ◌∙◌, subst, arith, append_assoc, length-append}
use Rattle.std.specs.Prelude.{replicate}
use Rattle.std.specs.List.{flat_map, AllByRecursion}
use Rattle.std.proofs.lemmas.List.{length-replicate, length-map, append-nil, take_at, drop_at}
use Rattle.am_runs.specs.declared.place.Kind.TheVariants as kinds
use Rattle.am_runs.specs.Items.{IsItem, ReadsItems}
use Rattle.am_runs.specs.Runs.{Run, Repeat, Literal, Nulls, expansion, bytes_of, IsRun}
use Rattle.am_runs.specs.Walking.{Place, at_start, within_opened, step_at, step, literal_step, listed, entries, holds_behind, HasEntries}
use Rattle.am_runs.proofs.Opening.{joined, start_of, open_run-run}

-- from one place the list comes first, and then what comes from the other
pub record Walks (end : List ℕ → Option ℕ) (from : Place) (list : List (Option (List ℕ))) (to : Place) : Type 0 where
  pub shows : (m : ℕ) → entries end (length list + m) from ≡ list ++ entries end m to
  pub holds : (m : ℕ) → HasEntries end m to → HasEntries end (length list + m) from

add-nothing : (m : ℕ) → 0 + m ≡ m
add-nothing m = omega arith

suc-more : (n m : ℕ) → suc n + m ≡ suc (n + m)
suc-more n m = omega arith

pub Walks-nil : (end : List ℕ → Option ℕ) (p : Place) → Walks end p [] p
Walks-nil end p = record {
  shows = λ m. ap (λ n. entries end n p) (add-nothing m);
  holds = λ m h. subst (λ n. HasEntries end n p) (sym (add-nothing m)) h;
}

pub Walks-cons : (end : List ℕ → Option ℕ) (p mid to : Place) (x : Option (List ℕ)) (list : List (Option (List ℕ))) → step end p ≡ Some (x, mid) → Walks end mid list to → Walks end p (x ∷ list) to
unfolding entries HasEntries
Walks-cons end p mid to x list e w = record {
  shows = λ m. ap (λ n. entries end n p) (suc-more (length list) m) ∙ ap (listed (entries end (length list + m))) e ∙ ap (λ l. x ∷ l) (w.shows m);
  holds = λ m h. subst (λ n. HasEntries end n p) (sym (suc-more (length list) m)) (subst (holds_behind (HasEntries end (length list + m))) (sym e) (w.holds m h));
}

length_more : (xs ys : List (Option (List ℕ))) (m : ℕ) → length (xs ++ ys) + m ≡ length xs + (length ys + m)
length_more xs ys m = omega (arith, length-append xs ys)

pub Walks-append : (end : List ℕ → Option ℕ) (p q r : Place) (xs ys : List (Option (List ℕ))) → Walks end p xs q → Walks end q ys r → Walks end p (xs ++ ys) r
Walks-append end p q r xs ys v w = record {
  shows = λ m. ap (λ n. entries end n p) (length_more xs ys m) ∙ v.shows (length ys + m) ∙ ap (λ l. xs ++ l) (w.shows m) ∙ sym (append_assoc xs ys (entries end m r));
  holds = λ m h. subst (λ n. HasEntries end n p) (sym (length_more xs ys m)) (v.holds (length ys + m) (w.holds m h));
}

-- places with one next step have the same entries
entries-same : (end : List ℕ → Option ℕ) (n : ℕ) (p q : Place) → 0 < n → step end p ≡ step end q → entries end n p ≡ entries end n q
unfolding entries
entries-same end zero p q h e = absurd (omega arith)
entries-same end (suc n) p q h e = ap (listed (entries end n)) e

HasEntries-same : (end : List ℕ → Option ℕ) (n : ℕ) (p q : Place) → 0 < n → step end p ≡ step end q → HasEntries end n q → HasEntries end n p
unfolding HasEntries
HasEntries-same end zero p q h e w = absurd (omega arith)
HasEntries-same end (suc n) p q h e w = subst (holds_behind (HasEntries end n)) (sym e) w

pub Walks-same : (end : List ℕ → Option ℕ) (p q to : Place) (list : List (Option (List ℕ))) → 0 < length list → step end p ≡ step end q → Walks end q list to → Walks end p list to
Walks-same end p q to list h e w = record {
  shows = λ m. entries-same end (length list + m) p q (omega arith) e ∙ w.shows m;
  holds = λ m g. HasEntries-same end (length list + m) p q (omega arith) e (w.holds m g);
}

-- at the end of a run
pub Walks-between : (end : List ℕ → Option ℕ) (p : Place) → p.count ≡ 0 → Walks end p [] (at_start p.rest)
unfolding entries HasEntries
Walks-between end p e = record {
  shows = λ m. ap (λ n. entries end n p) (add-nothing m) ∙ same m;
  holds = λ m h. subst (λ n. HasEntries end n p) (sym (add-nothing m)) (kept m h);
}
  where
    next : step end p ≡ step end (at_start p.rest)
    next = ap (λ n. step_at end n p) e

    same : (m : ℕ) → entries end m p ≡ entries end m (at_start p.rest)
    same zero = refl
    same (suc m) = ap (listed (entries end m)) next

    kept : (m : ℕ) → HasEntries end m (at_start p.rest) → HasEntries end m p
    kept zero h = (e, h.1)
    kept (suc m) h = subst (holds_behind (HasEntries end m)) (sym next) h

repeat_walk : (end : List ℕ → Option ℕ) (n : ℕ) (item rest : List ℕ) → Walks end (record { kind = kinds.Repeat; count = n; item = item; rest = rest }) (replicate n (Some item)) (at_start rest)
repeat_walk end zero item rest = Walks-between end (record { kind = kinds.Repeat; count = 0; item = item; rest = rest }) refl
repeat_walk end (suc n) item rest = Walks-cons end _ (record { kind = kinds.Repeat; count = n; item = item; rest = rest }) _ (Some item) _ refl (repeat_walk end n item rest)

nulls_walk : (end : List ℕ → Option ℕ) (n : ℕ) (rest : List ℕ) → Walks end (record { kind = kinds.Nulls; count = n; item = []; rest = rest }) (replicate n None) (at_start rest)
nulls_walk end zero rest = Walks-between end (record { kind = kinds.Nulls; count = 0; item = []; rest = rest }) refl
nulls_walk end (suc n) rest = Walks-cons end _ (record { kind = kinds.Nulls; count = n; item = []; rest = rest }) _ None _ refl (nulls_walk end n rest)

pub item_step : (end : List ℕ → Option ℕ) → ReadsItems end → (n : ℕ) (x tail rest : List ℕ) → IsItem end x → literal_step n ((x ++ tail) ++ rest) (end ((x ++ tail) ++ rest)) ≡ Some (Some x, record { kind = kinds.Literal; count = n; item = []; rest = tail ++ rest })
item_step end reads n x tail rest h =
    ap (λ b. literal_step n b (end b)) (append_assoc x tail rest)
    ∙ ap (literal_step n (x ++ (tail ++ rest))) (reads.again x (tail ++ rest) h)
    ∙ ap (λ (b : List ℕ). Some (Some b, record { kind = kinds.Literal; count = n; item = []; rest = drop (length x) (x ++ (tail ++ rest)) })) (take_at x (tail ++ rest) (length x) refl)
    ∙ ap (λ (b : List ℕ). Some (Some x, record { kind = kinds.Literal; count = n; item = []; rest = b })) (drop_at x (tail ++ rest) (length x) refl)

literal_walk : (end : List ℕ → Option ℕ) → ReadsItems end → (items : List (List ℕ)) (rest : List ℕ) → AllByRecursion (IsItem end) items → Walks end (record { kind = kinds.Literal; count = length items; item = []; rest = joined items ++ rest }) (map Some items) (at_start rest)
literal_walk end reads [] rest h = Walks-between end (record { kind = kinds.Literal; count = 0; item = []; rest = rest }) refl
literal_walk end reads (x ∷ xs) rest h = Walks-cons end _ (record { kind = kinds.Literal; count = length xs; item = []; rest = joined xs ++ rest }) _ (Some x) _ (item_step end reads (length xs) x (joined xs) rest h.0) (literal_walk end reads xs rest h.1)

-- a run's entries come first
pub start_walk : (end : List ℕ → Option ℕ) → ReadsItems end → (run : Run) (rest : List ℕ) → IsRun end run → Walks end (start_of run rest) (expansion run) (at_start rest)
start_walk end reads (Repeat n item) rest h = repeat_walk end n item rest
start_walk end reads (Literal items) rest h = literal_walk end reads items rest h.2
start_walk end reads (Nulls k) rest h = nulls_walk end k rest

pub length_expansion-pos : (end : List ℕ → Option ℕ) (run : Run) → IsRun end run → 0 < length (expansion run)
length_expansion-pos end (Repeat n item) h = omega (arith, h.0, length-replicate n (Some item))
length_expansion-pos end (Literal items) h = omega (arith, h.0, length-map items Some)
length_expansion-pos end (Nulls k) h = omega (arith, h.0, length-replicate {A = Option (List ℕ)} k None)

opened_step : (end : List ℕ → Option ℕ) (run : Run) (rest : List ℕ) → IsRun end run → within_opened end (Some (start_of run rest)) ≡ step end (start_of run rest)
opened_step end (Repeat zero item) rest h = absurd (omega (arith, h.0))
opened_step end (Repeat (suc n) item) rest h = refl
opened_step end (Literal []) rest h = absurd (omega (arith, h.0))
opened_step end (Literal (x ∷ xs)) rest h = refl
opened_step end (Nulls zero) rest h = absurd (omega (arith, h.0))
opened_step end (Nulls (suc k)) rest h = refl

pub run_walk : (end : List ℕ → Option ℕ) → ReadsItems end → (run : Run) (rest : List ℕ) → IsRun end run → Walks end (at_start (bytes_of run ++ rest)) (expansion run) (at_start rest)
run_walk end reads run rest h = Walks-same end _ (start_of run rest) _ (expansion run) (length_expansion-pos end run h)
    (ap (within_opened end) (open_run-run end reads run rest h) ∙ opened_step end run rest h)
    (start_walk end reads run rest h)

pub runs_walk : (end : List ℕ → Option ℕ) → ReadsItems end → (runs : List Run) → AllByRecursion (IsRun end) runs → Walks end (at_start (flat_map bytes_of runs)) (flat_map expansion runs) (at_start [])
runs_walk end reads [] h = Walks-nil end (at_start [])
runs_walk end reads (r ∷ rs) h = Walks-append end _ (at_start (flat_map bytes_of rs)) _ (expansion r) (flat_map expansion rs) (run_walk end reads r (flat_map bytes_of rs) h.0) (runs_walk end reads rs h.1)

-- what a cursor over the bytes of runs gives
pub entries-runs : (end : List ℕ → Option ℕ) → ReadsItems end → (runs : List Run) → AllByRecursion (IsRun end) runs → (n : ℕ) → n ≡ length (flat_map expansion runs) → entries end n (at_start (flat_map bytes_of runs)) ≡ flat_map expansion runs
unfolding entries
entries-runs end reads runs h n e =
    ap (λ k. entries end k (at_start (flat_map bytes_of runs))) (let q : n ≡ length (flat_map expansion runs) + 0 = omega arith in q)
    ∙ (runs_walk end reads runs h).shows 0 ∙ append-nil (flat_map expansion runs)

pub HasEntries-runs : (end : List ℕ → Option ℕ) → ReadsItems end → (runs : List Run) → AllByRecursion (IsRun end) runs → (n : ℕ) → n ≡ length (flat_map expansion runs) → HasEntries end n (at_start (flat_map bytes_of runs))
unfolding HasEntries
HasEntries-runs end reads runs h n e =
    subst (λ k. HasEntries end k (at_start (flat_map bytes_of runs))) (let q : length (flat_map expansion runs) + 0 ≡ n = omega arith in q)
    ((runs_walk end reads runs h).holds 0 (refl, refl))
