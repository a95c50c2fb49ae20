-- Reading run after run: what was read so far, and when there is no next run.
use Rattle.std.proofs.Common.{◌≡◌, ℕ, suc, zero, ◌+◌, ◌-◌, ◌<◌, ◌≤◌, List, [], ◌∷◌, ◌++◌, length, drop, Option, Some, None, refl, sym, ap, ◌∙◌, subst, arith, append_assoc, length-append}
use Rattle.std.specs.List.{flat_map, AllByRecursion}
use Rattle.std.proofs.lemmas.List.{append-nil, length-replicate, length-map}
use Rattle.am_leb.proofs.Answering.{IsBytes}
use Rattle.am_runs.specs.declared.place.Kind.TheVariants as kinds
use Rattle.am_runs.specs.Items.{ReadsItems}
use Rattle.am_runs.specs.Runs.{Run, Repeat, Literal, Nulls, expansion, bytes_of, IsRun, BeginsRun, JoinsRuns}
use Rattle.am_runs.specs.Walking.{Place, at_start, open_run, and_behind, behind_items, entries, HasEntries}
use Rattle.am_runs.proofs.Opening.{start_of, open_run-run, OpensAs, Opens, opens, literal_begins, behind_items-joined}
use Rattle.am_runs.proofs.Walks.{entries-runs, HasEntries-runs}
use Rattle.am_runs.proofs.Unique.{runs_go_on, length_bytes_of-pos}

-- so far the bytes are these runs
pub record ReadSoFar (end : List ℕ → Option ℕ) (bytes rest : List ℕ) (total : ℕ) : Type 0 where
  pub runs : List Run
  pub each : AllByRecursion (IsRun end) runs
  pub front : bytes ≡ flat_map bytes_of runs ++ rest
  pub count : total ≡ length (flat_map expansion runs)

pub AllByRecursion-push : (P : Run → Type 0) (xs : List Run) (y : Run) → AllByRecursion P xs → P y → AllByRecursion P (xs ++ y ∷ [])
AllByRecursion-push P [] y h p = (p, tt)
AllByRecursion-push P (x ∷ xs) y h p = (h.0, AllByRecursion-push P xs y h.1 p)

pub flat_map-push : {A : Type 0} (f : Run → List A) (xs : List Run) (y : Run) → flat_map f (xs ++ y ∷ []) ≡ flat_map f xs ++ f y
flat_map-push f [] y = append-nil (f y)
flat_map-push f (x ∷ xs) y = ap (λ l. f x ++ l) (flat_map-push f xs y) ∙ sym (append_assoc (f x) (flat_map f xs) (f y))

pub one_run_more : (end : List ℕ → Option ℕ) (bytes rest behind : List ℕ) (total count : ℕ) → ReadSoFar end bytes rest total → BeginsRun end rest count behind → ReadSoFar end bytes behind (total + count)
one_run_more end bytes rest behind total count w b = record {
  runs = w.runs ++ b.0 ∷ [];
  each = AllByRecursion-push (IsRun end) w.runs b.0 w.each b.1;
  front = w.front ∙ ap (λ s. flat_map bytes_of w.runs ++ s) b.2 ∙ sym (append_assoc (flat_map bytes_of w.runs) (bytes_of b.0) behind) ∙ ap (λ s. s ++ behind) (sym (flat_map-push bytes_of w.runs b.0));
  count = omega (arith, w.count, b.3, length-append (flat_map expansion w.runs) (expansion b.0)) ∙ ap length (sym (flat_map-push expansion w.runs b.0));
}

pub shorter : (end : List ℕ → Option ℕ) (bytes rest : List ℕ) (count : ℕ) → BeginsRun end bytes count rest → length rest < length bytes
shorter end bytes rest count b = omega (arith, ap length b.2, length-append (bytes_of b.0) rest, length_bytes_of-pos b.0)

-- where the next run is none, or too long
pub too_long : (end : List ℕ → Option ℕ) → ReadsItems end → (bytes rest : List ℕ) (total most : ℕ) → ReadSoFar end bytes rest total → total ≤ most → 0 < length rest → ((count : ℕ) (behind : List ℕ) → BeginsRun end rest count behind → most - total < count) → (list : List (Option (List ℕ))) → JoinsRuns end bytes list → most < length list
too_long end reads bytes rest total most w le ne none list j =
    let g = runs_go_on end reads w.runs j.0 rest w.each j.1 (sym j.2 ∙ w.front) in
    longer g.0 g.1 g.2 g.3
  where
    longer : (more : List Run) → j.0 ≡ w.runs ++ more → AllByRecursion (IsRun end) more → rest ≡ flat_map bytes_of more → most < length list
    longer [] e p q = absurd (omega (arith, ap length q))
    longer (r ∷ rs) e p q =
        let n = none (length (expansion r)) (flat_map bytes_of rs) (r, p.0, q, refl) in
        let l : length list ≡ length (flat_map expansion (w.runs ++ r ∷ rs)) = ap length (j.3 ∙ ap (flat_map expansion) e) in
        omega (arith, w.count, flat_map-length w.runs (r ∷ rs), length-append (expansion r) (flat_map expansion rs))
      where
        flat_map-length : (xs ys : List Run) → length (flat_map expansion (xs ++ ys)) ≡ length (flat_map expansion xs) + length (flat_map expansion ys)
        flat_map-length [] ys = omega arith
        flat_map-length (x ∷ xs) ys = omega (arith, flat_map-length xs ys, length-append (expansion x) (flat_map expansion (xs ++ ys)), length-append (expansion x) (flat_map expansion xs))

-- ---- one run

pub none_opened : (end : List ℕ → Option ℕ) → ReadsItems end → (bytes : List ℕ) (count : ℕ) (rest : List ℕ) → None ≡ open_run end bytes → BeginsRun end bytes count rest → ⊥
none_opened end reads bytes count rest e b = let w = ap (open_run end) b.2 ∙ open_run-run end reads b.0 rest b.1 in cc

count_of_start : (end : List ℕ → Option ℕ) (run : Run) (rest : List ℕ) → (start_of run rest).count ≡ length (expansion run)
count_of_start end (Repeat n item) rest = sym (length-replicate n (Some item))
count_of_start end (Literal items) rest = sym (length-map items Some)
count_of_start end (Nulls k) rest = sym (length-replicate {A = Option (List ℕ)} k None)

pub opened_count : (end : List ℕ → Option ℕ) → ReadsItems end → (bytes : List ℕ) (p : Place) (count : ℕ) (rest : List ℕ) → Some p ≡ open_run end bytes → BeginsRun end bytes count rest → p.count ≡ count
opened_count end reads bytes p count rest e b =
    let w : Some p ≡ Some (start_of b.0 rest) = e ∙ ap (open_run end) b.2 ∙ open_run-run end reads b.0 rest b.1 in
    let q : p ≡ start_of b.0 rest = cc in
    ap (λ (x : Place). x.count) q ∙ count_of_start end b.0 rest ∙ sym b.3

not_passed : (end : List ℕ → Option ℕ) → ReadsItems end → (p : Place) (run : Run) (rest : List ℕ) → IsRun end run → p ≡ start_of run rest → p.kind ≡ kinds.Literal → None ≡ behind_items end p.count p.rest → ⊥
not_passed end reads p (Repeat n item) rest h e k b = let x = ap (λ (x : Place). x.kind) e in cc
not_passed end reads p (Nulls n) rest h e k b = let x = ap (λ (x : Place). x.kind) e in cc
not_passed end reads p (Literal items) rest h e k b =
    let w = b ∙ ap (λ (x : Place). behind_items end x.count x.rest) e ∙ behind_items-joined end reads items rest h.2 in cc

pub literal_not_passed : (end : List ℕ → Option ℕ) → ReadsItems end → (bytes : List ℕ) (p : Place) (count : ℕ) (rest : List ℕ) → Some p ≡ open_run end bytes → p.kind ≡ kinds.Literal → None ≡ behind_items end p.count p.rest → BeginsRun end bytes count rest → ⊥
literal_not_passed end reads bytes p count rest e k n b =
    let w : Some p ≡ Some (start_of b.0 rest) = e ∙ ap (open_run end) b.2 ∙ open_run-run end reads b.0 rest b.1 in
    not_passed end reads p b.0 rest b.1 (let q : p ≡ start_of b.0 rest = cc in q) k n

pub behind_items-more : (end : List ℕ → Option ℕ) (n : ℕ) (bytes rest : List ℕ) → 0 < n → Some rest ≡ and_behind Some bytes (end bytes) → behind_items end n bytes ≡ behind_items end (n - 1) rest
unfolding behind_items
behind_items-more end zero bytes rest h e = absurd (omega arith)
behind_items-more end (suc n) bytes rest h e = one (end bytes) e ∙ ap (λ k. behind_items end k rest) (let q : n ≡ suc n - 1 = omega arith in q)
  where
    one : (o : Option ℕ) → Some rest ≡ and_behind Some bytes o → and_behind (behind_items end n) bytes o ≡ behind_items end n rest
    one None e = absurd (cc)
    one (Some len) e = ap (behind_items end n) (let q : drop len bytes ≡ rest = cc in q)

pub behind_items-stuck : (end : List ℕ → Option ℕ) (n : ℕ) (bytes : List ℕ) → 0 < n → None ≡ and_behind Some bytes (end bytes) → behind_items end n bytes ≡ None
unfolding behind_items
behind_items-stuck end zero bytes h e = absurd (omega arith)
behind_items-stuck end (suc n) bytes h e = one (end bytes) e
  where
    one : (o : Option ℕ) → None ≡ and_behind Some bytes o → and_behind (behind_items end n) bytes o ≡ None
    one None e = refl
    one (Some len) e = absurd (cc)

pub behind_items-none : (end : List ℕ → Option ℕ) (n : ℕ) (bytes : List ℕ) → n ≡ 0 → behind_items end n bytes ≡ Some bytes
unfolding behind_items
behind_items-none end zero bytes e = refl
behind_items-none end (suc n) bytes e = absurd (omega arith)

-- what `run_at` found
pub begins_kind : (end : List ℕ → Option ℕ) → ReadsItems end → (bytes : List ℕ) (p : Place) → IsBytes bytes → Some p ≡ open_run end bytes → Opens end bytes p
begins_kind end reads bytes p f e = opens end reads bytes p f (sym e)

pub begins_repeat : (end : List ℕ → Option ℕ) (bytes : List ℕ) (p : Place) → p.kind ≡ kinds.Repeat → Opens end bytes p → BeginsRun end bytes p.count p.rest
begins_repeat end bytes p k o = subst (λ x. OpensAs x end bytes p.count p.rest) k o

pub begins_nulls : (end : List ℕ → Option ℕ) (bytes : List ℕ) (p : Place) → p.kind ≡ kinds.Nulls → Opens end bytes p → BeginsRun end bytes p.count p.rest
begins_nulls end bytes p k o = subst (λ x. OpensAs x end bytes p.count p.rest) k o

pub begins_literal : (end : List ℕ → Option ℕ) → ReadsItems end → (bytes : List ℕ) (p : Place) (rest : List ℕ) → p.kind ≡ kinds.Literal → Some rest ≡ behind_items end p.count p.rest → Opens end bytes p → BeginsRun end bytes p.count rest
begins_literal end reads bytes p rest k e o = literal_begins end reads bytes p.count p.rest rest (subst (λ x. OpensAs x end bytes p.count p.rest) k o) (sym e)

-- what `over` has read in the end
pub all_read : (end : List ℕ → Option ℕ) → ReadsItems end → (bytes rest : List ℕ) (total : ℕ) → ReadSoFar end bytes rest total → rest ≡ [] → JoinsRuns end bytes (entries end total (at_start bytes)) × HasEntries end total (at_start bytes)
all_read end reads bytes rest total w e =
    let b : bytes ≡ flat_map bytes_of w.runs = w.front ∙ ap (λ s. flat_map bytes_of w.runs ++ s) e ∙ append-nil (flat_map bytes_of w.runs) in (
      (w.runs, w.each, b, ap (λ s. entries end total (at_start s)) b ∙ entries-runs end reads w.runs w.each total w.count),
      subst (λ s. HasEntries end total (at_start s)) (sym b) (HasEntries-runs end reads w.runs w.each total w.count),
    )

-- what bytes are known to join is read of them
pub known_read : (end : List ℕ → Option ℕ) → ReadsItems end → (bytes : List ℕ) (list : List (Option (List ℕ))) (count : ℕ) → JoinsRuns end bytes list → length list ≡ count → JoinsRuns end bytes (entries end count (at_start bytes)) × HasEntries end count (at_start bytes)
known_read end reads bytes list count j n =
    all_read end reads bytes [] count (record { runs = j.0; each = j.1; front = j.2 ∙ sym (append-nil (flat_map bytes_of j.0)); count = sym n ∙ ap length j.3 }) refl
