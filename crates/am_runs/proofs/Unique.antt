-- Bytes join the runs of one list at most.
use Rattle.std.proofs.Common.{◌≡◌, ℕ, ◌<◌, List, [], ◌∷◌, ◌++◌, length, take, drop, Option, Some, pos, neg_ℤ, refl, sym, ap, ◌∙◌, arith, append_assoc, length-append}
use Rattle.std.specs.List.{flat_map, AllByRecursion}
use Rattle.std.proofs.lemmas.List.{take_at, drop_at, append-nil}
use Rattle.am_leb.proofs.SignedLaws.{length_leb-pos}
use Rattle.am_leb.specs.Leb.{leb, uleb}
use Rattle.am_runs.specs.Items.{IsItem, ReadsItems}
use Rattle.am_runs.specs.Runs.{Run, Repeat, Literal, Nulls, expansion, bytes_of, IsRun, JoinsRuns}
use Rattle.am_runs.specs.Walking.{Place, open_run}
use Rattle.am_runs.proofs.Opening.{joined, start_of, open_run-run}

same_item : (end : List ℕ → Option ℕ) → ReadsItems end → (x y a b : List ℕ) → IsItem end x → IsItem end y → x ++ a ≡ y ++ b → (x ≡ y) × (a ≡ b)
same_item end reads x y a b p q e =
    let l : Some (length x) ≡ Some (length y) = sym (reads.again x a p) ∙ ap end e ∙ reads.again y b q in
    let n : length x ≡ length y = cc in (
      sym (take_at x a (length x) refl) ∙ ap (take (length x)) e ∙ take_at y b (length x) (sym n),
      sym (drop_at x a (length x) refl) ∙ ap (drop (length x)) e ∙ drop_at y b (length x) (sym n),
    )

same_items : (end : List ℕ → Option ℕ) → ReadsItems end → (xs ys : List (List ℕ)) (a b : List ℕ) → AllByRecursion (IsItem end) xs → AllByRecursion (IsItem end) ys → length xs ≡ length ys → joined xs ++ a ≡ joined ys ++ b → (xs ≡ ys) × (a ≡ b)
same_items end reads [] [] a b p q l e = (refl, e)
same_items end reads [] (y ∷ ys) a b p q l e = absurd (omega arith)
same_items end reads (x ∷ xs) [] a b p q l e = absurd (omega arith)
same_items end reads (x ∷ xs) (y ∷ ys) a b p q l e =
    let w = same_item end reads x y (joined xs ++ a) (joined ys ++ b) p.0 q.0 (sym (append_assoc x (joined xs) a) ∙ e ∙ append_assoc y (joined ys) b) in
    let v = same_items end reads xs ys a b p.1 q.1 (omega arith) w.1 in
    ((let h = w.0 in let t = v.0 in cc), v.1)

same_start : (end : List ℕ → Option ℕ) → ReadsItems end → (r s : Run) (a b : List ℕ) → IsRun end r → IsRun end s → start_of r a ≡ start_of s b → (r ≡ s) × (a ≡ b)
same_start end reads (Repeat n x) (Repeat m y) a b p q e = let c = ap (λ (p : Place). p.count) e in let i = ap (λ (p : Place). p.item) e in ((cc), ap (λ (p : Place). p.rest) e)
same_start end reads (Nulls n) (Nulls m) a b p q e = let c = ap (λ (p : Place). p.count) e in ((cc), ap (λ (p : Place). p.rest) e)
same_start end reads (Literal xs) (Literal ys) a b p q e =
    let w = same_items end reads xs ys a b p.2 q.2 (ap (λ (p : Place). p.count) e) (ap (λ (p : Place). p.rest) e) in (ap Literal w.0, w.1)
same_start end reads (Repeat n x) (Nulls m) a b p q e = absurd (let k = ap (λ (p : Place). p.kind) e in cc)
same_start end reads (Repeat n x) (Literal m) a b p q e = absurd (let k = ap (λ (p : Place). p.kind) e in cc)
same_start end reads (Nulls n) (Repeat m y) a b p q e = absurd (let k = ap (λ (p : Place). p.kind) e in cc)
same_start end reads (Nulls n) (Literal m) a b p q e = absurd (let k = ap (λ (p : Place). p.kind) e in cc)
same_start end reads (Literal n) (Repeat m y) a b p q e = absurd (let k = ap (λ (p : Place). p.kind) e in cc)
same_start end reads (Literal n) (Nulls m) a b p q e = absurd (let k = ap (λ (p : Place). p.kind) e in cc)

-- no run begins another
pub same_run : (end : List ℕ → Option ℕ) → ReadsItems end → (r s : Run) (a b : List ℕ) → IsRun end r → IsRun end s → bytes_of r ++ a ≡ bytes_of s ++ b → (r ≡ s) × (a ≡ b)
same_run end reads r s a b p q e =
    let o : Some (start_of r a) ≡ Some (start_of s b) = sym (open_run-run end reads r a p) ∙ ap (open_run end) e ∙ open_run-run end reads s b q in
    same_start end reads r s a b p q (let w : start_of r a ≡ start_of s b = cc in w)

pub length_bytes_of-pos : (run : Run) → 0 < length (bytes_of run)
length_bytes_of-pos (Repeat n item) = omega (arith, length-append (leb (pos n)) item, length_leb-pos (pos n))
length_bytes_of-pos (Literal items) = omega (arith, length-append (leb (neg_ℤ (pos (length items)))) (joined items), length_leb-pos (neg_ℤ (pos (length items))))
length_bytes_of-pos (Nulls k) = omega (arith, length-append (leb (pos 0)) (uleb k), length_leb-pos (pos 0))

-- runs whose bytes begin with those of others begin with these
pub runs_go_on : (end : List ℕ → Option ℕ) → ReadsItems end → (done runs : List Run) (rest : List ℕ) → AllByRecursion (IsRun end) done → AllByRecursion (IsRun end) runs → flat_map bytes_of runs ≡ flat_map bytes_of done ++ rest → (more : List Run) × (runs ≡ done ++ more) × AllByRecursion (IsRun end) more × (rest ≡ flat_map bytes_of more)
runs_go_on end reads [] runs rest p q e = (runs, refl, q, sym e)
runs_go_on end reads (d ∷ ds) [] rest p q e = absurd (omega (arith, ap length e, length-append (flat_map bytes_of (d ∷ ds)) rest, length-append (bytes_of d) (flat_map bytes_of ds), length_bytes_of-pos d))
runs_go_on end reads (d ∷ ds) (r ∷ rs) rest p q e =
    let w = same_run end reads r d (flat_map bytes_of rs) (flat_map bytes_of ds ++ rest) q.0 p.0 (e ∙ append_assoc (bytes_of d) (flat_map bytes_of ds) rest) in
    let v = runs_go_on end reads ds rs rest p.1 q.1 w.1 in
    (v.0, (let h = w.0 in let t = v.1 in cc), v.2, v.3)

pub no_more : (more : List Run) → [] ≡ flat_map bytes_of more → more ≡ []
no_more [] e = refl
no_more (r ∷ rs) e = absurd (omega (arith, ap length e, length-append (bytes_of r) (flat_map bytes_of rs), length_bytes_of-pos r))

-- bytes join the runs of one list at most
pub one_list : (end : List ℕ → Option ℕ) → ReadsItems end → (bytes : List ℕ) (xs ys : List (Option (List ℕ))) → JoinsRuns end bytes xs → JoinsRuns end bytes ys → xs ≡ ys
one_list end reads bytes xs ys p q =
    let w = runs_go_on end reads p.0 q.0 [] p.1 q.1 (sym q.2 ∙ p.2 ∙ sym (append-nil (flat_map bytes_of p.0))) in
    p.3 ∙ ap (flat_map expansion) (sym (append-nil p.0) ∙ ap (λ more. p.0 ++ more) (sym (no_more w.0 w.3)) ∙ sym w.1) ∙ sym q.3
