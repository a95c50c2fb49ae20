-- Runs that are seen are runs that stand there, and the other way round.
use Rattle.std.proofs.Common.{◌≡◌, ◌≢◌, ℕ, suc, zero, ◌-◌, ◌^◌, ◌<◌, ◌≤◌, nat_lt, Bool, true, false, cond, List, [], ◌∷◌, ◌++◌, length, take, drop, map, Option, Some, None, pos, negsuc, neg_ℤ, refl, sym, ap, ◌∙◌, subst, arith, append_assoc}
use Rattle.std.specs.Prelude.{replicate}
use Rattle.std.specs.Str.{bytes_eq}
use Rattle.std.specs.List.{AllByRecursion}
use Rattle.std.proofs.lemmas.Bool.Decides.{nat_tests}
use Rattle.std.proofs.lemmas.List.{take_at, drop_at, length-replicate, length-map, take-append-drop}
use Rattle.std.proofs.lemmas.Slice.Eq.{bytes_eq-Decides}
use Rattle.am_leb.specs.Leb.{leb}
use Rattle.am_leb.proofs.Answering.{IsBytes}
use Rattle.am_runs.specs.declared.place.Kind.{Kind}
use Rattle.am_runs.specs.declared.place.Kind.TheVariants as kinds
use Rattle.am_runs.specs.Items.{IsItem, ReadsItems}
use Rattle.am_runs.specs.Runs.{Run, Repeat, Literal, Nulls, bytes_of, IsRun, BeginsRun}
use Rattle.am_runs.specs.Canonical.{NoEqualNeighbours, IsTight, last_of}
use Rattle.am_runs.specs.Walking.{Place, open_run}
use Rattle.am_runs.specs.Judging.{Sight, sight_of, unlike_by, unlike, unlike_items, literal_by, literal_sight, sight_at, sight_opened, tight_sight, MayComeAfter, IsNext}
use Rattle.am_runs.proofs.Opening.{joined, start_of, open_run-run, OpensAs, opens}
use Rattle.am_runs.proofs.Grouping.{other_bytes}

-- what was passed is items, each unlike the one before it
pub record UnlikeItems (end : List ℕ → Option ℕ) (n : ℕ) (before bytes : List ℕ) (x : List ℕ × List ℕ) : Type 0 where
  pub items : List (List ℕ)
  pub each : AllByRecursion (IsItem end) items
  pub count : length items ≡ n
  pub front : bytes ≡ joined items ++ x.1
  pub unequal : NoEqualNeighbours (before ∷ items)
  pub last_is : last_of (before ∷ items) ≡ Some x.0

differ : (x y : List ℕ) → bytes_eq x y ≡ false → x ≢ y
differ x y e h = let t = (bytes_eq-Decides x y).1 h in absurd (cc)

one_unlike : (end : List ℕ → Option ℕ) → ReadsItems end → (n : ℕ) (behind : List ℕ → List ℕ → Option (List ℕ × List ℕ)) → ((b r : List ℕ) (x : List ℕ × List ℕ) → behind b r ≡ Some x → UnlikeItems end n b r x)
    → (before bytes : List ℕ) (o : Option ℕ) (x : List ℕ × List ℕ) → end bytes ≡ o → unlike behind before bytes o ≡ Some x → UnlikeItems end (suc n) before bytes x
one_unlike end reads n behind f before bytes None x r e = absurd (cc)
one_unlike end reads n behind f before bytes (Some len) x r e = by_eq (bytes_eq before item) refl e
  where
    item : List ℕ
    item = take len bytes

    by_eq : (b : Bool) → bytes_eq before (take len bytes) ≡ b → unlike_by behind (take len bytes) (drop len bytes) b ≡ Some x → UnlikeItems end (suc n) before bytes x
    by_eq true q e = absurd (cc)
    by_eq false q e =
        let w = f (take len bytes) (drop len bytes) x e in
        record {
          items = take len bytes ∷ w.items;
          each = ((reads.found bytes len r).1, w.each);
          count = ap suc w.count;
          front = sym (take-append-drop len bytes) ∙ ap (λ s. take len bytes ++ s) w.front ∙ sym (append_assoc (take len bytes) (joined w.items) x.1);
          unequal = (differ before (take len bytes) q, w.unequal);
          last_is = w.last_is;
        }

pub unlike_found : (end : List ℕ → Option ℕ) → ReadsItems end → (n : ℕ) (before bytes : List ℕ) (x : List ℕ × List ℕ) → unlike_items end n before bytes ≡ Some x → UnlikeItems end n before bytes x
unfolding unlike_items
unlike_found end reads zero before bytes x e =
    let q : ◌≡◌ {A = List ℕ × List ℕ} (before, bytes) x = cc in
    record { items = []; each = tt; count = refl; front = ap (λ (y : List ℕ × List ℕ). y.1) q; unequal = tt; last_is = ap (λ (y : List ℕ × List ℕ). Some y.0) q }
unlike_found end reads (suc n) before bytes x e = one_unlike end reads n (unlike_items end n) (unlike_found end reads n) before bytes (end bytes) x refl e

-- items that stand there, each unlike the one before it, are passed
pub unlike_stands : (end : List ℕ → Option ℕ) → ReadsItems end → (items : List (List ℕ)) (before rest : List ℕ) → AllByRecursion (IsItem end) items → NoEqualNeighbours (before ∷ items)
    → (last : List ℕ) × (last_of (before ∷ items) ≡ Some last) × (unlike_items end (length items) before (joined items ++ rest) ≡ Some (last, rest))
unfolding unlike_items
unlike_stands end reads [] before rest p h = (before, refl, refl)
unlike_stands end reads (y ∷ ys) before rest p h =
    let w = unlike_stands end reads ys y rest p.1 h.1 in
    let t = joined ys ++ rest in
    let behind = unlike_items end (length ys) in (
      w.0,
      w.1,
      ap (λ b. unlike behind before b (end b)) (append_assoc y (joined ys) rest)
          ∙ ap (unlike behind before (y ++ t)) (reads.again y t p.0)
          ∙ ap (λ i. unlike_by behind i (drop (length y) (y ++ t)) (bytes_eq before i)) (take_at y t (length y) refl)
          ∙ ap (λ r. unlike_by behind y r (bytes_eq before y)) (drop_at y t (length y) refl)
          ∙ ap (unlike_by behind y t) (other_bytes before y h.0)
          ∙ w.2,
    )

-- ---- a run that stands there is seen

at_least : (n least : ℕ) → least ≤ n → nat_lt n least ≡ false
at_least n least h = grind (arith, nat_tests)

counted : (n m : ℕ) (first last : Option (List ℕ)) (literal : Bool) (rest : List ℕ) → n ≡ m
    → ◌≡◌ {A = Option Sight} (Some (record { count = n; first = first; last = last; literal = literal; rest = rest })) (Some (record { count = m; first = first; last = last; literal = literal; rest = rest }))
counted n m first last literal rest e = ap (λ (k : ℕ). Some (record { count = k; first = first; last = last; literal = literal; rest = rest })) e

start_seen : (end : List ℕ → Option ℕ) → ReadsItems end → (run : Run) (rest : List ℕ) → IsRun end run → IsTight run → sight_opened end (Some (start_of run rest)) ≡ Some (sight_of run rest)
start_seen end reads (Nulls k) rest h t = counted k (length (replicate k None)) None None false rest (sym (length-replicate {A = Option (List ℕ)} k None))
start_seen end reads (Repeat n item) rest h t =
    ap (λ b. cond b None (Some (record { count = n; first = Some item; last = Some item; literal = false; rest = rest }))) (at_least n 2 t)
    ∙ counted n (length (replicate n (Some item))) (Some item) (Some item) false rest (sym (length-replicate n (Some item)))
start_seen end reads (Literal []) rest h t = absurd (omega (arith, h.0))
start_seen end reads (Literal (x ∷ xs)) rest h t =
    let tail = joined xs ++ rest in
    let n = length xs in
    let w = unlike_stands end reads xs x rest h.2.1 t in
    ap (λ b. cond b None (literal_sight end (suc n) (joined (x ∷ xs) ++ rest) (end (joined (x ∷ xs) ++ rest)))) (at_least (suc n) 1 (omega arith))
    ∙ ap (λ b. literal_sight end (suc n) b (end b)) (append_assoc x (joined xs) rest)
    ∙ ap (literal_sight end (suc n) (x ++ tail)) (reads.again x tail h.2.0)
    ∙ ap (λ i. literal_by (suc n) i (unlike_items end (suc n - 1) i (drop (length x) (x ++ tail)))) (take_at x tail (length x) refl)
    ∙ ap (λ r. literal_by (suc n) x (unlike_items end (suc n - 1) x r)) (drop_at x tail (length x) refl)
    ∙ ap (λ m. literal_by (suc n) x (unlike_items end m x tail)) (let q : suc n - 1 ≡ n = omega arith in q)
    ∙ ap (literal_by (suc n) x) w.2
    ∙ ap (λ (l : Option (List ℕ)). Some (record { count = suc n; first = Some x; last = l; literal = true; rest = rest })) (sym w.1)
    ∙ counted (suc n) (length (map Some (x ∷ xs))) (Some x) (last_of (x ∷ xs)) true rest (sym (length-map (x ∷ xs) Some))

pub tight_stands : (end : List ℕ → Option ℕ) → ReadsItems end → (run : Run) (rest : List ℕ) → IsRun end run → IsTight run → tight_sight end (bytes_of run ++ rest) ≡ Some (sight_of run rest)
tight_stands end reads run rest h t = ap (sight_opened end) (open_run-run end reads run rest h) ∙ start_seen end reads run rest h t

-- ---- what is seen stands there

pub record SeenRun (end : List ℕ → Option ℕ) (bytes : List ℕ) (s : Sight) : Type 0 where
  pub run : Run
  pub is_run : IsRun end run
  pub tight : IsTight run
  pub front : bytes ≡ bytes_of run ++ s.rest
  pub seen : s ≡ sight_of run s.rest

-- the run that was opened, where it isn't literal
plain_seen : (end : List ℕ → Option ℕ) → ReadsItems end → (bytes : List ℕ) (p : Place) (s : Sight) (run : Run) → IsRun end run → bytes ≡ bytes_of run ++ p.rest → p ≡ start_of run p.rest → (p.kind ≡ kinds.Literal → ⊥) → sight_opened end (Some p) ≡ Some s → SeenRun end bytes s
plain_seen end reads bytes p s (Literal items) h f e k o = absurd (k (ap (λ (x : Place). x.kind) e))
plain_seen end reads bytes p s (Nulls n) h f e k o =
    let q : Some (sight_of (Nulls n) p.rest) ≡ Some s = sym (start_seen end reads (Nulls n) p.rest h tt) ∙ ap (λ (x : Place). sight_opened end (Some x)) (sym e) ∙ o in
    let r : sight_of (Nulls n) p.rest ≡ s = cc in
    record { run = Nulls n; is_run = h; tight = tt; front = f ∙ ap (λ (x : Sight). bytes_of (Nulls n) ++ x.rest) r; seen = sym r ∙ ap (λ (x : Sight). sight_of (Nulls n) x.rest) r }
plain_seen end reads bytes p s (Repeat n item) h f e k o = by_least (nat_lt n 2) refl (ap (λ (x : Place). sight_opened end (Some x)) (sym e) ∙ o)
  where
    by_least : (b : Bool) → nat_lt n 2 ≡ b → cond b None (Some (record { count = n; first = Some item; last = Some item; literal = false; rest = p.rest })) ≡ Some s → SeenRun end bytes s
    by_least true l o = absurd (cc)
    by_least false l o =
        let t : 2 ≤ n = grind (arith, nat_tests) in
        let q : Some (sight_of (Repeat n item) p.rest) ≡ Some s = sym (counted n (length (replicate n (Some item))) (Some item) (Some item) false p.rest (sym (length-replicate n (Some item)))) ∙ o in
        let r : sight_of (Repeat n item) p.rest ≡ s = cc in
        record { run = Repeat n item; is_run = h; tight = t; front = f ∙ ap (λ (x : Sight). bytes_of (Repeat n item) ++ x.rest) r; seen = sym r ∙ ap (λ (x : Sight). sight_of (Repeat n item) x.rest) r }

number : (m : ℕ) (items : List (List ℕ)) → length items ≡ suc m → neg_ℤ (pos (length items)) ≡ negsuc m
number m items h = rw h refl

literal_seen : (end : List ℕ → Option ℕ) → ReadsItems end → (bytes tail : List ℕ) (count m : ℕ) (s : Sight) → count ≡ suc m → m < 2 ^ 63 → bytes ≡ leb (negsuc m) ++ tail → (o : Option ℕ) → end tail ≡ o → literal_sight end count tail o ≡ Some s → SeenRun end bytes s
literal_seen end reads bytes tail count m s c h b None r e = absurd (cc)
literal_seen end reads bytes tail count m s c h b (Some len) r e = by_items (unlike_items end (count - 1) (take len tail) (drop len tail)) refl e
  where
    by_items : (u : Option (List ℕ × List ℕ)) → unlike_items end (count - 1) (take len tail) (drop len tail) ≡ u → literal_by count (take len tail) u ≡ Some s → SeenRun end bytes s
    by_items None q e = absurd (cc)
    by_items (Some x) q e =
        let first = take len tail in
        let w = unlike_found end reads (count - 1) first (drop len tail) x q in
        let items = first ∷ w.items in
        let size : length items ≡ suc m = omega (arith, w.count, c) in
        let r0 : ◌≡◌ {A = Sight} (record { count = count; first = Some first; last = Some x.0; literal = true; rest = x.1 }) s = cc in
        let counts : count ≡ length (map Some items) = omega (arith, c, size, length-map items Some) in
        let r1 : ◌≡◌ {A = Sight} (sight_of (Literal items) x.1) s =
        ap (λ (l : Option (List ℕ)). record { count = length (map Some items); first = Some first; last = l; literal = true; rest = x.1 }) w.last_is
        ∙ ap (λ (k : ℕ). record { count = k; first = Some first; last = Some x.0; literal = true; rest = x.1 }) (sym counts) ∙ r0 in
        let each : AllByRecursion (IsItem end) items = ((reads.found tail len r).1, w.each) in
        let front : tail ≡ joined items ++ x.1 = sym (take-append-drop len tail) ∙ ap (λ t. first ++ t) w.front ∙ sym (append_assoc first (joined w.items) x.1) in
        let whole : bytes ≡ bytes_of (Literal items) ++ x.1 = b ∙ ap (λ t. leb (negsuc m) ++ t) front ∙ ap (λ z. leb z ++ (joined items ++ x.1)) (sym (number m items size)) ∙ sym (append_assoc (leb (neg_ℤ (pos (length items)))) (joined items) x.1) in
        record {
          run = Literal items;
          is_run = (omega (arith, size), omega (arith, size), each);
          tight = w.unequal;
          front = whole ∙ ap (λ (x : Sight). bytes_of (Literal items) ++ x.rest) r1;
          seen = sym r1 ∙ ap (λ (x : Sight). sight_of (Literal items) x.rest) r1;
        }

opened_literal : (end : List ℕ → Option ℕ) → ReadsItems end → (bytes : List ℕ) (p : Place) (s : Sight) → OpensAs kinds.Literal end bytes p.count p.rest → (b : Bool) → cond b None (literal_sight end p.count p.rest (end p.rest)) ≡ Some s → SeenRun end bytes s
opened_literal end reads bytes p s o true e = absurd (cc)
opened_literal end reads bytes p s o false e = literal_seen end reads bytes p.rest p.count o.0 s o.1 o.2 o.3 (end p.rest) refl e

opened_plain : (end : List ℕ → Option ℕ) → ReadsItems end → (bytes : List ℕ) (p : Place) (s : Sight) → BeginsRun end bytes p.count p.rest → open_run end bytes ≡ Some p → (p.kind ≡ kinds.Literal → ⊥) → sight_opened end (Some p) ≡ Some s → SeenRun end bytes s
opened_plain end reads bytes p s b e k o =
    let w : Some p ≡ Some (start_of b.0 p.rest) = sym e ∙ ap (open_run end) b.2 ∙ open_run-run end reads b.0 p.rest b.1 in
    let q : p ≡ start_of b.0 p.rest = cc in
    plain_seen end reads bytes p s b.0 b.1 b.2 q k o

pub seen_stands : (end : List ℕ → Option ℕ) → ReadsItems end → (bytes : List ℕ) (s : Sight) → IsBytes bytes → tight_sight end bytes ≡ Some s → SeenRun end bytes s
seen_stands end reads bytes s f e = by_open (open_run end bytes) refl e
  where
    by_kind : (k : Kind) (count : ℕ) (item rest : List ℕ) → open_run end bytes ≡ Some (record { kind = k; count = count; item = item; rest = rest }) → OpensAs k end bytes count rest → sight_at end k count item rest ≡ Some s → SeenRun end bytes s
    by_kind kinds.Literal count item rest q o e = opened_literal end reads bytes (record { kind = kinds.Literal; count = count; item = item; rest = rest }) s o (nat_lt count 1) e
    by_kind kinds.Repeat count item rest q o e = opened_plain end reads bytes (record { kind = kinds.Repeat; count = count; item = item; rest = rest }) s o q (λ h. absurd (cc)) e
    by_kind kinds.Nulls count item rest q o e = opened_plain end reads bytes (record { kind = kinds.Nulls; count = count; item = item; rest = rest }) s o q (λ h. absurd (cc)) e

    by_open : (o : Option Place) → open_run end bytes ≡ o → sight_opened end o ≡ Some s → SeenRun end bytes s
    by_open None q e = absurd (cc)
    by_open (Some p) q e = by_kind p.kind p.count p.item p.rest q (opens end reads bytes p f q) e

-- ---- the next run

pub next_is : (end : List ℕ → Option ℕ) → ReadsItems end → (before : Option Sight) (bytes : List ℕ) (most : ℕ) (s : Sight) → IsBytes bytes → tight_sight end bytes ≡ Some s → MayComeAfter before s → s.count ≤ most → IsNext end before bytes most s
next_is end reads before bytes most s f e m l =
    let w = seen_stands end reads bytes s f e in
    record { run = w.run; is_run = w.is_run; tight = w.tight; follows = m; front = w.front; seen = w.seen; within = l }

pub next_seen : (end : List ℕ → Option ℕ) → ReadsItems end → (before : Option Sight) (bytes : List ℕ) (most : ℕ) (s : Sight) → IsNext end before bytes most s → tight_sight end bytes ≡ Some s
next_seen end reads before bytes most s n = ap (tight_sight end) n.front ∙ tight_stands end reads n.run s.rest n.is_run n.tight ∙ ap Some (sym n.seen)

pub none_next : (end : List ℕ → Option ℕ) → ReadsItems end → (before : Option Sight) (bytes : List ℕ) (most : ℕ) (s : Sight) → None ≡ tight_sight end bytes → IsNext end before bytes most s → ⊥
none_next end reads before bytes most s e n = let w = next_seen end reads before bytes most s n in absurd (cc)

pub same_next : (end : List ℕ → Option ℕ) → ReadsItems end → (before : Option Sight) (bytes : List ℕ) (most : ℕ) (s t : Sight) → Some s ≡ tight_sight end bytes → IsNext end before bytes most t → (MayComeAfter before s) × (s.count ≤ most)
same_next end reads before bytes most s t e n =
    let w : Some s ≡ Some t = e ∙ next_seen end reads before bytes most t n in
    let q : t ≡ s = cc in
    (subst (MayComeAfter before) q n.follows, subst (λ (x : Sight). x.count ≤ most) q n.within)

-- ---- one item more

pub unlike_items-more : (end : List ℕ → Option ℕ) (n : ℕ) (before bytes item rest : List ℕ) → 0 < n → Some (item, rest) ≡ unlike (λ i r. Some (i, r)) before bytes (end bytes) → unlike_items end n before bytes ≡ unlike_items end (n - 1) item rest
unfolding unlike_items
unlike_items-more end zero before bytes item rest h e = absurd (omega arith)
unlike_items-more end (suc n) before bytes item rest h e = one (end bytes) e ∙ ap (λ k. unlike_items end k item rest) (let q : n ≡ suc n - 1 = omega arith in q)
  where
    chosen : (i r : List ℕ) (b : Bool) → Some (item, rest) ≡ unlike_by (λ i r. Some (i, r)) i r b → unlike_by (unlike_items end n) i r b ≡ unlike_items end n item rest
    chosen i r true e = absurd (cc)
    chosen i r false e =
        let q : ◌≡◌ {A = List ℕ × List ℕ} (item, rest) (i, r) = cc in
        sym (ap (λ (x : List ℕ × List ℕ). unlike_items end n x.0 x.1) q)

    one : (o : Option ℕ) → Some (item, rest) ≡ unlike (λ i r. Some (i, r)) before bytes o → unlike (unlike_items end n) before bytes o ≡ unlike_items end n item rest
    one None e = absurd (cc)
    one (Some len) e = chosen (take len bytes) (drop len bytes) (bytes_eq before (take len bytes)) e

pub unlike_items-stuck : (end : List ℕ → Option ℕ) (n : ℕ) (before bytes : List ℕ) → 0 < n → None ≡ unlike (λ i r. Some (i, r)) before bytes (end bytes) → unlike_items end n before bytes ≡ None
unfolding unlike_items
unlike_items-stuck end zero before bytes h e = absurd (omega arith)
unlike_items-stuck end (suc n) before bytes h e = one (end bytes) e
  where
    chosen : (i r : List ℕ) (b : Bool) → ◌≡◌ {A = Option (List ℕ × List ℕ)} None (unlike_by (λ i r. Some (i, r)) i r b) → unlike_by (unlike_items end n) i r b ≡ None
    chosen i r true e = refl
    chosen i r false e = absurd (cc)

    one : (o : Option ℕ) → ◌≡◌ {A = Option (List ℕ × List ℕ)} None (unlike (λ i r. Some (i, r)) before bytes o) → unlike (unlike_items end n) before bytes o ≡ None
    one None e = refl
    one (Some len) e = chosen (take len bytes) (drop len bytes) (bytes_eq before (take len bytes)) e

pub unlike_items-none : (end : List ℕ → Option ℕ) (n : ℕ) (before bytes : List ℕ) → n ≡ 0 → unlike_items end n before bytes ≡ Some (before, bytes)
unfolding unlike_items
unlike_items-none end zero before bytes e = refl
unlike_items-none end (suc n) before bytes e = absurd (omega arith)
