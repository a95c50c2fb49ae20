-- Runs in canonical order, one after another.
use Rattle.std.proofs.Common.{◌≡◌, ℕ, suc, zero, ◌-◌, ◌<◌, ◌≤◌, Bool, true, false, ◌↔◌, inr, ⊎_elim, List, [], ◌∷◌, ◌++◌, length, Option, Some, None, refl, sym, ap, ◌∙◌, subst, arith, length-append}
use Rattle.std.specs.Prelude.{replicate}
use Rattle.std.specs.List.{flat_map, AllByRecursion}
use Rattle.am_runs.specs.Items.{ReadsItems}
use Rattle.am_runs.specs.Runs.{Run, Repeat, Literal, Nulls, expansion, bytes_of, IsRun}
use Rattle.am_runs.specs.Canonical.{IsTight, AreLiteral, first_entry, AreCanonical, AreNulls, Canon}
use Rattle.am_runs.specs.Judging.{Sight, sight_of, is_literal, MayComeAfter, IsNext, item_seen}
use Rattle.am_runs.proofs.Unique.{same_run, length_bytes_of-pos, no_more}

-- Each run is tight and may follow the one before it.
abbrev pub Follows : Option Sight → List Run → Type 0
Follows before [] = Unit {0}
Follows before (r ∷ runs) = IsTight r × MayComeAfter before (sight_of r []) × Follows (Some (sight_of r [])) runs

-- An item was seen, or is in the list.
abbrev pub HasItem : Bool → List (Option (List ℕ)) → Type 0
HasItem true list = Unit {0}
HasItem false list = ¬ AreNulls list

-- The bytes join runs that go on in canonical order.
pub record Onward (end : List ℕ → Option ℕ) (before : Option Sight) (seen : Bool) (most : ℕ) (bytes : List ℕ) : Type 0 where
  pub runs : List Run
  pub each : AllByRecursion (IsRun end) runs
  pub follows : Follows before runs
  pub front : bytes ≡ flat_map bytes_of runs
  pub short : length (flat_map expansion runs) ≤ most
  pub item : HasItem seen (flat_map expansion runs)

-- what is behind a run doesn't matter
after_any : (before : Option Sight) (r : Run) (s t : List ℕ) → MayComeAfter before (sight_of r s) → MayComeAfter before (sight_of r t)
after_any None r s t m = tt
after_any (Some b) r s t m = m

follows_any : (r : Run) (s t : List ℕ) (runs : List Run) → Follows (Some (sight_of r s)) runs → Follows (Some (sight_of r t)) runs
follows_any r s t [] f = tt
follows_any r s t (q ∷ runs) f = f

nulls_both : (xs ys : List (Option (List ℕ))) → AreNulls (xs ++ ys) → AreNulls ys
nulls_both [] ys h = h
nulls_both (x ∷ xs) ys h = nulls_both xs ys h.1

nulls_join : (k : ℕ) (ys : List (Option (List ℕ))) → AreNulls ys → AreNulls (replicate k None ++ ys)
nulls_join zero ys h = h
nulls_join (suc k) ys h = (refl, nulls_join k ys h)

item_more : (end : List ℕ → Option ℕ) (seen : Bool) (r : Run) (list : List (Option (List ℕ))) → IsRun end r → HasItem (item_seen seen (first_entry r)) list → HasItem seen (expansion r ++ list)
item_more end true r list h i = tt
item_more end false (Repeat zero item) list h i = absurd (omega (arith, h.0))
item_more end false (Repeat (suc n) item) list h i = λ a. let e = a.0 in absurd (cc)
item_more end false (Literal []) list h i = absurd (omega (arith, h.0))
item_more end false (Literal (x ∷ xs)) list h i = λ a. let e = a.0 in absurd (cc)
item_more end false (Nulls k) list h i = λ a. i (nulls_both (replicate k None) list a)

item_less : (end : List ℕ → Option ℕ) (seen : Bool) (r : Run) (list : List (Option (List ℕ))) → IsRun end r → HasItem seen (expansion r ++ list) → HasItem (item_seen seen (first_entry r)) list
item_less end true r list h i = tt
item_less end false (Repeat n item) list h i = tt
item_less end false (Literal []) list h i = absurd (omega (arith, h.0))
item_less end false (Literal (x ∷ xs)) list h i = tt
item_less end false (Nulls k) list h i = λ a. i (nulls_join k list a)

-- the runs behind the next one, and the runs with it
pub with_next : (end : List ℕ → Option ℕ) (before : Option Sight) (seen : Bool) (most : ℕ) (bytes : List ℕ) (s : Sight) → IsNext end before bytes most s → Onward end (Some s) (item_seen seen s.first) (most - s.count) s.rest → Onward end before seen most bytes
with_next end before seen most bytes s n w =
    let first : s.first ≡ first_entry n.run = ap (λ (x : Sight). x.first) n.seen in
    let count : s.count ≡ length (expansion n.run) = ap (λ (x : Sight). x.count) n.seen in
    record {
      runs = n.run ∷ w.runs;
      each = (n.is_run, w.each);
      follows = (n.tight, after_any before n.run s.rest [] (subst (MayComeAfter before) n.seen n.follows), follows_any n.run s.rest [] w.runs (subst (λ (x : Sight). Follows (Some x) w.runs) n.seen w.follows));
      front = n.front ∙ ap (λ b. bytes_of n.run ++ b) w.front;
      short = omega (arith, w.short, n.within, count, length-append (expansion n.run) (flat_map expansion w.runs));
      item = item_more end seen n.run (flat_map expansion w.runs) n.is_run (subst (λ o. HasItem (item_seen seen o) (flat_map expansion w.runs)) first w.item);
    }

pub behind_next : (end : List ℕ → Option ℕ) → ReadsItems end → (before : Option Sight) (seen : Bool) (most : ℕ) (bytes : List ℕ) (s : Sight) → IsNext end before bytes most s → Onward end before seen most bytes → Onward end (Some s) (item_seen seen s.first) (most - s.count) s.rest
behind_next end reads before seen most bytes s n w = by_runs w.runs w.each w.follows w.front w.short w.item
  where
    by_runs : (runs : List Run) → AllByRecursion (IsRun end) runs → Follows before runs → bytes ≡ flat_map bytes_of runs → length (flat_map expansion runs) ≤ most → HasItem seen (flat_map expansion runs) → Onward end (Some s) (item_seen seen s.first) (most - s.count) s.rest
    by_runs [] e f b l i = absurd (omega (arith, ap length (sym n.front ∙ b), length-append (bytes_of n.run) s.rest, length_bytes_of-pos n.run))
    by_runs (r ∷ runs) e f b l i =
        let v = same_run end reads n.run r s.rest (flat_map bytes_of runs) n.is_run e.0 (sym n.front ∙ b) in
        let is : s ≡ sight_of r s.rest = n.seen ∙ ap (λ q. sight_of q s.rest) v.0 in
        let first : first_entry r ≡ s.first = sym (ap (λ (x : Sight). x.first) is) in
        let count : s.count ≡ length (expansion r) = ap (λ (x : Sight). x.count) is in
        record {
          runs = runs;
          each = e.1;
          follows = subst (λ (x : Sight). Follows (Some x) runs) (sym is) (follows_any r [] s.rest runs f.2);
          front = v.1;
          short = omega (arith, l, count, length-append (expansion r) (flat_map expansion runs));
          item = subst (λ o. HasItem (item_seen seen o) (flat_map expansion runs)) first (item_less end seen r (flat_map expansion runs) e.0 i);
        }

-- bytes that go on begin with a next run
pub goes_on : (end : List ℕ → Option ℕ) (before : Option Sight) (seen : Bool) (most : ℕ) (bytes : List ℕ) → 0 < length bytes → Onward end before seen most bytes → ((s : Sight) → IsNext end before bytes most s → ⊥) → ⊥
goes_on end before seen most bytes h w none = by_runs w.runs w.each w.follows w.front w.short
  where
    by_runs : (runs : List Run) → AllByRecursion (IsRun end) runs → Follows before runs → bytes ≡ flat_map bytes_of runs → length (flat_map expansion runs) ≤ most → ⊥
    by_runs [] e f b l = absurd (omega (arith, ap length b))
    by_runs (r ∷ runs) e f b l =
        none (sight_of r (flat_map bytes_of runs)) (record {
          run = r;
          is_run = e.0;
          tight = f.0;
          follows = after_any before r [] (flat_map bytes_of runs) f.1;
          front = b;
          seen = refl;
          within = omega (arith, l, length-append (expansion r) (flat_map expansion runs));
        })

-- ---- the end and the start

pub at_end : (end : List ℕ → Option ℕ) (before : Option Sight) (seen : Bool) (most : ℕ) (bytes : List ℕ) → bytes ≡ [] → (Onward end before seen most bytes → seen ≡ true) × (seen ≡ true → Onward end before seen most bytes)
at_end end before seen most bytes e = (λ w. must seen w.runs (no_more w.runs (sym e ∙ w.front)) w.item, λ t. record { runs = []; each = tt; follows = tt; front = e; short = omega arith; item = subst (λ b. HasItem b []) (sym t) tt })
  where
    must : (b : Bool) (runs : List Run) → runs ≡ [] → HasItem b (flat_map expansion runs) → b ≡ true
    must true runs r i = refl
    must false [] r i = absurd (i tt)
    must false (x ∷ runs) r i = absurd (cc)

both_literal : (r s : Run) → AreLiteral r s → (is_literal r ≡ true) × (is_literal s ≡ true)
both_literal (Literal xs) (Literal ys) a = (refl, refl)
both_literal (Literal xs) (Repeat n y) a = absurd a
both_literal (Literal xs) (Nulls k) a = absurd a
both_literal (Repeat n x) s a = absurd a
both_literal (Nulls k) s a = absurd a

are_literal : (r s : Run) → is_literal r ≡ true → is_literal s ≡ true → AreLiteral r s
are_literal (Literal xs) (Literal ys) a b = tt
are_literal (Literal xs) (Repeat n y) a b = absurd (cc)
are_literal (Literal xs) (Nulls k) a b = absurd (cc)
are_literal (Repeat n x) s a b = absurd (cc)
are_literal (Nulls k) s a b = absurd (cc)

canonical_from : (before : Option Sight) (runs : List Run) → Follows before runs → AreCanonical runs
canonical_from before [] f = tt
canonical_from before (r ∷ []) f = f.0
canonical_from before (r ∷ s ∷ runs) f = (f.0, ((f.2).1.0, λ a. (f.2).1.1 (both_literal r s a)), canonical_from (Some (sight_of r [])) (s ∷ runs) f.2)

follows_from : (before : Option Sight) (r : Run) (runs : List Run) → MayComeAfter before (sight_of r []) → AreCanonical (r ∷ runs) → Follows before (r ∷ runs)
follows_from before r [] m c = (c, m, tt)
follows_from before r (s ∷ runs) m c = (c.0, m, follows_from (Some (sight_of r [])) s runs ((c.1).0, λ a. (c.1).1 (are_literal r s a.0 a.1)) c.2)

first_follows : (runs : List Run) → AreCanonical runs → Follows None runs
first_follows [] c = tt
first_follows (r ∷ runs) c = follows_from None r runs tt c

pub from_start : (end : List ℕ → Option ℕ) (most : ℕ) (bytes : List ℕ) → Onward end None false most bytes → (list : List (Option (List ℕ))) × Canon end bytes list × (length list ≤ most)
from_start end most bytes w = (flat_map expansion w.runs, inr (w.item, (w.runs, w.each, canonical_from None w.runs w.follows, w.front, refl)), w.short)

pub to_start : (end : List ℕ → Option ℕ) (most : ℕ) (bytes : List ℕ) → 0 < length bytes → (list : List (Option (List ℕ))) × Canon end bytes list × (length list ≤ most) → Onward end None false most bytes
to_start end most bytes h w = ⊎_elim
    (λ n. absurd (omega (arith, h, ap length n.0)))
    (λ c. record {
      runs = c.1.0;
      each = (c.1).1;
      follows = first_follows c.1.0 (c.1).2;
      front = (c.1).3;
      short = subst (λ l. length l ≤ most) (c.1).4 w.2;
      item = subst (λ l. ¬ AreNulls l) (c.1).4 c.0;
    })
    w.1

-- ---- the loop

pub next_shorter : (end : List ℕ → Option ℕ) (before : Option Sight) (bytes : List ℕ) (most : ℕ) (s : Sight) → IsNext end before bytes most s → length s.rest < length bytes
next_shorter end before bytes most s n = omega (arith, ap length n.front, length-append (bytes_of n.run) s.rest, length_bytes_of-pos n.run)

pub next_preserved : (end : List ℕ → Option ℕ) → ReadsItems end → (before : Option Sight) (seen seen' : Bool) (most : ℕ) (bytes : List ℕ) (s : Sight) {X : Type 0} → IsNext end before bytes most s → seen' ≡ item_seen seen s.first
    → (Onward end before seen most bytes ↔ X) → (Onward end (Some s) seen' (most - s.count) s.rest ↔ X)
next_preserved end reads before seen seen' most bytes s n e i = (
  λ w. i.0 (with_next end before seen most bytes s n (subst (λ b. Onward end (Some s) b (most - s.count) s.rest) e w)),
  λ x. subst (λ b. Onward end (Some s) b (most - s.count) s.rest) (sym e) (behind_next end reads before seen most bytes s n (i.1 x)),
)
