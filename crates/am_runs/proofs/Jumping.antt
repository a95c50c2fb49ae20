-- Going on by many entries at once.
use Rattle.std.proofs.Common.{◌≡◌, ℕ, suc, zero, ◌+◌, ◌-◌, ◌<◌, ◌≤◌, List, length, drop, Option, Some, None, min, refl, sym, ap, ◌∙◌, subst, arith}
use Rattle.std.proofs.lemmas.List.{drop-drop, drop_min}
use Rattle.am_runs.specs.declared.place.Kind.{Kind}
use Rattle.am_runs.specs.declared.place.Kind.TheVariants as kinds
use Rattle.am_runs.specs.Walking.{Place, open_run, entry_by, within_opened, step_at, step, listed, entries, holds_behind, HasEntries, Jumps}
use Rattle.std.specs.Option.{IfSome}
use Rattle.am_runs.proofs.Entries.{entries-more, HasEntries-more}

pub Jumps-none : (end : List ℕ → Option ℕ) (p : Place) → Jumps end p 0 p
Jumps-none end p = record {
  goes = λ n h w. subst (λ k. HasEntries end k p) (let q : n ≡ n - 0 = omega arith in q) w;
  drops = λ n h w. ap (λ k. entries end k p) (let q : n ≡ n - 0 = omega arith in q);
}

pub Jumps-one : (end : List ℕ → Option ℕ) (p : Place) (next : Option (List ℕ) × Place) → Some next ≡ step end p → Jumps end p 1 next.1
Jumps-one end p next e = record {
  goes = λ n h w. HasEntries-more end n p next h e w;
  drops = λ n h w. ap (drop 1) (entries-more end n p next h e);
}

pub Jumps-then : (end : List ℕ → Option ℕ) (a b c : Place) (k j : ℕ) → Jumps end a k b → Jumps end b j c → Jumps end a (k + j) c
Jumps-then end a b c k j v w = record {
  goes = λ n h g. subst (λ m. HasEntries end m c) (let q : n - k - j ≡ n - (k + j) = omega arith in q) (w.goes (n - k) (omega arith) (v.goes n (omega arith) g));
  drops = λ n h g. sym (drop-drop j k (entries end n a)) ∙ ap (drop j) (v.drops n (omega arith) g) ∙ w.drops (n - k) (omega arith) (v.goes n (omega arith) g) ∙ ap (λ m. entries end m c) (let q : n - k - j ≡ n - (k + j) = omega arith in q);
}

one_more : (end : List ℕ → Option ℕ) (kind : Kind) (count : ℕ) (item rest : List ℕ) (x : Option (List ℕ)) → entry_by end kind count item rest ≡ Some (x, record { kind = kind; count = count; item = item; rest = rest }) → Jumps end (record { kind = kind; count = suc count; item = item; rest = rest }) 1 (record { kind = kind; count = count; item = item; rest = rest })
one_more end kind count item rest x e = Jumps-one end _ (x, record { kind = kind; count = count; item = item; rest = rest }) (sym e)

-- along a run of like entries
along : (end : List ℕ → Option ℕ) (kind : Kind) (item rest : List ℕ) (x : Option (List ℕ)) → ((count : ℕ) → entry_by end kind count item rest ≡ Some (x, record { kind = kind; count = count; item = item; rest = rest })) → (k d : ℕ) → Jumps end (record { kind = kind; count = k + d; item = item; rest = rest }) k (record { kind = kind; count = d; item = item; rest = rest })
along end kind item rest x e zero d = subst (λ n. Jumps end (record { kind = kind; count = n; item = item; rest = rest }) 0 (record { kind = kind; count = d; item = item; rest = rest })) (let q : d ≡ 0 + d = omega arith in q) (Jumps-none end _)
along end kind item rest x e (suc k) d =
    subst (λ n. Jumps end (record { kind = kind; count = n; item = item; rest = rest }) (suc k) (record { kind = kind; count = d; item = item; rest = rest })) (let q : suc (k + d) ≡ suc k + d = omega arith in q)
    (subst (λ n. Jumps end (record { kind = kind; count = suc (k + d); item = item; rest = rest }) n (record { kind = kind; count = d; item = item; rest = rest })) (let q : 1 + k ≡ suc k = omega arith in q)
    (Jumps-then end _ (record { kind = kind; count = k + d; item = item; rest = rest }) _ 1 k (one_more end kind (k + d) item rest x (e (k + d))) (along end kind item rest x e k d)))

like : (end : List ℕ → Option ℕ) (p : Place) (k : ℕ) (x : Option (List ℕ)) → ((count : ℕ) → entry_by end p.kind count p.item p.rest ≡ Some (x, record { kind = p.kind; count = count; item = p.item; rest = p.rest })) → k ≤ p.count → Jumps end p k (record { kind = p.kind; count = p.count - k; item = p.item; rest = p.rest })
like end p k x e h = subst (λ n. Jumps end (record { kind = p.kind; count = n; item = p.item; rest = p.rest }) k (record { kind = p.kind; count = p.count - k; item = p.item; rest = p.rest })) (let q : k + (p.count - k) ≡ p.count = omega arith in q) (along end p.kind p.item p.rest x e k (p.count - k))

pub jump_repeat : (end : List ℕ → Option ℕ) (p : Place) (k : ℕ) → p.kind ≡ kinds.Repeat → k ≤ p.count → Jumps end p k (record { kind = p.kind; count = p.count - k; item = p.item; rest = p.rest })
jump_repeat end p k e h = like end p k (Some p.item) (λ count. ap (λ kind. entry_by end kind count p.item p.rest) e ∙ ap (λ kind. Some (Some p.item, record { kind = kind; count = count; item = p.item; rest = p.rest })) (sym e)) h

pub jump_nulls : (end : List ℕ → Option ℕ) (p : Place) (k : ℕ) → p.kind ≡ kinds.Nulls → k ≤ p.count → Jumps end p k (record { kind = p.kind; count = p.count - k; item = p.item; rest = p.rest })
jump_nulls end p k e h = like end p k None (λ count. ap (λ kind. entry_by end kind count p.item p.rest) e ∙ ap (λ kind. Some (None, record { kind = kind; count = count; item = p.item; rest = p.rest })) (sym e)) h

-- a place between runs, and the start of the next
pub step-opened : (end : List ℕ → Option ℕ) (p q : Place) → p.count ≡ 0 → 0 < q.count → Some q ≡ open_run end p.rest → step end p ≡ step end q
step-opened end p q z h e = ap (λ n. step_at end n p) z ∙ ap (within_opened end) (sym e) ∙ same q.count h
  where
    same : (n : ℕ) → 0 < n → within_opened end (Some (record q { count = n })) ≡ step_at end n q
    same zero h = absurd (omega arith)
    same (suc n) h = refl

pub from_same : (end : List ℕ → Option ℕ) (n : ℕ) (p q : Place) → 0 < n → step end p ≡ step end q → HasEntries end n p → HasEntries end n q
unfolding HasEntries
from_same end zero p q h e w = absurd (omega arith)
from_same end (suc n) p q h e w = subst (holds_behind (HasEntries end n)) e w

pub entries_same : (end : List ℕ → Option ℕ) (n : ℕ) (p q : Place) → 0 < n → step end p ≡ step end q → entries end n p ≡ entries end n q
unfolding entries
entries_same end zero p q h e = absurd (omega arith)
entries_same end (suc n) p q h e = ap (listed (entries end n)) e

pub Jumps-same : (end : List ℕ → Option ℕ) (p q to : Place) (k : ℕ) → step end p ≡ step end q → 0 < k → Jumps end q k to → Jumps end p k to
Jumps-same end p q to k e h w = record {
  goes = λ n g v. w.goes n g (from_same end n p q (omega arith) e v);
  drops = λ n g v. ap (drop k) (entries_same end n p q (omega arith) e) ∙ w.drops n g (from_same end n p q (omega arith) e v);
}

pub found_same : (end : List ℕ → Option ℕ) (p q : Place) (most : ℕ) → step end p ≡ step end q → {X : Type 0} (o : Option X) (k : X → ℕ) (place : X → Place) → IfSome o (λ j. (0 < k j) × (k j ≤ most) × Jumps end q (k j) (place j)) → IfSome o (λ j. (0 < k j) × (k j ≤ most) × Jumps end p (k j) (place j))
found_same end p q most e None k place h = h
found_same end p q most e (Some x) k place h = (h.0, h.1, Jumps-same end p q (place x) (k x) e h.0 h.2)

pub drop_least : (xs : List (Option (List ℕ))) (n left m : ℕ) → left ≡ length xs → m ≡ min n left → drop m xs ≡ drop n xs
drop_least xs n left m e h = ap (λ k. drop k xs) (h ∙ ap (min n) e) ∙ drop_min n xs
