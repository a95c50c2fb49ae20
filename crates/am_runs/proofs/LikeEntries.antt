-- The next entries of a run, all alike.
use Rattle.std.proofs.Common.{◌≡◌, ℕ, suc, zero, ◌<◌, ◌≤◌, List, ◌∷◌, take, Option, Some, None, refl, sym, ap, ◌∙◌, arith}
use Rattle.std.specs.Prelude.{replicate}
use Rattle.std.specs.Option.{IfSome}
use Rattle.am_runs.specs.declared.place.Kind.{Kind}
use Rattle.am_runs.specs.declared.place.Kind.TheVariants as kinds
use Rattle.am_runs.specs.Walking.{Place, entry_by, step, listed, entries, AreAlike}
use Rattle.am_runs.proofs.Entries.{entries-more}

along : (end : List ℕ → Option ℕ) (kind : Kind) (item rest : List ℕ) (x : Option (List ℕ)) → ((count : ℕ) → entry_by end kind count item rest ≡ Some (x, record { kind = kind; count = count; item = item; rest = rest })) → (j count n : ℕ) → j ≤ count → j ≤ n → take j (entries end n (record { kind = kind; count = count; item = item; rest = rest })) ≡ replicate j x
unfolding entries
along end kind item rest x e zero count n h g = refl
along end kind item rest x e (suc j) zero n h g = absurd (omega arith)
along end kind item rest x e (suc j) (suc count) zero h g = absurd (omega arith)
along end kind item rest x e (suc j) (suc count) (suc n) h g =
    ap (λ o. take (suc j) (listed (entries end n) o)) (e count) ∙ ap (λ l. x ∷ l) (along end kind item rest x e j count n (omega arith) (omega arith))

pub alike_repeat : (end : List ℕ → Option ℕ) (p : Place) → p.kind ≡ kinds.Repeat → AreAlike end p p.count (Some p.item)
alike_repeat end p e j n h g = along end p.kind p.item p.rest (Some p.item) (λ count. ap (λ kind. entry_by end kind count p.item p.rest) e ∙ ap (λ kind. Some (Some p.item, record { kind = kind; count = count; item = p.item; rest = p.rest })) (sym e)) j p.count n h g

pub alike_nulls : (end : List ℕ → Option ℕ) (p : Place) → p.kind ≡ kinds.Nulls → AreAlike end p p.count None
alike_nulls end p e j n h g = along end p.kind p.item p.rest None (λ count. ap (λ kind. entry_by end kind count p.item p.rest) e ∙ ap (λ kind. Some (None, record { kind = kind; count = count; item = p.item; rest = p.rest })) (sym e)) j p.count n h g

pub alike_one : (end : List ℕ → Option ℕ) (p : Place) (next : Option (List ℕ) × Place) → Some next ≡ step end p → AreAlike end p 1 next.0
alike_one end p next e zero n h g = refl
alike_one end p next e (suc zero) n h g = ap (take 1) (entries-more end n p next (omega arith) e)
alike_one end p next e (suc (suc j)) n h g = absurd (omega arith)

same : (end : List ℕ → Option ℕ) (p q : Place) → step end p ≡ step end q → (j n : ℕ) → j ≤ n → take j (entries end n p) ≡ take j (entries end n q)
unfolding entries
same end p q e zero n h = refl
same end p q e (suc j) zero h = absurd (omega arith)
same end p q e (suc j) (suc n) h = ap (λ o. take (suc j) (listed (entries end n) o)) e

pub alike_same : (end : List ℕ → Option ℕ) (p q : Place) → step end p ≡ step end q → {X : Type 0} (o : Option X) (k : X → ℕ) (x : X → Option (List ℕ)) → IfSome o (λ r. (0 < k r) × AreAlike end q (k r) (x r)) → IfSome o (λ r. (0 < k r) × AreAlike end p (k r) (x r))
alike_same end p q e None k x h = h
alike_same end p q e (Some r) k x h = (h.0, λ j n a b. same end p q e j n b ∙ h.1 j n a b)
