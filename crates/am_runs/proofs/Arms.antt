-- What becomes of the pending run when one more entry is pushed, case by case.
use Rattle.std.proofs.Common.{◌≡◌, ◌≢◌, ℕ, suc, ◌+◌, ◌-◌, ◌<◌, ◌≤◌, List, [], ◌∷◌, ◌++◌, length, Option, Some, None, pos, negsuc, neg_ℤ, refl, sym, ap, ◌∙◌, subst, arith, append_assoc, length-append}
use Rattle.std.specs.List.{flat_map, AllByRecursion}
use Rattle.std.proofs.lemmas.List.{append-nil}
use Rattle.am_leb.specs.Leb.{leb}
use Rattle.am_runs.specs.declared.pending.PendingKind.{PendingKind}
use Rattle.am_runs.specs.declared.pending.PendingKind.TheVariants as pending
use Rattle.am_runs.specs.Items.{IsItem}
use Rattle.am_runs.specs.Runs.{Run, Repeat, Literal, Nulls, expansion, bytes_of}
use Rattle.am_runs.specs.Pending.{Chain, joined_back, HasItems, IsPending, pending_bytes, HoldsRun, Holds}
use Rattle.am_runs.proofs.Pushing.{null_more, item_after_nulls, same_after_repeat, other_after_repeat, null_after_repeat, null_after_literal, other_after_literal, same_after_one, same_after_literal}
use Rattle.am_runs.proofs.Holding.{expansion-null, expansion-repeat, expansion-literal, joined-push, literal_bytes}

-- an entry more in the pending run
grown : {A : Type 0} (list back run more : List A) (x : A) → list ≡ back ++ run → more ≡ run ++ x ∷ [] → list ++ x ∷ [] ≡ back ++ more
grown list back run more x e m = ap (λ l. l ++ x ∷ []) e ∙ append_assoc back run (x ∷ []) ∙ ap (λ l. back ++ l) (sym m)

pub arm_null_more : (end : List ℕ → Option ℕ) (done : List ℕ) (count : ℕ) (front last front' last' : List ℕ) (list : List (Option (List ℕ))) → Holds end done pending.Nulls count front last list → Holds end done pending.Nulls (suc count) front' last' (list ++ None ∷ [])
arm_null_more end done count front last front' last' list h =
    let c : Chain (Nulls count) h.before = subst (λ r. Chain r h.before) h.is_pending h.chain in
    let l : list ≡ joined_back expansion h.before ++ expansion (Nulls count) = h.list_is ∙ ap (λ r. joined_back expansion h.before ++ expansion r) h.is_pending in
    record {
      run = Nulls (suc count);
      before = h.before;
      is_pending = refl;
      chain = null_more count h.before c;
      each = (omega arith, h.each.1);
      done_is = h.done_is;
      list_is = grown list _ _ (expansion (Nulls (suc count))) None l (expansion-null count);
    }

pub arm_repeat_more : (end : List ℕ → Option ℕ) (done : List ℕ) (count : ℕ) (front last front' : List ℕ) (list : List (Option (List ℕ))) → Holds end done pending.Repeat count front last list → Holds end done pending.Repeat (suc count) front' last (list ++ Some last ∷ [])
arm_repeat_more end done count front last front' list h =
    let c : Chain (Repeat count last) h.before = subst (λ r. Chain r h.before) h.is_pending h.chain in
    let i : HasItems end (Repeat count last) = subst (HasItems end) h.is_pending h.each.0 in
    let l : list ≡ joined_back expansion h.before ++ expansion (Repeat count last) = h.list_is ∙ ap (λ r. joined_back expansion h.before ++ expansion r) h.is_pending in
    record {
      run = Repeat (suc count) last;
      before = h.before;
      is_pending = refl;
      chain = same_after_repeat count last h.before c;
      each = ((omega arith, i.1), h.each.1);
      done_is = h.done_is;
      list_is = grown list _ _ (expansion (Repeat (suc count) last)) (Some last) l (expansion-repeat count last);
    }

pub all_push : (end : List ℕ → Option ℕ) (items : List (List ℕ)) (x : List ℕ) → AllByRecursion (IsItem end) items → IsItem end x → AllByRecursion (IsItem end) (items ++ x ∷ [])
all_push end [] x h i = (i, tt)
all_push end (y ∷ items) x h i = (h.0, all_push end items x h.1 i)

pub arm_literal_more : (end : List ℕ → Option ℕ) (done : List ℕ) (count : ℕ) (front last x : List ℕ) (list : List (Option (List ℕ))) → last ≢ x → IsItem end x → Holds end done pending.Literal count front last list → Holds end done pending.Literal (suc count) (front ++ last) x (list ++ Some x ∷ [])
arm_literal_more end done count front last x list d i h =
    let p = h.is_pending in
    let items = p.0 in
    let c : Chain (Literal (items ++ last ∷ [])) h.before = subst (λ r. Chain r h.before) p.1 h.chain in
    let a : HasItems end (Literal (items ++ last ∷ [])) = subst (HasItems end) p.1 h.each.0 in
    let l : list ≡ joined_back expansion h.before ++ expansion (Literal (items ++ last ∷ [])) = h.list_is ∙ ap (λ r. joined_back expansion h.before ++ expansion r) p.1 in
    record {
      run = Literal ((items ++ last ∷ []) ++ x ∷ []);
      before = h.before;
      is_pending = (items ++ last ∷ [], refl, (ap (λ s. s ++ last) p.2 ∙ sym (joined-push items last)), omega (arith, p.3, length-append items (last ∷ [])));
      chain = other_after_literal items last x h.before d c;
      each = ((omega (arith, length-append (items ++ last ∷ []) (x ∷ [])), all_push end (items ++ last ∷ []) x a.1 i), h.each.1);
      done_is = h.done_is;
      list_is = grown list _ _ (expansion (Literal ((items ++ last ∷ []) ++ x ∷ []))) (Some x) l (expansion-literal (items ++ last ∷ []) x);
    }

-- the bytes of the pending run
pub pending_is : (end : List ℕ → Option ℕ) (kind : PendingKind) (count : ℕ) (front last : List ℕ) (run : Run) → IsPending kind count front last run → pending_bytes kind count front last ≡ bytes_of run
pending_is end pending.Nothing count front last run p = absurd p
pending_is end pending.Nulls count front last run p = ap bytes_of (sym p)
pending_is end pending.Repeat count front last run p = ap bytes_of (sym p)
pending_is end pending.Literal count front last run p = ap (λ f. leb (negsuc count) ++ (f ++ last)) p.2 ∙ sym (literal_bytes p.0 last count p.3) ∙ ap bytes_of (sym p.1)

-- the pending run is finished, and another one pending
closed : (end : List ℕ → Option ℕ) (done : List ℕ) (kind kind' : PendingKind) (count count' : ℕ) (front last front' last' : List ℕ) (list : List (Option (List ℕ))) (e : Option (List ℕ)) (next : Run)
    → (h : HoldsRun end done kind count front last list) → IsPending kind' count' front' last' next → Chain next (h.run ∷ h.before) → HasItems end next → expansion next ≡ e ∷ [] → HoldsRun end (done ++ pending_bytes kind count front last) kind' count' front' last' (list ++ e ∷ [])
closed end done kind kind' count count' front last front' last' list e next h p c i x = record {
  run = next;
  before = h.run ∷ h.before;
  is_pending = p;
  chain = c;
  each = (i, h.each);
  done_is = ap (λ s. s ++ pending_bytes kind count front last) h.done_is ∙ ap (λ s. joined_back bytes_of h.before ++ s) (pending_is end kind count front last h.run h.is_pending);
  list_is = ap (λ l. l ++ e ∷ []) h.list_is ∙ ap (λ l. (joined_back expansion h.before ++ expansion h.run) ++ l) (sym x);
}

fresh : (end : List ℕ → Option ℕ) (done : List ℕ) (kind' : PendingKind) (count' : ℕ) (front' last' : List ℕ) (list : List (Option (List ℕ))) (e : Option (List ℕ)) (next : Run) (count : ℕ)
    → (done ≡ []) × (list ≡ []) × (count ≡ 0) → IsPending kind' count' front' last' next → Chain next [] → HasItems end next → expansion next ≡ e ∷ [] → HoldsRun end (done ++ []) kind' count' front' last' (list ++ e ∷ [])
fresh end done kind' count' front' last' list e next count h p c i x = record {
  run = next;
  before = [];
  is_pending = p;
  chain = c;
  each = (i, tt);
  done_is = append-nil done ∙ h.0;
  list_is = ap (λ l. l ++ e ∷ []) h.1 ∙ sym x;
}

pub arm_close_null : (end : List ℕ → Option ℕ) (done : List ℕ) (kind : PendingKind) (count : ℕ) (front last front' last' : List ℕ) (list : List (Option (List ℕ))) → kind ≢ pending.Nulls → Holds end done kind count front last list → Holds end (done ++ pending_bytes kind count front last) pending.Nulls 1 front' last' (list ++ None ∷ [])
arm_close_null end done pending.Nothing count front last front' last' list n h = fresh end done pending.Nulls 1 front' last' list None (Nulls 1) count h refl tt (omega arith) refl
arm_close_null end done pending.Nulls count front last front' last' list n h = absurd (n refl)
arm_close_null end done pending.Repeat count front last front' last' list n h =
    closed end done pending.Repeat pending.Nulls count 1 front last front' last' list None (Nulls 1) h refl
    (subst (λ r. Chain (Nulls 1) (r ∷ h.before)) (sym h.is_pending) (null_after_repeat count last h.before (subst (λ r. Chain r h.before) h.is_pending h.chain))) (omega arith) refl
arm_close_null end done pending.Literal count front last front' last' list n h =
    let p = h.is_pending in
    closed end done pending.Literal pending.Nulls count 1 front last front' last' list None (Nulls 1) h refl
    (subst (λ r. Chain (Nulls 1) (r ∷ h.before)) (sym p.1) (null_after_literal p.0 last h.before (subst (λ r. Chain r h.before) p.1 h.chain))) (omega arith) refl

one : (x : List ℕ) → IsPending pending.Literal 0 [] x (Literal (x ∷ []))
one x = ([], refl, refl, refl)

pub arm_close_item : (end : List ℕ → Option ℕ) (done : List ℕ) (kind : PendingKind) (count : ℕ) (front last x : List ℕ) (list : List (Option (List ℕ))) → IsItem end x → kind ≢ pending.Literal → (kind ≡ pending.Repeat → last ≢ x) → Holds end done kind count front last list → Holds end (done ++ pending_bytes kind count front last) pending.Literal 0 [] x (list ++ Some x ∷ [])
arm_close_item end done pending.Nothing count front last x list i n d h = fresh end done pending.Literal 0 [] x list (Some x) (Literal (x ∷ [])) count h (one x) tt (omega arith, (i, tt)) refl
arm_close_item end done pending.Nulls count front last x list i n d h =
    closed end done pending.Nulls pending.Literal count 0 front last [] x list (Some x) (Literal (x ∷ [])) h (one x)
    (subst (λ r. Chain (Literal (x ∷ [])) (r ∷ h.before)) (sym h.is_pending) (item_after_nulls count x h.before (subst (λ r. Chain r h.before) h.is_pending h.chain))) (omega arith, (i, tt)) refl
arm_close_item end done pending.Repeat count front last x list i n d h =
    closed end done pending.Repeat pending.Literal count 0 front last [] x list (Some x) (Literal (x ∷ [])) h (one x)
    (subst (λ r. Chain (Literal (x ∷ [])) (r ∷ h.before)) (sym h.is_pending) (other_after_repeat count x last h.before (λ e. d refl (sym e)) (subst (λ r. Chain r h.before) h.is_pending h.chain))) (omega arith, (i, tt)) refl
arm_close_item end done pending.Literal count front last x list i n d h = absurd (n refl)

pub arm_literal_one : (end : List ℕ → Option ℕ) (done : List ℕ) (count : ℕ) (front last front' : List ℕ) (list : List (Option (List ℕ))) → count ≡ 0 → Holds end done pending.Literal count front last list → Holds end done pending.Repeat 2 front' last (list ++ Some last ∷ [])
arm_literal_one end done count front last front' list z h = of_items h.is_pending.0 h.is_pending.1 h.is_pending.3
  where
    of_items : (items : List (List ℕ)) → h.run ≡ Literal (items ++ last ∷ []) → length items ≡ count → Holds end done pending.Repeat 2 front' last (list ++ Some last ∷ [])
    of_items (x ∷ items) r l = absurd (omega arith)
    of_items [] r l =
        let c : Chain (Literal (last ∷ [])) h.before = subst (λ r. Chain r h.before) r h.chain in
        let a : HasItems end (Literal (last ∷ [])) = subst (HasItems end) r h.each.0 in
        record {
          run = Repeat 2 last;
          before = h.before;
          is_pending = refl;
          chain = same_after_one last h.before c;
          each = ((omega arith, a.1.0), h.each.1);
          done_is = h.done_is;
          list_is = grown list _ _ (expansion (Repeat 2 last)) (Some last) (h.list_is ∙ ap (λ r. joined_back expansion h.before ++ expansion r) r) refl;
        }

last_apart : (items : List (List ℕ)) → 1 ≤ length items → (front : List (List ℕ)) × (z : List ℕ) × (items ≡ front ++ z ∷ [])
last_apart [] h = absurd (omega arith)
last_apart (x ∷ []) h = ([], x, refl)
last_apart (x ∷ y ∷ items) h = let w = last_apart (y ∷ items) (omega arith) in (x ∷ w.0, w.1, ap (λ l. x ∷ l) w.2)

front_items : (end : List ℕ → Option ℕ) (items : List (List ℕ)) (x : List ℕ) → AllByRecursion (IsItem end) (items ++ x ∷ []) → AllByRecursion (IsItem end) items × IsItem end x
front_items end [] x h = (tt, h.0)
front_items end (y ∷ items) x h = let w = front_items end items x h.1 in ((h.0, w.0), w.1)

pub arm_literal_split : (end : List ℕ → Option ℕ) (done : List ℕ) (count less : ℕ) (front last front' : List ℕ) (list : List (Option (List ℕ))) → count ≡ suc less → Holds end done pending.Literal count front last list → Holds end (done ++ (leb (negsuc less) ++ front)) pending.Repeat 2 front' last (list ++ Some last ∷ [])
arm_literal_split end done count less front last front' list e h =
    let p = h.is_pending in
    let items = p.0 in
    let w = last_apart items (omega (arith, p.3)) in
    let c : Chain (Literal ((w.0 ++ w.1 ∷ []) ++ last ∷ [])) h.before = subst (λ r. Chain r h.before) (p.1 ∙ ap (λ i. Literal (i ++ last ∷ [])) w.2) h.chain in
    let a : HasItems end (Literal (items ++ last ∷ [])) = subst (HasItems end) p.1 h.each.0 in
    let f = front_items end items last a.1 in
    record {
      run = Repeat 2 last;
      before = Literal items ∷ h.before;
      is_pending = refl;
      chain = subst (λ i. Chain (Repeat 2 last) (Literal i ∷ h.before)) (sym w.2) (same_after_literal w.0 w.1 last h.before c);
      each = ((omega arith, f.1), ((omega (arith, p.3), f.0), h.each.1));
      done_is = ap (λ d. d ++ (leb (negsuc less) ++ front)) h.done_is ∙ ap (λ s. joined_back bytes_of h.before ++ s) (ap (λ f. leb (negsuc less) ++ f) p.2 ∙ ap (λ z. leb z ++ flat_map (λ item. item) items) (sym (number (length items) (p.3 ∙ e))));
      list_is = ap (λ l. l ++ Some last ∷ []) (h.list_is ∙ ap (λ r. joined_back expansion h.before ++ expansion r) p.1 ∙ ap (λ l. joined_back expansion h.before ++ l) (expansion-literal items last))
          ∙ regroup (joined_back expansion h.before) (expansion (Literal items)) (Some last);
    }
  where
    number : (m : ℕ) → m ≡ suc less → neg_ℤ (pos m) ≡ negsuc less
    number m h = rw h refl

    regroup : (a b : List (Option (List ℕ))) (x : Option (List ℕ)) → (a ++ (b ++ x ∷ [])) ++ x ∷ [] ≡ (a ++ b) ++ x ∷ x ∷ []
    regroup a b x = simp append_assoc

pub null_more_at : (end : List ℕ → Option ℕ) (done : List ℕ) (kind : PendingKind) (count : ℕ) (front last : List ℕ) (list : List (Option (List ℕ))) → kind ≡ pending.Nulls → Holds end done kind count front last list → Holds end done kind (count + 1) front last (list ++ None ∷ [])
null_more_at end done kind count front last list e h =
    subst (λ k. Holds end done k count front last list → Holds end done k (count + 1) front last (list ++ None ∷ [])) (sym e)
    (λ h. subst (λ n. Holds end done pending.Nulls n front last (list ++ None ∷ [])) (let q : suc count ≡ count + 1 = omega arith in q) (arm_null_more end done count front last front last list h)) h

pub close_null_at : (end : List ℕ → Option ℕ) (done new : List ℕ) (kind : PendingKind) (count : ℕ) (front last : List ℕ) (list : List (Option (List ℕ))) → (kind ≡ pending.Nulls → ⊥) → new ≡ done ++ pending_bytes kind count front last → Holds end done kind count front last list → Holds end new pending.Nulls 1 front last (list ++ None ∷ [])
close_null_at end done new kind count front last list n e h = subst (λ d. Holds end d pending.Nulls 1 front last (list ++ None ∷ [])) (sym e) (arm_close_null end done kind count front last front last list n h)

pub open_literal_at : (end : List ℕ → Option ℕ) (done new : List ℕ) (kind : PendingKind) (count : ℕ) (front last front' last' x : List ℕ) (list : List (Option (List ℕ))) → IsItem end x → (kind ≡ pending.Literal → ⊥) → (kind ≡ pending.Repeat → last ≡ x → ⊥) → new ≡ done ++ pending_bytes kind count front last → front' ≡ [] → last' ≡ x → Holds end done kind count front last list → Holds end new pending.Literal 0 front' last' (list ++ Some x ∷ [])
open_literal_at end done new kind count front last front' last' x list i n d e f l h =
    subst (λ a. Holds end a pending.Literal 0 front' last' (list ++ Some x ∷ [])) (sym e)
    (subst (λ a. Holds end (done ++ pending_bytes kind count front last) pending.Literal 0 a last' (list ++ Some x ∷ [])) (sym f)
    (subst (λ a. Holds end (done ++ pending_bytes kind count front last) pending.Literal 0 [] a (list ++ Some x ∷ [])) (sym l)
    (arm_close_item end done kind count front last x list i n d h)))

pub split_one_at : (end : List ℕ → Option ℕ) (done : List ℕ) (kind : PendingKind) (count : ℕ) (front last : List ℕ) (list : List (Option (List ℕ))) → kind ≡ pending.Literal → count ≡ 0 → Holds end done kind count front last list → Holds end done pending.Repeat 2 front last (list ++ Some last ∷ [])
split_one_at end done kind count front last list k z h = arm_literal_one end done count front last front list z (subst (λ k. Holds end done k count front last list) k h)

pub split_more_at : (end : List ℕ → Option ℕ) (done mid new : List ℕ) (kind : PendingKind) (count : ℕ) (front front' last : List ℕ) (list : List (Option (List ℕ))) → kind ≡ pending.Literal → 0 < count → mid ≡ done ++ leb (negsuc (count - 1)) → new ≡ mid ++ front' → front' ≡ front → Holds end done kind count front last list → Holds end new pending.Repeat 2 front last (list ++ Some last ∷ [])
split_more_at end done mid new kind count front front' last list k z m n f h =
    subst (λ d. Holds end d pending.Repeat 2 front last (list ++ Some last ∷ []))
    (sym (n ∙ ap (λ x. mid ++ x) f ∙ ap (λ x. x ++ front) m ∙ append_assoc done (leb (negsuc (count - 1))) front))
    (arm_literal_split end done count (count - 1) front last front list (let q : count ≡ suc (count - 1) = omega arith in q) (subst (λ k. Holds end done k count front last list) k h))

pub literal_more_at : (end : List ℕ → Option ℕ) (done : List ℕ) (kind : PendingKind) (count : ℕ) (front last front' slice last' x : List ℕ) (list : List (Option (List ℕ))) → kind ≡ pending.Literal → (last ≡ x → ⊥) → IsItem end x → front' ≡ front ++ slice → slice ≡ last → last' ≡ x → Holds end done kind count front last list → Holds end done kind (count + 1) front' last' (list ++ Some x ∷ [])
literal_more_at end done kind count front last front' slice last' x list k d i f s l h =
    subst (λ k. Holds end done k count front last list → Holds end done k (count + 1) front' last' (list ++ Some x ∷ [])) (sym k)
    (λ h. subst (λ n. Holds end done pending.Literal n front' last' (list ++ Some x ∷ [])) (let q : suc count ≡ count + 1 = omega arith in q)
    (subst (λ a. Holds end done pending.Literal (suc count) a last' (list ++ Some x ∷ [])) (sym (f ∙ ap (λ a. front ++ a) s))
    (subst (λ a. Holds end done pending.Literal (suc count) (front ++ last) a (list ++ Some x ∷ [])) (sym l)
    (arm_literal_more end done count front last x list d i h)))) h

pub repeat_more_at : (end : List ℕ → Option ℕ) (done : List ℕ) (kind : PendingKind) (count : ℕ) (front last x : List ℕ) (list : List (Option (List ℕ))) → kind ≡ pending.Repeat → last ≡ x → Holds end done kind count front last list → Holds end done kind (count + 1) front last (list ++ Some x ∷ [])
repeat_more_at end done kind count front last x list k e h =
    subst (λ k. Holds end done k count front last list → Holds end done k (count + 1) front last (list ++ Some x ∷ [])) (sym k)
    (λ h. subst (λ n. Holds end done pending.Repeat n front last (list ++ Some x ∷ [])) (let q : suc count ≡ count + 1 = omega arith in q)
    (subst (λ y. Holds end done pending.Repeat (suc count) front last (list ++ Some y ∷ [])) e (arm_repeat_more end done count front last front list h))) h
