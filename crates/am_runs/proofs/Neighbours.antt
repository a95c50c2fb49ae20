-- Items that are unlike their neighbours, pushed at once: what is found in bytes, what the pending run becomes, and where a
-- cursor stands behind them.
use Rattle.std.proofs.Common.{◌≡◌, ℕ, suc, zero, ◌+◌, ◌-◌, ◌^◌, ◌≤◌, List, [], ◌∷◌, ◌++◌, length, take, drop, map, ℤ, Bool, false, cond, Option, Some, None, refl, sym, ap, ◌∙◌, subst, arith, append_assoc, length-append}
use Rattle.std.specs.Option.{IfSome, IfNone, option_map}
use Rattle.std.specs.List.{AllByRecursion}
use Rattle.std.proofs.lemmas.List.{append-nil, map-append, take_at, length-map}
use Rattle.std.proofs.Math.Seq.{drop-append_seam}
use Rattle.am_runs.specs.declared.pending.PendingKind.{PendingKind}
use Rattle.am_runs.specs.declared.pending.PendingKind.TheVariants as pending
use Rattle.am_runs.specs.declared.place.Kind.TheVariants as kinds
use Rattle.am_leb.specs.Leb.{leb, signed_value}
use Rattle.am_leb.proofs.Answering.{IsBytes}
use Rattle.am_runs.specs.Items.{IsItem, ReadsItems, signed_end}
use Rattle.am_runs.specs.ItemLaws.{signed_reads, signed_again}
use Rattle.am_runs.specs.Typed.{AllItems}
use Rattle.am_runs.specs.Canonical.{NoEqualNeighbours}
use Rattle.am_runs.specs.Pending.{Holds, written_so_far, IsWriting}
use Rattle.am_runs.specs.Apart.{AreApart, Took}
use Rattle.am_runs.specs.Walking.{Place, entries, HasEntries}
use Rattle.am_runs.specs.Counters.{in_literal, entries_from, counted, IsCounted}
use Rattle.am_runs.proofs.Opening.{joined}
use Rattle.am_runs.proofs.Holding.{joined-push}
use Rattle.am_runs.proofs.Pushing.{neighbours_push}
use Rattle.am_runs.proofs.Arms.{all_push, arm_literal_more}
use Rattle.am_runs.proofs.Finishing.{shown, open_writing, in_value}
use Rattle.am_runs.proofs.Alike.{room_for}
use Rattle.am_runs.proofs.Entries.{entries-step, HasEntries-step}
use Rattle.am_runs.proofs.Walks.{item_step}
use Rattle.am_runs.proofs.Counted.{literal-holds, literal-entries, counted_none}
use Rattle.am_runs.proofs.Spelled.{AllBytes, AllBytes-from, left_bytes, of_literal, respelled}

-- ---- what begins the bytes

pub more_apart : (end : List ℕ → Option ℕ) (before : List ℕ) (start : List (List ℕ)) (count size : ℕ) (last bytes rest x behind : List ℕ) → AreApart end before start count size last bytes rest → IsItem end x → (last ≡ x → ⊥) → rest ≡ x ++ behind
    → AreApart end before (start ++ last ∷ []) (count + 1) (size + length last) x bytes behind
more_apart end before start count size last bytes rest x behind a i d e = record {
  each = all_push end (start ++ last ∷ []) x a.each i;
  apart = neighbours_push (before ∷ start) last x d a.apart;
  count_is = omega (arith, a.count_is, length-append start (last ∷ []));
  size_is = omega (arith, a.size_is, ap length (joined-push start last), length-append (joined start) last);
  bytes_are = a.bytes_are ∙ ap (λ r. joined start ++ (last ++ r)) e ∙ sym (append_assoc (joined start) last (x ++ behind)) ∙ ap (λ f. f ++ (x ++ behind)) (sym (joined-push start last));
}

pub apart_front : (end : List ℕ → Option ℕ) (before : List ℕ) (start : List (List ℕ)) (count size : ℕ) (last bytes rest : List ℕ) → AreApart end before start count size last bytes rest → take size bytes ≡ joined start
apart_front end before start count size last bytes rest a = ap (take size) a.bytes_are ∙ take_at (joined start) (last ++ rest) size (sym a.size_is)

apart_whole : (end : List ℕ → Option ℕ) (before : List ℕ) (start : List (List ℕ)) (count size : ℕ) (last bytes rest : List ℕ) → AreApart end before start count size last bytes rest → take (size + length last) bytes ≡ joined start ++ last
apart_whole end before start count size last bytes rest a =
    ap (take (size + length last)) (a.bytes_are ∙ sym (append_assoc (joined start) last rest))
    ∙ take_at (joined start ++ last) rest (size + length last) (length-append (joined start) last ∙ ap (λ n. n + length last) (sym a.size_is))

-- of their bytes, those before the last, and the last
pub whole_front : (end : List ℕ → Option ℕ) (before : List ℕ) (start : List (List ℕ)) (count size : ℕ) (last bytes rest : List ℕ) → AreApart end before start count size last bytes rest → take size (take (size + length last) bytes) ≡ take size bytes
whole_front end before start count size last bytes rest a =
    ap (take size) (apart_whole end before start count size last bytes rest a) ∙ take_at (joined start) last size (sym a.size_is) ∙ sym (apart_front end before start count size last bytes rest a)

pub whole_last : (end : List ℕ → Option ℕ) (before : List ℕ) (start : List (List ℕ)) (count size : ℕ) (last bytes rest : List ℕ) → AreApart end before start count size last bytes rest → drop size (take (size + length last) bytes) ≡ last
whole_last end before start count size last bytes rest a =
    ap (drop size) (apart_whole end before start count size last bytes rest a) ∙ ap (λ n. drop n (joined start ++ last)) a.size_is ∙ drop-append_seam (joined start) last

pub apart_items : (end : List ℕ → Option ℕ) (before : List ℕ) (start : List (List ℕ)) (count size : ℕ) (last bytes rest : List ℕ) → AreApart end before start count size last bytes rest → bytes ≡ joined (start ++ last ∷ []) ++ rest
apart_items end before start count size last bytes rest a = a.bytes_are ∙ sym (append_assoc (joined start) last rest) ∙ ap (λ f. f ++ rest) (sym (joined-push start last))

-- ---- the pending run

arm_apart : (end : List ℕ → Option ℕ) (done : List ℕ) (start : List (List ℕ)) (count : ℕ) (front before last : List ℕ) (list : List (Option (List ℕ))) → AllByRecursion (IsItem end) (start ++ last ∷ []) → NoEqualNeighbours (before ∷ (start ++ last ∷ [])) → Holds end done pending.Literal count front before list
    → Holds end done pending.Literal (suc (count + length start)) ((front ++ before) ++ joined start) last (list ++ map Some (start ++ last ∷ []))
arm_apart end done [] count front before last list i n h =
    subst (λ m. Holds end done pending.Literal (suc m) ((front ++ before) ++ []) last (list ++ Some last ∷ [])) (let q : count ≡ count + 0 = omega arith in q)
    (subst (λ f. Holds end done pending.Literal (suc count) f last (list ++ Some last ∷ [])) (sym (append-nil (front ++ before)))
    (arm_literal_more end done count front before last list n.0 i.0 h))
arm_apart end done (x ∷ start) count front before last list i n h =
    subst (λ m. Holds end done pending.Literal (suc m) ((front ++ before) ++ joined (x ∷ start)) last (list ++ map Some (x ∷ (start ++ last ∷ [])))) (let q : suc count + length start ≡ count + suc (length start) = omega arith in q)
    (subst (λ f. Holds end done pending.Literal (suc (suc count + length start)) f last (list ++ map Some (x ∷ (start ++ last ∷ [])))) (append_assoc (front ++ before) x (joined start))
    (subst (λ l. Holds end done pending.Literal (suc (suc count + length start)) (((front ++ before) ++ x) ++ joined start) last l) (append_assoc list (Some x ∷ []) (map Some (start ++ last ∷ [])))
    (arm_apart end done start (suc count) (front ++ before) x last (list ++ Some x ∷ []) i.1 n.1 (arm_literal_more end done count front before x list n.0 i.0 h))))

pub apart_at : (end : List ℕ → Option ℕ) (done : List ℕ) (kind : PendingKind) (count : ℕ) (front before : List ℕ) (start : List (List ℕ)) (more size : ℕ) (last bytes rest mid slice front' last' : List ℕ) (list : List (Option (List ℕ))) → kind ≡ pending.Literal → AreApart end before start more size last bytes rest
    → mid ≡ front ++ slice → slice ≡ before → front' ≡ mid ++ take size bytes → last' ≡ last → Holds end done kind count front before list → Holds end done kind (count + more) front' last' (list ++ map Some (start ++ last ∷ []))
apart_at end done kind count front before start more size last bytes rest mid slice front' last' list k a m s f l h =
    subst (λ k. Holds end done k count front before list → Holds end done k (count + more) front' last' (list ++ map Some (start ++ last ∷ []))) (sym k)
    (λ h. subst (λ n. Holds end done pending.Literal n front' last' (list ++ map Some (start ++ last ∷ []))) (let q : suc (count + length start) ≡ count + more = omega (arith, a.count_is) in q)
    (subst (λ b. Holds end done pending.Literal (suc (count + length start)) b last' (list ++ map Some (start ++ last ∷ []))) (sym (f ∙ ap (λ b. b ++ take size bytes) (m ∙ ap (λ b. front ++ b) s) ∙ ap (λ b. (front ++ before) ++ b) (apart_front end before start more size last bytes rest a)))
    (subst (λ b. Holds end done pending.Literal (suc (count + length start)) ((front ++ before) ++ joined start) b (list ++ map Some (start ++ last ∷ []))) (sym l)
    (arm_apart end done start count front before last list a.each a.apart h)))) h

-- ---- the state of the writer with what was added

pub added_writing : (end : List ℕ → Option ℕ) → ReadsItems end → (failed : Bool) (total : ℕ) (done : List ℕ) (kind : PendingKind) (count : ℕ) (front last : List ℕ) (value : Option (List (Option (List ℕ)))) (added : List (Option (List ℕ))) (k most : ℕ) (done' : List ℕ) (kind' : PendingKind) (count' : ℕ) (front' last' : List ℕ) → failed ≡ false → IsWriting end failed total done kind count front last → cond failed None (Some (written_so_far end total done kind count front last)) ≡ value → IfSome value (λ list. length list + most ≤ 2 ^ 32) → length added ≡ k → k ≤ most
    → ((list : List (Option (List ℕ))) → Holds end done kind count front last list → Holds end done' kind' count' front' last' (list ++ added))
    → IsWriting end false (total + k) done' kind' count' front' last' × IfSome value (λ list. Some (written_so_far end (total + k) done' kind' count' front' last') ≡ Some (list ++ added))
added_writing end reads failed total done kind count front last value added k most done' kind' count' front' last' f w e r s b step =
    let o = open_writing end failed total done kind count front last f w in
    let list = written_so_far end total done kind count front last in
    let room = room_for end failed total done kind count front last value most f w e r in
    let size : length (list ++ added) ≡ total + k = omega (arith, o.0, length-append list added, s) in
    let h = step list o.1 in
    let s : written_so_far end (total + k) done' kind' count' front' last' ≡ list ++ added = shown end reads done' kind' count' front' last' (list ++ added) (total + k) (omega (arith, size, room.1, b)) (sym size) h in (
      (ap length s ∙ size, subst (λ l. Holds end done' kind' count' front' last' l) (sym s) h, omega (arith, room.1, b)),
      subst (λ v. IfSome v (λ list. Some (written_so_far end (total + k) done' kind' count' front' last') ≡ Some (list ++ added))) (in_value failed list value f e) (ap Some s),
    )

pub length_items : (start : List (List ℕ)) (last : List ℕ) (count : ℕ) → count ≡ length start + 1 → length (map Some (start ++ last ∷ [])) ≡ count
length_items start last count e = omega (arith, e, length-map (start ++ last ∷ []) Some, length-append start (last ∷ []))

-- ---- a cursor behind the items

pub record Passed (end : List ℕ → Option ℕ) (left count : ℕ) (bytes : List ℕ) (items : List (List ℕ)) (rest : List ℕ) : Type 0 where
  pub holds : HasEntries end (left - length items) (in_literal (count - length items) rest)
  pub shows : entries end left (in_literal count bytes) ≡ map Some items ++ entries end (left - length items) (in_literal (count - length items) rest)

never_passed : (end : List ℕ → Option ℕ) (count : ℕ) (bytes : List ℕ) → HasEntries end 0 (in_literal (suc count) bytes) → ⊥
unfolding HasEntries
never_passed end count bytes h = omega (arith, h.0)

passed : (end : List ℕ → Option ℕ) → ReadsItems end → (items : List (List ℕ)) (left count : ℕ) (rest : List ℕ) → AllByRecursion (IsItem end) items → length items ≤ count → HasEntries end left (in_literal count (joined items ++ rest)) → Passed end left count (joined items ++ rest) items rest
passed end reads [] left count rest i l h =
    let a : left ≡ left - 0 = omega arith in
    let b : count ≡ count - 0 = omega arith in
    record {
      holds = subst (λ n. HasEntries end n (in_literal (count - 0) rest)) a (subst (λ n. HasEntries end left (in_literal n rest)) b h);
      shows = ap (λ n. entries end left (in_literal n rest)) b ∙ ap (λ n. entries end n (in_literal (count - 0) rest)) a;
    }
passed end reads (x ∷ items) left zero rest i l h = absurd (omega arith)
passed end reads (x ∷ items) zero (suc count) rest i l h = absurd (never_passed end count (joined (x ∷ items) ++ rest) h)
passed end reads (x ∷ items) (suc left) (suc count) rest i l h =
    let next = item_step end reads count x (joined items) rest i.0 in
    let p = in_literal (suc count) (joined (x ∷ items) ++ rest) in
    let w = passed end reads items left count rest i.1 (omega arith) (HasEntries-step end left p _ next h) in
    let a : left - length items ≡ suc left - suc (length items) = omega arith in
    let b : count - length items ≡ suc count - suc (length items) = omega arith in
    record {
      holds = subst (λ n. HasEntries end n (in_literal (suc count - suc (length items)) rest)) a (subst (λ n. HasEntries end (left - length items) (in_literal n rest)) b w.holds);
      shows = entries-step end left p _ next ∙ ap (λ l. Some x ∷ l) (w.shows ∙ ap (λ l. map Some items ++ l) (ap (λ n. entries end (left - length items) (in_literal n rest)) b ∙ ap (λ n. entries end n (in_literal (suc count - suc (length items)) rest)) a));
    }

pub passed_at : (end : List ℕ → Option ℕ) → ReadsItems end → (p : Place) (left k : ℕ) (items : List (List ℕ)) (rest : List ℕ) → p.kind ≡ kinds.Literal → HasEntries end left p → AllByRecursion (IsItem end) items → length items ≡ k → k ≤ p.count → p.rest ≡ joined items ++ rest
    → HasEntries end (left - k) (in_literal (p.count - k) rest) × (entries end left p ≡ map Some items ++ entries end (left - k) (in_literal (p.count - k) rest))
passed_at end reads p left k items rest e h i s l b =
    let w = passed end reads items left p.count rest i (omega (arith, s)) (subst (λ b. HasEntries end left (in_literal p.count b)) b (literal-holds end left p e h)) in
    let shows = literal-entries end left p e ∙ ap (λ b. entries end left (in_literal p.count b)) b ∙ w.shows in
    (subst (λ n. HasEntries end (left - n) (in_literal (p.count - n) rest)) s w.holds, shows ∙ ap (λ n. map Some items ++ entries end (left - n) (in_literal (p.count - n) rest)) s)

-- ---- what was taken

pub took_more : {A : Type 0} (a b : ℕ) (from mid behind part : List A) (self next last : Option (List A)) → Took a from mid self next → length part ≡ b → mid ≡ part ++ behind → IfSome next (λ list. last ≡ Some (list ++ part)) → Took (a + b) from behind self last
took_more {A = A} a b from mid behind part self next last t s e w = (
  t.0 ++ part,
  omega (arith, t.1, s, length-append t.0 part),
  t.2 ∙ ap (λ l. t.0 ++ l) e ∙ sym (append_assoc t.0 part behind),
  written self t.3,
)
  where
    written : (self : Option (List A)) → IfSome self (λ list. next ≡ Some (list ++ t.0)) → IfSome self (λ list. last ≡ Some (list ++ (t.0 ++ part)))
    written None h = tt
    written (Some list) h = subst (λ v. IfSome v (λ l. last ≡ Some (l ++ part))) h w ∙ ap Some (append_assoc list t.0 part)

pub took_room : {A : Type 0} (k more most : ℕ) (from mid : List A) (self next : Option (List A)) → Took k from mid self next → k + more ≤ most → IfSome self (λ list. length list + most ≤ 2 ^ 32) → IfNone self (next ≡ None) → IfSome next (λ list. length list + more ≤ 2 ^ 32)
took_room k more most from mid None next t l r n = subst (λ v. IfSome v (λ list. length list + more ≤ 2 ^ 32)) (sym n) tt
took_room k more most from mid (Some list) next t l r n = subst (λ v. IfSome v (λ list. length list + more ≤ 2 ^ 32)) (sym t.3) (omega (arith, r, t.1, length-append list t.0))

-- ---- numbers

some_items : (end : List ℕ → Option ℕ) (items : List (List ℕ)) → AllByRecursion (IsItem end) items → AllItems end (map Some items)
some_items end [] h = tt
some_items end (x ∷ items) h = (h.0, some_items end items h.1)

pub spelled_again : (bytes : List ℕ) (items : List (List ℕ)) (rest : List ℕ) → IsBytes bytes → AllByRecursion (IsItem signed_end) items → bytes ≡ joined items ++ rest → map (option_map leb) (map (option_map signed_value) (map Some items)) ≡ map Some items
spelled_again bytes items rest f h e =
    respelled signed_end signed_value leb signed_again (map Some items) (some_items signed_end items h)
    (of_literal items (left_bytes (joined items) rest (subst AllBytes e (AllBytes-from bytes f))))

pub numbers_front : (copies literal left : ℕ) (value : Option ℤ) (bytes : List ℕ) (items : List (List ℕ)) (rest : List ℕ) (shown : List (Option ℤ)) → copies ≡ 0 → IsCounted signed_end copies literal left bytes → counted signed_value copies value (entries_from signed_end literal left bytes) ≡ shown → AllByRecursion (IsItem signed_end) items → length items ≤ literal → bytes ≡ joined items ++ rest
    → (length items ≤ length shown) × (take (length items) shown ≡ map (option_map signed_value) (map Some items))
numbers_front copies literal left value bytes items rest shown z held s i l e =
    let h = subst (λ b. HasEntries signed_end (literal + left) (in_literal literal b)) e held.holds in
    let w = passed signed_end signed_reads items (literal + left) literal rest i l h in
    let behind = entries signed_end (literal + left - length items) (in_literal (literal - length items) rest) in
    let front = map (option_map signed_value) (map Some items) in
    let all : shown ≡ front ++ map (option_map signed_value) behind =
    sym s ∙ counted_none signed_value copies value (entries_from signed_end literal left bytes) z
    ∙ ap (map (option_map signed_value)) (ap (λ b. entries signed_end (literal + left) (in_literal literal b)) e ∙ w.shows)
    ∙ map-append (option_map signed_value) (map Some items) behind in
    let size : length front ≡ length items = length-map (map Some items) (option_map signed_value) ∙ length-map items Some in
    (omega (arith, ap length all, length-append front (map (option_map signed_value) behind), size), ap (take (length items)) all ∙ take_at front (map (option_map signed_value) behind) (length items) size)

pub none_front : (items : List (List ℕ)) (shown : List (Option ℤ)) → length items ≤ 0 → (length items ≤ length shown) × (take (length items) shown ≡ map (option_map signed_value) (map Some items))
none_front [] shown l = (omega arith, refl)
none_front (x ∷ items) shown l = absurd (omega arith)
