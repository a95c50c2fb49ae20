-- The rows that events make, in parts; and what a writer is owed for each part.
use Rattle.std.proofs.Common.{ℕ, zero, suc, ◌≡◌, ◌+◌, ◌-◌, ◌<◌, ◌≤◌, List, [], ◌∷◌, ◌++◌, length, take, take_all, drop, get_or, replicate, slice_range, Option, Some, false, true, refl, sym, ap, ◌∙◌, subst, inl, inr, arith, length-append, map}
use Rattle.std.specs.List.{AllByRecursion}
use Rattle.std.specs.Option.{IfSome}
use Rattle.std.specs.Ordering.{is_gt}
use Rattle.std.proofs.lemmas.Bool.{cases_lt}
use Rattle.std.proofs.lemmas.List.{append-nil, append_assoc, drop-drop, drop_all, drop_more, length-drop, map-append, take_more}
use Rattle.std.proofs.lemmas.List.Concat.{flat_map-append}
use Rattle.am_types.specs.declared.IdRef.{IdRef}
use Rattle.am_types.specs.declared.OpId.{OpId}
use Rattle.am_types.specs.declared.Row.{Row}
use Rattle.am_types.specs.Order.{id_cmp}
use Rattle.am_types.specs.Views.{id_of}
use Rattle.am_fields.specs.Layout.{flat}
use Rattle.am_doccols.specs.Conditions.{HasRoom, IsRowFor, succ_count}
use Rattle.am_doccols.specs.Front.{HasRoomFor}
use Rattle.am_doccols.specs.Lent.{row_with}
use Rattle.am_doccols.specs.Rows.{row_of}
use Rattle.am_doccols.specs.declared.lent.RowFields.{RowFields}
use Rattle.am_doccols.specs.declared.row.RowRef.{RowRef}
use Rattle.am_merge.specs.Carrying.{CanCarry, extended_by, ids_of, is_less_first, taking}
use Rattle.am_merge.specs.Merge.{merge}
use Rattle.am_merge.specs.Naming.{named_of}
use Rattle.am_merge.specs.Plans.{Event, Take, Put, carried}
use Rattle.am_merge.specs.Stops.{copies, event_of, events_of}
use Rattle.am_merge.specs.declared.naming.Naming.{Naming}
use Rattle.am_merge.specs.declared.stops.Stop.{Stop}
use Rattle.am_merge.proofs.Merging.{merge_rest}

-- ---- rows

pub taking-append : (es fs : List Event) → taking (es ++ fs) ≡ taking es + taking fs
taking-append [] fs = omega arith
taking-append (Put r ∷ es) fs = taking-append es fs
taking-append (Take added ∷ es) fs = let again = taking-append es fs in omega arith

drop_one_more : (n : ℕ) (r : Row) (rs : List Row) → drop (n + 1) (r ∷ rs) ≡ drop n rs
drop_one_more n r rs = let e : n + 1 ≡ suc n = omega arith in ap (λ m. drop m (r ∷ rs)) e

pub carried-append : (es fs : List Event) (rs : List Row) → taking es ≤ length rs → carried (es ++ fs) rs ≡ carried es rs ++ carried fs (drop (taking es) rs)
carried-append [] fs rs l = refl
carried-append (Put r ∷ es) fs rs l = ap (λ l. r ∷ l) (carried-append es fs rs l)
carried-append (Take added ∷ es) fs [] l = absurd (omega arith)
carried-append (Take added ∷ es) fs (r ∷ rs) l =
    ap (λ l. record r { succs = merge id_cmp r.succs added } ∷ l) (carried-append es fs rs (omega arith) ∙ ap (λ t. carried es rs ++ carried fs t) (sym (drop_one_more (taking es) r rs)))

pub taking_copies : (n : ℕ) → taking (replicate n (Take [])) ≡ n
taking_copies zero = refl
taking_copies (suc n) = let again = taking_copies n in omega arith

pub carried_copies : (n : ℕ) (rs : List Row) → n ≤ length rs → carried (replicate n (Take [])) rs ≡ take n rs
carried_copies zero rs l = refl
carried_copies (suc n) [] l = absurd (omega arith)
carried_copies (suc n) (r ∷ rs) l = λ i. record r { succs = merge_rest id_cmp r.succs i } ∷ carried_copies n rs (omega arith) i

-- ---- room

succ_count-append : (xs ys : List Row) → succ_count (xs ++ ys) ≡ succ_count xs + succ_count ys
succ_count-append xs ys =
    ap length (ap flat (map-append (λ (r : Row). r.succs) xs ys) ∙ flat_map-append (λ (ids : List OpId). ids) (map (λ (r : Row). r.succs) xs) (map (λ (r : Row). r.succs) ys))
    ∙ length-append (flat (map (λ (r : Row). r.succs) xs)) (flat (map (λ (r : Row). r.succs) ys))

room_first : (rows xs ys : List Row) → HasRoomFor rows (xs ++ ys) → HasRoomFor rows xs
room_first rows xs ys h =
    let few = h.few in
    let few_succs = h.few_succs in
    let l = length-append xs ys in
    let s = succ_count-append xs ys in
    record { few = omega arith; few_succs = omega arith }

room_rest : (rows xs ys : List Row) → HasRoomFor rows (xs ++ ys) → HasRoomFor (rows ++ xs) ys
room_rest rows xs ys h =
    let few = h.few in
    let few_succs = h.few_succs in
    let l = length-append xs ys in
    let s = succ_count-append xs ys in
    let m = length-append rows xs in
    let t = succ_count-append rows xs in
    record { few = omega arith; few_succs = omega arith }

pub room_one : (rows : List Row) (r : Row) → HasRoomFor rows (r ∷ []) → HasRoom rows r.succs
room_one rows r h =
    let few = h.few in
    let few_succs = h.few_succs in
    let one : succ_count (r ∷ []) ≡ length r.succs = ap length (append-nil r.succs) in
    record { few = omega arith; few_succs = omega arith }

all_first : (P : Row → Type 0) (xs ys : List Row) → AllByRecursion P (xs ++ ys) → AllByRecursion P xs
all_first P [] ys all = tt
all_first P (x ∷ xs) ys all = (all.0, all_first P xs ys all.1)

all_rest : (P : Row → Type 0) (xs ys : List Row) → AllByRecursion P (xs ++ ys) → AllByRecursion P ys
all_rest P [] ys all = all
all_rest P (x ∷ xs) ys all = all_rest P xs ys all.1

-- ---- parts

enough_first : (es fs : List Event) (rs : List Row) → taking (es ++ fs) ≤ length rs → taking es ≤ length rs
enough_first es fs rs l = let e = taking-append es fs in omega arith

pub can_first : (a : List (List ℕ)) (w : Option (List Row)) (es fs : List Event) (rs : List Row) → CanCarry a w (es ++ fs) rs → CanCarry a w es rs
can_first a w es fs rs h =
    let l = enough_first es fs rs h.enough in
    let is = carried-append es fs rs l in
    record {
      rows = h.rows;
      are_written = h.are_written;
      enough = l;
      fit = all_first (IsRowFor a) (carried es rs) (carried fs (drop (taking es) rs)) (subst (AllByRecursion (IsRowFor a)) is h.fit);
      room = room_first h.rows (carried es rs) (carried fs (drop (taking es) rs)) (subst (HasRoomFor h.rows) is h.room);
    }

-- the writer holds more of what was made of the rows
abbrev pub IsWritten : Option (List Row) → Option (List Row) → List Row → Type 0
IsWritten w v more = IfSome w (λ rows. v ≡ Some (rows ++ more))

written_is : (w v : Option (List Row)) (rows more : List Row) → w ≡ Some rows → IsWritten w v more → v ≡ Some (rows ++ more)
written_is w v rows more e h = subst (λ w. IsWritten w v more) e h

pub as_written : (w v : Option (List Row)) (xs ys : List Row) → xs ≡ ys → IsWritten w v xs → IsWritten w v ys
as_written w v xs ys e h = subst (IsWritten w v) e h

-- once the first events have been carried
pub can_rest : (a b : List (List ℕ)) (w v : Option (List Row)) (es fs : List Event) (rs ts : List Row) → CanCarry a w (es ++ fs) rs → b ≡ a
    → IsWritten w v (carried es rs) → ts ≡ drop (taking es) rs → CanCarry b v fs ts
can_rest a b w v es fs rs ts h same written left =
    let l = enough_first es fs rs h.enough in
    let is = carried-append es fs rs l in
    let more : List Row = carried fs (drop (taking es) rs) in
    subst (λ ts. CanCarry b v fs ts) (sym left) (subst (λ b. CanCarry b v fs (drop (taking es) rs)) (sym same) (record {
      rows = h.rows ++ carried es rs;
      are_written = written_is w v h.rows (carried es rs) h.are_written written;
      enough = let e = taking-append es fs in let n = h.enough in let d = length-drop (taking es) rs in omega arith;
      fit = all_rest (IsRowFor a) (carried es rs) more (subst (AllByRecursion (IsRowFor a)) is h.fit);
      room = room_rest h.rows (carried es rs) more (subst (HasRoomFor h.rows) is h.room);
    }))

pub written_both : (a : List (List ℕ)) (w v u : Option (List Row)) (es fs : List Event) (rs ts : List Row) → CanCarry a w (es ++ fs) rs
    → IsWritten w v (carried es rs) → ts ≡ drop (taking es) rs → IsWritten v u (carried fs ts) → IsWritten w u (carried (es ++ fs) rs)
written_both a w v u es fs rs ts h first left then_ =
    let l = enough_first es fs rs h.enough in
    let held = written_is w v h.rows (carried es rs) h.are_written first in
    let e : u ≡ Some (h.rows ++ carried (es ++ fs) rs) =
    written_is v u (h.rows ++ carried es rs) (carried fs ts) held then_
    ∙ ap (λ x. Some x)
    (append_assoc h.rows (carried es rs) (carried fs ts)
    ∙ ap (λ x. h.rows ++ x) (ap (λ t. carried es rs ++ carried fs t) left ∙ sym (carried-append es fs rs l))) in
    subst (λ w. IsWritten w u (carried (es ++ fs) rs)) (sym h.are_written) e

pub behind_both : (es fs : List Event) (rs ts us : List Row) → ts ≡ drop (taking es) rs → us ≡ drop (taking fs) ts → us ≡ drop (taking (es ++ fs)) rs
behind_both es fs rs ts us e f =
    f ∙ ap (λ t. drop (taking fs) t) e ∙ drop-drop (taking fs) (taking es) rs ∙ ap (λ n. drop n rs) (sym (taking-append es fs))

-- what is written, and what will be, is the same before and behind
pub carries_on : (a : List (List ℕ)) (w v : Option (List Row)) (es fs : List Event) (rs ts total : List Row) → CanCarry a w (es ++ fs) rs
    → IsWritten w v (carried es rs) → ts ≡ drop (taking es) rs
    → IfSome w (λ done. done ++ carried (es ++ fs) rs ≡ total) → IfSome v (λ done. done ++ carried fs ts ≡ total)
carries_on a w v es fs rs ts total h written left whole =
    let l = enough_first es fs rs h.enough in
    let held = written_is w v h.rows (carried es rs) h.are_written written in
    let all : h.rows ++ carried (es ++ fs) rs ≡ total = subst (λ w. IfSome w (λ done. done ++ carried (es ++ fs) rs ≡ total)) h.are_written whole in
    let e : (h.rows ++ carried es rs) ++ carried fs ts ≡ total =
    append_assoc h.rows (carried es rs) (carried fs ts)
    ∙ ap (λ x. h.rows ++ x) (ap (λ t. carried es rs ++ carried fs t) left ∙ sym (carried-append es fs rs l))
    ∙ all in
    subst (λ v. IfSome v (λ done. done ++ carried fs ts ≡ total)) (sym held) e

pub all_written : (a : List (List ℕ)) (w v : Option (List Row)) (es : List Event) (rs total : List Row) → CanCarry a w es rs → IsWritten w v (carried es rs)
    → IfSome w (λ done. done ++ carried es rs ≡ total) → v ≡ Some total
all_written a w v es rs total h written whole =
    written_is w v h.rows (carried es rs) h.are_written written
    ∙ ap (λ x. Some x) (subst (λ w. IfSome w (λ done. done ++ carried es rs ≡ total)) h.are_written whole)

-- nothing is written yet
pub can_start : (a b : List (List ℕ)) (w : Option (List Row)) (es : List Event) (rs ts : List Row) → b ≡ a → w ≡ Some [] → ts ≡ rs → CanCarry a (Some []) es rs → CanCarry b w es ts
can_start a b w es rs ts e f g h =
    subst (λ b. CanCarry b w es ts) (sym e) (subst (λ w. CanCarry a w es ts) (sym f) (subst (λ ts. CanCarry a (Some []) es ts) (sym g) h))

pub whole_start : (w : Option (List Row)) (es : List Event) (rs ts : List Row) → w ≡ Some [] → ts ≡ rs → IfSome w (λ done. done ++ carried es ts ≡ carried es rs)
whole_start w es rs ts f g = subst (λ w. IfSome w (λ done. done ++ carried es ts ≡ carried es rs)) (sym f) (ap (carried es) g)

-- ---- stops

pub events_at : (named : List Naming) (stops : List Stop) (i : ℕ) (s : Stop) (rest : List Event) → i < length stops → s ≡ get_or stops i s
    → events_of named (drop i stops) ++ rest ≡ (copies s.skip ++ event_of named s ∷ []) ++ (events_of named (drop (i + 1) stops) ++ rest)
events_at named stops i s rest l is =
    ap (λ ss. events_of named ss ++ rest) (drop_more stops i s l ∙ ap (λ t. t ∷ drop (i + 1) stops) (sym is))
    ∙ append_assoc (copies s.skip ++ event_of named s ∷ []) (events_of named (drop (i + 1) stops)) rest

pub no_events_at : (named : List Naming) (stops : List Stop) (i : ℕ) (rest : List Event) → length stops ≤ i → events_of named (drop i stops) ++ rest ≡ rest
no_events_at named stops i rest l = ap (λ ss. events_of named ss ++ rest) (drop_all i stops l)

-- ---- one event

pub one_put : (a : List (List ℕ)) (w : Option (List Row)) (r : Row) (rs : List Row) → CanCarry a w (Put r ∷ []) rs → IsRowFor a r × IfSome w (λ rows. HasRoom rows r.succs)
one_put a w r rs h = (h.fit.0, subst (λ w. IfSome w (λ rows. HasRoom rows r.succs)) (sym h.are_written) (room_one h.rows r h.room))

pub one_taken : (a : List (List ℕ)) (w : Option (List Row)) (added : List OpId) (rs : List Row) (r : Row) (more : List Row) → rs ≡ r ∷ more → CanCarry a w (Take added ∷ []) rs
    → IsRowFor a (extended_by r added) × IfSome w (λ rows. HasRoom rows (merge id_cmp r.succs added))
one_taken a w added rs r more e h =
    let g = subst (CanCarry a w (Take added ∷ [])) e h in
    (g.fit.0, subst (λ w. IfSome w (λ rows. HasRoom rows (merge id_cmp r.succs added))) (sym g.are_written) (room_one g.rows (extended_by r added) g.room))

pub none_to_take : (a : List (List ℕ)) (w : Option (List Row)) (added : List OpId) (rs : List Row) → rs ≡ [] → CanCarry a w (Take added ∷ []) rs → ⊥
none_to_take a w added rs e h = let l = h.enough in let n = ap length e in omega arith

pub taken_is : (added : List OpId) (rs : List Row) (r : Row) (more : List Row) → rs ≡ r ∷ more → extended_by r added ∷ [] ≡ carried (Take added ∷ []) rs
taken_is added rs r more e = ap (carried (Take added ∷ [])) (sym e)

pub one_behind : (rs : List Row) (r : Row) (more : List Row) → rs ≡ r ∷ more → more ≡ drop 1 rs
one_behind rs r more e = ap (λ l. drop 1 l) (sym e)

pub as_event : (a : List (List ℕ)) (w : Option (List Row)) (x y : Event) (rs : List Row) → x ≡ y → CanCarry a w (x ∷ []) rs → CanCarry a w (y ∷ []) rs
as_event a w x y rs e h = subst (λ x. CanCarry a w (x ∷ []) rs) e h

-- ---- copies

pub copies_enough : (a : List (List ℕ)) (w : Option (List Row)) (n : ℕ) (rs : List Row) → CanCarry a w (copies n) rs → n ≤ length rs
copies_enough a w n rs h = let l = h.enough in let e = taking_copies n in omega arith

pub copies_fit : (a : List (List ℕ)) (w : Option (List Row)) (n : ℕ) (rs : List Row) → CanCarry a w (copies n) rs → AllByRecursion (IsRowFor a) (take n rs)
copies_fit a w n rs h = subst (AllByRecursion (IsRowFor a)) (carried_copies n rs (copies_enough a w n rs h)) h.fit

pub copies_room : (a : List (List ℕ)) (w : Option (List Row)) (n : ℕ) (rs : List Row) → CanCarry a w (copies n) rs → IfSome w (λ rows. HasRoomFor rows (take n rs))
copies_room a w n rs h =
    subst (λ w. IfSome w (λ rows. HasRoomFor rows (take n rs))) (sym h.are_written)
    (subst (HasRoomFor h.rows) (carried_copies n rs (copies_enough a w n rs h)) h.room)

-- ---- fields of rows

pub extend_is : (f : RowFields) (row : RowRef) (ids : List IdRef) (s : List OpId) → row_with f row.succs ≡ row_of row → map id_of ids ≡ s
    → row_with f (map id_of ids) ≡ record (row_of row) { succs = s }
extend_is f row ids s e h = (λ i. record (e i) { succs = map id_of ids }) ∙ (λ i. record (row_of row) { succs = h i })

-- ---- successors

abbrev pub id_at : Naming → OpId
id_at n = (named_of n).operation.id

pub pushed_id : (ids more : List IdRef) (r : IdRef) (j : OpId) → more ≡ ids ++ r ∷ [] → id_of r ≡ j → map id_of more ≡ map id_of ids ++ j ∷ []
pushed_id ids more r j e h = ap (map id_of) e ∙ map-append id_of ids (r ∷ []) ∙ ap (λ j. map id_of ids ++ j ∷ []) h

pub ids_step : (start ids more : List IdRef) (r : IdRef) (added : List Naming) (i : ℕ) (n : Naming) → i < length added → n ≡ get_or added i n → id_of r ≡ id_at n → more ≡ ids ++ r ∷ []
    → map id_of ids ≡ map id_of start ++ ids_of (take i added) → map id_of more ≡ map id_of start ++ ids_of (take (i + 1) added)
ids_step start ids more r added i n l is e push inv =
    let wider : ids_of (take (i + 1) added) ≡ ids_of (take i added) ++ id_at n ∷ [] =
    ap ids_of (take_more added i n l) ∙ map-append id_at (take i added) (get_or added i n ∷ []) ∙ ap (λ m. ids_of (take i added) ++ id_at m ∷ []) (sym is) in
    pushed_id ids more r (id_at n) push e
    ∙ ap (λ l. l ++ id_at n ∷ []) inv
    ∙ append_assoc (map id_of start) (ids_of (take i added)) (id_at n ∷ [])
    ∙ ap (λ l. map id_of start ++ l) (sym wider)

pub less_none : (added : List Naming) (at : ℕ) (i : OpId) → length added ≤ at → is_less_first (ids_of (drop at added)) i ≡ false
less_none added at i l = ap (λ ns. is_less_first (ids_of ns) i) (drop_all at added l)

split_at : (added : List Naming) (at : ℕ) (n : Naming) → at < length added → n ≡ get_or added at n → drop at added ≡ n ∷ drop (at + 1) added
split_at added at n l is = drop_more added at n l ∙ ap (λ m. m ∷ drop (at + 1) added) (sym is)

pub less_at : (added : List Naming) (at : ℕ) (n : Naming) (i : OpId) → at < length added → n ≡ get_or added at n → is_less_first (ids_of (drop at added)) i ≡ is_gt (id_cmp i (id_at n))
less_at added at n i l is = ap (λ ns. is_less_first (ids_of ns) i) (split_at added at n l is)

merge_takes : (i j : OpId) (is js : List OpId) → is_gt (id_cmp i j) ≡ true → merge id_cmp (i ∷ is) (j ∷ js) ≡ j ∷ merge id_cmp (i ∷ is) js
merge_takes i j is js g = simp g refl

pub merge_stays : (i : OpId) (is js : List OpId) → is_less_first js i ≡ false → merge id_cmp (i ∷ is) js ≡ i ∷ merge id_cmp is js
merge_stays i is [] h = refl
merge_stays i is (j ∷ js) h = simp h refl

pub less_step : (ids more : List IdRef) (r : IdRef) (old : OpId) (added : List Naming) (at : ℕ) (n : Naming) → more ≡ ids ++ r ∷ [] → id_of r ≡ id_at n → at < length added → n ≡ get_or added at n
    → is_less_first (ids_of (drop at added)) old ≡ true → (rest : List OpId)
    → map id_of ids ++ merge id_cmp (old ∷ rest) (ids_of (drop at added)) ≡ map id_of more ++ merge id_cmp (old ∷ rest) (ids_of (drop (at + 1) added))
less_step ids more r old added at n push e l is t rest =
    let left : List OpId = merge id_cmp (old ∷ rest) (ids_of (drop (at + 1) added)) in
    ap (λ ns. map id_of ids ++ merge id_cmp (old ∷ rest) (ids_of ns)) (split_at added at n l is)
    ∙ ap (λ m. map id_of ids ++ m) (merge_takes old (id_at n) rest (ids_of (drop (at + 1) added)) (sym (less_at added at n old l is) ∙ t))
    ∙ sym (append_assoc (map id_of ids) (id_at n ∷ []) left)
    ∙ ap (λ l. l ++ left) (sym (pushed_id ids more r (id_at n) push e))

pub old_step : (ids between more : List IdRef) (r : IdRef) (rest later : List OpId) (added : List Naming) (at to : ℕ) (whole : List OpId)
    → whole ≡ map id_of ids ++ merge id_cmp rest (ids_of (drop at added)) → rest ≡ id_of r ∷ later
    → ((some : List OpId) → map id_of ids ++ merge id_cmp (id_of r ∷ some) (ids_of (drop at added)) ≡ map id_of between ++ (id_of r ∷ merge id_cmp some (ids_of (drop to added))))
    → more ≡ between ++ r ∷ [] → whole ≡ map id_of more ++ merge id_cmp later (ids_of (drop to added))
old_step ids between more r rest later added at to whole inv next step push =
    let left : List OpId = merge id_cmp later (ids_of (drop to added)) in
    inv
    ∙ ap (λ l. map id_of ids ++ merge id_cmp l (ids_of (drop at added))) next
    ∙ step later
    ∙ sym (append_assoc (map id_of between) (id_of r ∷ []) left)
    ∙ ap (λ l. l ++ left) (sym (pushed_id between more r (id_of r) push refl))

-- ---- a range, as far as a list goes

pub clamped : {X : Type 0} (xs : List X) (a b c d : ℕ) → (b ≤ length xs → d ≡ b) → (length xs ≤ b → d ≡ length xs) → (a ≤ d → c ≡ a) → (d ≤ a → c ≡ d)
    → slice_range xs c d ≡ slice_range xs a b
clamped xs a b c d d_in d_out c_in c_out = elim (cases_lt a d) [
  | inl l ↦ let e : c ≡ a = c_in (omega arith) in elim (cases_lt (length xs) b) [
    | inl m ↦ let f : d ≡ length xs = d_out (omega arith) in let n = length-drop a xs in
        (λ i. take (d - e i) (drop (e i) xs)) ∙ take_all (d - a) (drop a xs) (omega arith) ∙ sym (take_all (b - a) (drop a xs) (omega arith))
    | inr m ↦ let f : d ≡ b = d_in m in λ i. take (f i - e i) (drop (e i) xs)
  ]
  | inr l ↦
      let e : c ≡ d = c_out l in
      let z : d - c ≡ 0 = omega arith in
      ap (λ n. take n (drop c xs)) z ∙ elim (cases_lt (length xs) b) [
        | inl m ↦ let f : d ≡ length xs = d_out (omega arith) in
            sym (ap (λ l. take (b - a) l) (drop_all a xs (omega arith)) ∙ take_all (b - a) [] (omega arith))
        | inr m ↦ let f : d ≡ b = d_in m in let y : b - a ≡ 0 = omega arith in sym (ap (λ n. take n (drop a xs)) y)
      ]
]
