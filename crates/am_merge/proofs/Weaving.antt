-- The rows of a larger set, written turn by turn.
use Rattle.std.proofs.Common.{ℕ, ◌≡◌, ◌+◌, ◌<◌, ◌≤◌, ◌^◌, List, [], ◌∷◌, ◌++◌, length, map, get_or, drop, Option, Some, None, refl, sym, ap, ◌∙◌, subst, arith}
use Rattle.std.specs.Prelude.{IfSome}
use Rattle.std.specs.List.{AllByRecursion}
use Rattle.std.proofs.lemmas.List.{append_assoc, append-nil, map-append, length-append, drop_more, drop_all}
use Rattle.am_types.specs.declared.Change.{Change}
use Rattle.am_types.specs.declared.Meta.{Meta}
use Rattle.am_fields.specs.Layout.{flat}
use Rattle.am_doccols.specs.Columns.{written_metas}
use Rattle.am_doccols.specs.Conditions.{IsMetaFor, HasMetaRoom, dep_count}
use Rattle.am_doccols.specs.Front.{HasMetaRoomFor}
use Rattle.am_doccols.specs.declared.MetaFields.{MetaFields}
use Rattle.am_doccols.specs.Lent.{meta_with}
use Rattle.am_merge.specs.ChangeRows.{moved_to, moved_by, pushed, left, woven}

-- ---- one row

-- an old row with its dependencies moved
pub moved_is : (fields : MetaFields) (m : Meta) (places deps : List ℕ) → meta_with fields m.deps ≡ m → deps ≡ map (moved_to places) m.deps → meta_with fields deps ≡ moved_by places m
moved_is fields m places deps e d = ap (λ (m : Meta). record m { deps = deps }) e ∙ ap (λ (l : List ℕ). record m { deps = l }) d

-- ---- one turn

module _ (new : Change → Meta) (old : Meta → Meta) (ts : List (Option Change)) (i : ℕ) (t : Option Change) (l : i < length ts) (is : get_or ts i t ≡ t) where
  -- what is left before the turn
  pub taken : (done ms all : List Meta) → done ++ woven new old (drop i ts) ms ≡ all → done ++ (pushed new old t ms ++ woven new old (drop (i + 1) ts) (left t ms)) ≡ all
  taken done ms all e =
      let next : drop i ts ≡ t ∷ drop (i + 1) ts = drop_more ts i t l ∙ ap (λ x. x ∷ drop (i + 1) ts) is in
      ap (λ l. done ++ woven new old l ms) (sym next) ∙ e

  pub goes_on : (done ms all : List Meta) → done ++ woven new old (drop i ts) ms ≡ all → (done ++ pushed new old t ms) ++ woven new old (drop (i + 1) ts) (left t ms) ≡ all
  goes_on done ms all e = append_assoc done (pushed new old t ms) (woven new old (drop (i + 1) ts) (left t ms)) ∙ taken done ms all e

-- what the turn appends, and what it leaves
module _ (new : Change → Meta) (old : Meta → Meta) (t : Option Change) (ms : List Meta) where
  pub of_change : (c : Change) → t ≡ Some c → (pushed new old t ms ≡ new c ∷ []) × (left t ms ≡ ms)
  of_change c e = (ap (λ t. pushed new old t ms) e, ap (λ t. left t ms) e)

  pub of_next : (m : Meta) (rest : List Meta) → t ≡ None → ms ≡ m ∷ rest → (pushed new old t ms ≡ old m ∷ []) × (left t ms ≡ rest)
  of_next m rest e d = ((λ i. pushed new old (e i) (d i)), (λ i. left (e i) (d i)))

-- ---- what holds of all holds of a part

all_right : {X : Type 0} (P : X → Type 0) (xs ys : List X) → AllByRecursion P (xs ++ ys) → AllByRecursion P ys
all_right P [] ys a = a
all_right P (x ∷ xs) ys a = all_right P xs ys a.1

all_left : {X : Type 0} (P : X → Type 0) (xs ys : List X) → AllByRecursion P (xs ++ ys) → AllByRecursion P xs
all_left P [] ys a = tt
all_left P (x ∷ xs) ys a = (a.0, all_left P xs ys a.1)

pub part_for : (actors : List (List ℕ)) (done part rest all : List Meta) → done ++ (part ++ rest) ≡ all → AllByRecursion (IsMetaFor actors) all → AllByRecursion (IsMetaFor actors) part
part_for actors done part rest all e a = all_left (IsMetaFor actors) part rest (all_right (IsMetaFor actors) done (part ++ rest) (subst (AllByRecursion (IsMetaFor actors)) (sym e) a))

flat-append : {X : Type 0} (xs ys : List (List X)) → flat (xs ++ ys) ≡ flat xs ++ flat ys
flat-append [] ys = refl
flat-append (x ∷ xs) ys = ap (λ l. x ++ l) (flat-append xs ys) ∙ sym (append_assoc x (flat xs) (flat ys))

dep_count-append : (xs ys : List Meta) → dep_count (xs ++ ys) ≡ dep_count xs + dep_count ys
dep_count-append xs ys =
    ap length (ap flat (map-append (λ (m : Meta). m.deps) xs ys) ∙ flat-append (map (λ (m : Meta). m.deps) xs) (map (λ (m : Meta). m.deps) ys))
    ∙ length-append (flat (map (λ (m : Meta). m.deps) xs)) (flat (map (λ (m : Meta). m.deps) ys))

pub part_room : (done part rest all : List Meta) → done ++ (part ++ rest) ≡ all → length all ≤ 2 ^ 20 → dep_count all ≤ 2 ^ 22 → HasMetaRoomFor done part
part_room done part rest all e few few_deps =
    let n : length all ≡ length done + (length part + length rest) = ap length (sym e) ∙ length-append done (part ++ rest) ∙ ap (λ n. length done + n) (length-append part rest) in
    let m : dep_count all ≡ dep_count done + (dep_count part + dep_count rest) = ap dep_count (sym e) ∙ dep_count-append done (part ++ rest) ∙ ap (λ n. dep_count done + n) (dep_count-append part rest) in
    record { few = omega arith; few_deps = omega arith }

pub one_room : (done : List Meta) (m : Meta) → HasMetaRoomFor done (m ∷ []) → HasMetaRoom done m.deps
one_room done m r =
    let n : dep_count (m ∷ []) ≡ length m.deps = ap length (append-nil m.deps) in
    let a = r.few in
    let b = r.few_deps in
    record { few = omega arith; few_deps = omega arith }

-- ---- a writer that holds `done`

module _ (l : List Meta) (m : Meta) (one : l ≡ m ∷ []) where
  pub first_for : (P : Meta → Type 0) → AllByRecursion P l → P m
  first_for P a = let b : AllByRecursion P (m ∷ []) = subst (AllByRecursion P) one a in b.0

  pub first_room : (w : Option (List Meta)) → IfSome w (λ metas. HasMetaRoomFor metas l) → IfSome w (λ metas. HasMetaRoom metas m.deps)
  first_room None r = tt
  first_room (Some metas) r = one_room metas m (subst (HasMetaRoomFor metas) one r)

module _ (w : Option (List Meta)) (done : List Meta) (is : w ≡ Some done) where
  pub room_of : (part : List Meta) → HasMetaRoomFor done part → IfSome w (λ metas. HasMetaRoomFor metas part)
  room_of part r = subst (λ w. IfSome w (λ metas. HasMetaRoomFor metas part)) (sym is) r

  pub step_of : (v : Option (List Meta)) (part : List Meta) → IfSome w (λ metas. v ≡ Some (metas ++ part)) → v ≡ Some (done ++ part)
  step_of v part s = subst (λ w. IfSome w (λ metas. v ≡ Some (metas ++ part))) is s

  pub text_of : (f : List (ℕ × List ℕ) → List ℕ) (text : List ℕ) (a b : List (List ℕ)) → a ≡ b → IfSome w (λ metas. text ≡ f (written_metas a metas)) → text ≡ f (written_metas b done)
  text_of f text a b e s =
      let written : text ≡ f (written_metas a done) = subst (λ w. IfSome w (λ metas. text ≡ f (written_metas a metas))) is s in
      written ∙ ap (λ a. f (written_metas a done)) e

pub at_end : (new : Change → Meta) (old : Meta → Meta) (ts : List (Option Change)) (i : ℕ) (done ms all : List Meta) → length ts ≤ i → done ++ woven new old (drop i ts) ms ≡ all → done ≡ all
at_end new old ts i done ms all l e = sym (append-nil done) ∙ ap (λ t. done ++ woven new old t ms) (sym (drop_all i ts l)) ∙ e
