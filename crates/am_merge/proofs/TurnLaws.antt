-- The walk with a stack puts each new insertion where the order of elements has it.
use Rattle.std.proofs.Common.{ℕ, zero, suc, ◌≡◌, ◌≢◌, ◌+◌, List, [], ◌∷◌, ◌++◌, length, map, true, not, refl, sym, ap, ◌∙◌, subst, inl, inr, Contains, IsPermutation, arith}
use Rattle.std.specs.List.{AllByRecursion}
use Rattle.std.specs.Ordering.{is_gt}
use Rattle.std.specs.declared.cmp.Ordering.TheVariants.{Less}
use Rattle.std.proofs.lemmas.Bool.{cases_Bool, both_ways, not-true}
use Rattle.std.proofs.lemmas.List.{append_assoc, length-append}
use Rattle.std.proofs.lemmas.List.Elements.{Contains-append_left, Contains-append_right, Contains-append_cases, All-contains, All-from_recursion, recursion_from_All}
use Rattle.std.proofs.lemmas.List.Sorted.{IsPermutation-refl, IsPermutation-sym, IsPermutation-trans, IsPermutation-cons, IsPermutation-middle, IsPermutation-map, IsPermutation-append_right, Contains-permutation, length_permutation}
use Rattle.am_types.specs.declared.OpId.{OpId}
use Rattle.am_types.specs.declared.Key.{Key}
use Rattle.am_types.specs.declared.Key.TheVariants.{Elem}
use Rattle.am_types.specs.Order.{id_cmp}
use Rattle.am_types.specs.Same.{same_id}
use Rattle.am_types.specs.Operations.{Operation}
use Rattle.am_types.proofs.Orders.{same_id-true, same_id_itself}
use Rattle.am_types.proofs.SameLaws.{same_key-true}
use Rattle.am_laws.proofs.Ancestry.{Contains-from_filter}
use Rattle.am_types.proofs.Lists.{all_of, Contains-head, Contains-tail}
use Rattle.am_laws.proofs.SameMembers.{Contains-cons_cases}
use Rattle.am_chain.specs.Passing.{put_below, put_below_after, put_passing, put_in_turn, IsAbove, IsAboveReference, RefersBack}
use Rattle.am_merge.specs.Turns.{Turn, Old, New, children, others, named_by, pushed, turns, id_of_turn, arrivals}
use Rattle.am_merge.proofs.Lists.{Contains-map}
use Rattle.am_merge.proofs.Once.{Once, once-permutation, first_alone, once_tail, once_apart}
use Rattle.am_merge.proofs.Stack.{AboveAll, BelowAll, Falls, Climbs, AllAboveAll, other_way, above_reversed, above_all_trans, all_filtered, climbs_filtered, falls_pushed, pushed_permutes, step_permutes}

abbrev pub ids : List Operation → List OpId
ids xs = map (λ x. x.id) xs

-- ---- what waits

-- behind what has come, x is to be put before the first that isn't greater; and its reference has come
pub record Waits (come : List OpId) (x : Operation) : Type 0 where
  pub placed : (fs : List OpId) → put_passing x.op.key x.id (come ++ fs) ≡ come ++ put_below x.id fs
  pub reference : (r : OpId) → x.op.key ≡ Elem r → Contains come r

-- the reference of y is one of those to come
pub record IsReached (fs : List OpId) (y : Operation) : Type 0 where
  pub reference : OpId
  pub key : y.op.key ≡ Elem reference
  pub comes : Contains fs reference

-- those to come
abbrev pub left : List OpId → List Operation → List Operation → List OpId
left fs waiting xs = fs ++ ids (waiting ++ xs)

-- between two turns: `come` has come
pub record Stands (come fs : List OpId) (waiting xs : List Operation) : Type 0 where
  pub once : Once (come ++ left fs waiting xs)
  pub falls : Falls waiting
  pub climbs : Climbs xs
  pub above : AllByRecursion IsAboveReference xs
  pub waits : (x : Operation) → Contains waiting x → Waits come x
  pub reached : (y : Operation) → Contains xs y → IsReached (left fs waiting xs) y

-- what the turns ts do
pub record Does (come fs : List OpId) (waiting xs : List Operation) (ts : List Turn) : Type 0 where
  pub put : put_in_turn (come ++ fs) (arrivals ts) ≡ come ++ map id_of_turn ts
  pub all : IsPermutation (waiting ++ xs) (arrivals ts)
  pub back : RefersBack (arrivals ts)

-- ---- one comes

is_above : (e : OpId) (x : Operation) → IsAboveReference x → x.op.key ≡ Elem e → id_cmp e x.id ≡ Less
is_above e x above k = subst (λ (j : Key). IsAbove x.id j) k above

pub less_above : (a b : OpId) → id_cmp a b ≡ Less → is_gt (id_cmp b a) ≡ true
less_above a b l = other_way a b (λ e. self (subst (λ i. id_cmp i b ≡ Less) e l)) (rw l refl)
  where
    self : id_cmp b b ≡ Less → ⊥
    self l = both_ways (same_id b b) (rw l refl) (same_id_itself b)

pub child_key : (k : Key) (xs : List Operation) (x : Operation) → Contains (children k xs) x → Contains xs x × (x.op.key ≡ k)
child_key k xs x c = let f = Contains-from_filter (named_by k) xs x c in (f.0, same_key-true x.op.key k f.1)

pub children_above : (e : OpId) (waiting xs : List Operation) → AllByRecursion IsAboveReference xs → AboveAll e waiting → AllAboveAll (children (Elem e) xs) waiting
children_above e waiting [] above all = tt
children_above e waiting (x ∷ xs) above all = elim (cases_Bool (named_by (Elem e) x)) [
  | inl t ↦ let up = less_above e x.id (is_above e x above.0 (same_key-true x.op.key (Elem e) t)) in
      simp t (above_all_trans x.id e waiting up all, children_above e waiting xs above.1 all)
  | inr f ↦ simp f (children_above e waiting xs above.1 all)
]

-- behind the only e, a new element goes below the greater ones that follow
pub behind_only : (e x : OpId) (come fs : List OpId) → (Contains come e → ⊥) → put_below_after e x (come ++ e ∷ fs) ≡ come ++ e ∷ put_below x fs
behind_only e x [] fs n = let s = same_id_itself e in simp s refl
behind_only e x (c ∷ come) fs n =
    let again = behind_only e x come fs (λ d. n (Contains-tail c come e d)) in
    elim (cases_Bool (same_id c e)) [
      | inl s ↦ absurd (n (subst (Contains (c ∷ come)) (same_id-true c e s) (Contains-head c come)))
      | inr s ↦ simp s (ap (λ l. c ∷ l) again)
    ]

child_waits : (e : OpId) (come : List OpId) (x : Operation) → (Contains come e → ⊥) → x.op.key ≡ Elem e → Waits (come ++ e ∷ []) x
child_waits e come x n k = record {
  placed = λ fs. ap (λ j. put_passing j x.id ((come ++ e ∷ []) ++ fs)) k ∙ ap (put_below_after e x.id) (append_assoc come (e ∷ []) fs) ∙ behind_only e x.id come fs n ∙ sym (append_assoc come (e ∷ []) (put_below x.id fs));
  reference = λ r j. subst (Contains (come ++ e ∷ [])) (elem_is (sym k ∙ j)) (Contains-append_right come (e ∷ []) e (Contains-head e []));
}
  where
    elem_is : {r : OpId} → Elem e ≡ Elem r → e ≡ r
    elem_is h = cc

-- what waits goes on to wait behind a greater element
waits_on : (e : OpId) (come : List OpId) (x : Operation) → is_gt (id_cmp e x.id) ≡ true → Waits come x → Waits (come ++ e ∷ []) x
waits_on e come x up w = record {
  placed = λ fs.
      let step : put_below x.id (e ∷ fs) ≡ e ∷ put_below x.id fs = simp up refl in
      ap (put_passing x.op.key x.id) (append_assoc come (e ∷ []) fs) ∙ w.placed (e ∷ fs) ∙ ap (λ l. come ++ l) step ∙ sym (append_assoc come (e ∷ []) (put_below x.id fs));
  reference = λ r j. Contains-append_left come (e ∷ []) r (w.reference r j);
}

from_pushed : (cs waiting : List Operation) (x : Operation) → Contains (pushed cs waiting) x → Contains (cs ++ waiting) x
from_pushed cs waiting x c = Contains-permutation (pushed cs waiting) (cs ++ waiting) x (IsPermutation-sym (cs ++ waiting) (pushed cs waiting) (pushed_permutes cs waiting)) c

module _ (e : OpId) (come fs : List OpId) (waiting xs : List Operation) where
  abbrev to_come : List OpId
  to_come = left fs waiting xs

  abbrev pushed_now : List Operation
  pushed_now = pushed (children (Elem e) xs) waiting

  abbrev others_now : List Operation
  others_now = others (Elem e) xs

  left_permutes : IsPermutation to_come (left fs pushed_now others_now)
  left_permutes = IsPermutation-append_right fs (ids (waiting ++ xs)) (ids (pushed_now ++ others_now)) (IsPermutation-map (λ (x : Operation). x.id) (waiting ++ xs) (pushed_now ++ others_now) (step_permutes (Elem e) waiting xs))

  -- e comes, and its children wait
  pub stands_next : Once (come ++ e ∷ to_come) → Falls waiting → AboveAll e waiting → Climbs xs → AllByRecursion IsAboveReference xs
      → ((x : Operation) → Contains waiting x → Waits come x) → ((y : Operation) → Contains xs y → IsReached (e ∷ to_come) y)
      → Stands (come ++ e ∷ []) fs pushed_now others_now
  stands_next once falls over climbs above waits reached =
      let fresh : Contains come e → ⊥ = λ c. once_apart come (e ∷ to_come) once e c (Contains-head e to_come) in
      record {
        once = once-permutation (come ++ e ∷ to_come) ((come ++ e ∷ []) ++ left fs pushed_now others_now)
            (subst (IsPermutation (come ++ e ∷ to_come)) (sym (append_assoc come (e ∷ []) (left fs pushed_now others_now)))
            (IsPermutation-append_right come (e ∷ to_come) (e ∷ left fs pushed_now others_now) (IsPermutation-cons e to_come (left fs pushed_now others_now) left_permutes))) once;
        falls = falls_pushed (children (Elem e) xs) waiting (climbs_filtered (named_by (Elem e)) xs climbs) falls (children_above e waiting xs above over);
        climbs = climbs_filtered (λ x. not (named_by (Elem e) x)) xs climbs;
        above = all_filtered IsAboveReference (λ x. not (named_by (Elem e) x)) xs above;
        waits = λ x c. elim (Contains-append_cases (children (Elem e) xs) waiting x (from_pushed (children (Elem e) xs) waiting x c)) [
          | inl d ↦ child_waits e come x fresh (child_key (Elem e) xs x d).1
          | inr d ↦ waits_on e come x (All-contains (λ (y : Operation). is_gt (id_cmp e y.id) ≡ true) waiting x (All-from_recursion (λ (y : Operation). is_gt (id_cmp e y.id) ≡ true) waiting over) d) (waits x d)
        ];
        reached = λ y c.
            let f = Contains-from_filter (λ x. not (named_by (Elem e) x)) xs y c in
            let r = reached y f.0 in
            record {
              reference = r.reference;
              key = r.key;
              comes = elim (Contains-cons_cases e to_come r.reference r.comes) [
                | inl is ↦ absurd (both_ways (named_by (Elem e) y) (not-true (named_by (Elem e) y) f.1) (rw (r.key, ← is) (same_id_itself e)))
                | inr d ↦ Contains-permutation to_come (left fs pushed_now others_now) r.reference left_permutes d
              ];
            };
      }

-- ---- the turns

-- where nothing waits and no old element is left, nothing is left
nothing_left : (come : List OpId) (xs : List Operation) → Stands come [] [] xs → xs ≡ []
nothing_left come [] s = refl
nothing_left come (y ∷ xs) s =
    let r = s.reached y (Contains-head y xs) in
    let less : id_cmp r.reference y.id ≡ Less = is_above r.reference y s.above.0 r.key in
    let up : is_gt (id_cmp y.id r.reference) ≡ true = less_above r.reference y.id less in
    absurd (find y up xs s.climbs.0 r.reference r.comes refl)
  where
    low : (y : Operation) (i : OpId) → is_gt (id_cmp y.id i) ≡ true → is_gt (id_cmp i y.id) ≡ true → ⊥
    low y i a b = both_ways (is_gt (id_cmp i y.id)) (above_reversed y.id i a) b

    among : (y : Operation) (xs : List Operation) → BelowAll y.id xs → (i : OpId) → Contains (ids xs) i → is_gt (id_cmp i y.id) ≡ true
    among y [] b i c = absurd (omega (arith, c.1))
    among y (x ∷ xs) b i (zero, l, is) = subst (λ j. is_gt (id_cmp j y.id) ≡ true) is b.0
    among y (x ∷ xs) b i (suc k, l, is) = among y xs b.1 i (k, omega arith, is)

    find : (y : Operation) {r : OpId} → is_gt (id_cmp y.id r) ≡ true → (xs : List Operation) → BelowAll y.id xs → (i : OpId) → Contains (y.id ∷ ids xs) i → i ≡ r → ⊥
    find y {r} up xs b i c is =
        let up : is_gt (id_cmp y.id i) ≡ true = subst (λ j. is_gt (id_cmp y.id j) ≡ true) (sym is) up in
        elim (Contains-cons_cases y.id (ids xs) i c) [
          | inl e ↦ low y i up (subst (λ j. is_gt (id_cmp i j) ≡ true) (sym e) (subst (λ j. is_gt (id_cmp j i) ≡ true) e up))
          | inr d ↦ low y i up (among y xs b i d)
        ]

does_nothing : (come : List OpId) → Does come [] [] [] []
does_nothing come = record { put = refl; all = IsPermutation-refl []; back = tt }

-- a new insertion comes
does_new : (come fs : List OpId) (y : Operation) (waiting xs : List Operation) (ts : List Turn)
    → Stands come fs (y ∷ waiting) xs → put_below y.id fs ≡ y.id ∷ fs
    → Does (come ++ y.id ∷ []) fs (pushed (children (Elem y.id) xs) waiting) (others (Elem y.id) xs) ts
    → Does come fs (y ∷ waiting) xs (New y ∷ ts)
does_new come fs y waiting xs ts s first d =
    let wait = s.waits y (Contains-head y waiting) in
    let now : IsPermutation (waiting ++ xs) (arrivals ts) = IsPermutation-trans (waiting ++ xs) (pushed (children (Elem y.id) xs) waiting ++ others (Elem y.id) xs) (arrivals ts) (step_permutes (Elem y.id) waiting xs) d.all in
    record {
      put = ap (λ l. put_in_turn l (arrivals ts)) (wait.placed fs ∙ ap (λ l. come ++ l) first ∙ sym (append_assoc come (y.id ∷ []) fs)) ∙ d.put ∙ append_assoc come (y.id ∷ []) (map id_of_turn ts);
      all = IsPermutation-cons y (waiting ++ xs) (arrivals ts) now;
      back = (
        recursion_from_All (λ (z : Operation). y.op.key ≢ Elem z.id) (arrivals ts)
            (all_of (λ (z : Operation). y.op.key ≢ Elem z.id) (arrivals ts)
            (λ z c k. once_apart come (left fs (y ∷ waiting) xs) s.once z.id (wait.reference z.id k)
            (Contains-append_right fs (ids (y ∷ (waiting ++ xs))) z.id (Contains-tail y.id (ids (waiting ++ xs)) z.id
            (Contains-map (λ (x : Operation). x.id) (waiting ++ xs) z (Contains-permutation (arrivals ts) (waiting ++ xs) z (IsPermutation-sym (waiting ++ xs) (arrivals ts) now) c)))))),
        d.back,
      );
    }

-- an old element comes
does_old : (come : List OpId) (f : OpId) (fs : List OpId) (waiting xs : List Operation) (ts : List Turn)
    → Does (come ++ f ∷ []) fs (pushed (children (Elem f) xs) waiting) (others (Elem f) xs) ts
    → Does come (f ∷ fs) waiting xs (Old f ∷ ts)
does_old come f fs waiting xs ts d = record {
  put = ap (λ l. put_in_turn l (arrivals ts)) (sym (append_assoc come (f ∷ []) fs)) ∙ d.put ∙ append_assoc come (f ∷ []) (map id_of_turn ts);
  all = IsPermutation-trans (waiting ++ xs) (pushed (children (Elem f) xs) waiting ++ others (Elem f) xs) (arrivals ts) (step_permutes (Elem f) waiting xs) d.all;
  back = d.back;
}

-- the id of what waits on top is brought to the front of what is left
top_first : (come fs : List OpId) (y : Operation) (waiting xs : List Operation) → IsPermutation (come ++ left fs (y ∷ waiting) xs) (come ++ y.id ∷ left fs waiting xs)
top_first come fs y waiting xs = IsPermutation-append_right come (left fs (y ∷ waiting) xs) (y.id ∷ left fs waiting xs) (IsPermutation-middle fs y.id (ids (waiting ++ xs)))

pub next_new : (come fs : List OpId) (y : Operation) (waiting xs : List Operation) → Stands come fs (y ∷ waiting) xs
    → Stands (come ++ y.id ∷ []) fs (pushed (children (Elem y.id) xs) waiting) (others (Elem y.id) xs)
next_new come fs y waiting xs s =
    stands_next y.id come fs waiting xs (once-permutation _ _ (top_first come fs y waiting xs) s.once) s.falls.1 s.falls.0 s.climbs s.above
    (λ x c. s.waits x (Contains-tail y waiting x c))
    (λ z c. let r = s.reached z c in record { reference = r.reference; key = r.key; comes = Contains-permutation (left fs (y ∷ waiting) xs) (y.id ∷ left fs waiting xs) r.reference (IsPermutation-middle fs y.id (ids (waiting ++ xs))) r.comes })

next_old : (come : List OpId) (f : OpId) (fs : List OpId) (waiting xs : List Operation) → Stands come (f ∷ fs) waiting xs → AboveAll f waiting
    → Stands (come ++ f ∷ []) fs (pushed (children (Elem f) xs) waiting) (others (Elem f) xs)
next_old come f fs waiting xs s over = stands_next f come fs waiting xs s.once s.falls over s.climbs s.above s.waits s.reached

-- the pushed and the others are as many
pub sizes : (k : Key) (waiting xs : List Operation) → length (pushed (children k xs) waiting) + length (others k xs) ≡ length waiting + length xs
sizes k waiting xs =
    let p = length_permutation (waiting ++ xs) (pushed (children k xs) waiting ++ others k xs) (step_permutes k waiting xs) in
    let a = length-append waiting xs in
    let b = length-append (pushed (children k xs) waiting) (others k xs) in
    omega arith

pub does_turns : (n : ℕ) (come fs : List OpId) (waiting xs : List Operation) → n ≡ length fs + (length waiting + length xs) → Stands come fs waiting xs → Does come fs waiting xs (turns n fs waiting xs)
does_turns zero come [] [] [] e s = does_nothing come
does_turns zero come (f ∷ fs) waiting xs e s = absurd (omega arith)
does_turns zero come [] (y ∷ waiting) xs e s = absurd (omega arith)
does_turns zero come [] [] (y ∷ xs) e s = absurd (omega arith)
does_turns (suc n) come [] [] xs e s = let none = ap length (nothing_left come xs s) in absurd (omega arith)
does_turns (suc n) come [] (y ∷ waiting) xs e s =
    let size = sizes (Elem y.id) waiting xs in
    does_new come [] y waiting xs _ s refl (does_turns n (come ++ y.id ∷ []) [] (pushed (children (Elem y.id) xs) waiting) (others (Elem y.id) xs) (omega arith) (next_new come [] y waiting xs s))
does_turns (suc n) come (f ∷ fs) [] xs e s =
    let size = sizes (Elem f) [] xs in
    does_old come f fs [] xs _ (does_turns n (come ++ f ∷ []) fs (pushed (children (Elem f) xs) []) (others (Elem f) xs) (omega arith) (next_old come f fs [] xs s tt))
does_turns (suc n) come (f ∷ fs) (y ∷ waiting) xs e s =
    let new_size = sizes (Elem y.id) waiting xs in
    let old_size = sizes (Elem f) (y ∷ waiting) xs in
    let after_new : Stands (come ++ y.id ∷ []) (f ∷ fs) (pushed (children (Elem y.id) xs) waiting) (others (Elem y.id) xs) → Does (come ++ y.id ∷ []) (f ∷ fs) (pushed (children (Elem y.id) xs) waiting) (others (Elem y.id) xs) (turns n (f ∷ fs) (pushed (children (Elem y.id) xs) waiting) (others (Elem y.id) xs)) = does_turns n (come ++ y.id ∷ []) (f ∷ fs) (pushed (children (Elem y.id) xs) waiting) (others (Elem y.id) xs) (omega arith) in
    let after_old : Stands (come ++ f ∷ []) fs (pushed (children (Elem f) xs) (y ∷ waiting)) (others (Elem f) xs) → Does (come ++ f ∷ []) fs (pushed (children (Elem f) xs) (y ∷ waiting)) (others (Elem f) xs) (turns n fs (pushed (children (Elem f) xs) (y ∷ waiting)) (others (Elem f) xs)) = does_turns n (come ++ f ∷ []) fs (pushed (children (Elem f) xs) (y ∷ waiting)) (others (Elem f) xs) (omega arith) in
    elim (cases_Bool (is_gt (id_cmp y.id f))) [
      | inl up ↦
          let low = above_reversed y.id f up in
          let first : put_below y.id (f ∷ fs) ≡ y.id ∷ f ∷ fs = simp low refl in
          simp up (does_new come (f ∷ fs) y waiting xs _ s first (after_new (next_new come (f ∷ fs) y waiting xs s)))
      | inr low ↦
          let differ : y.id ≢ f = λ e. first_alone f (left fs (y ∷ waiting) xs) (tail_once come (f ∷ left fs (y ∷ waiting) xs) s.once)
          (subst (Contains (left fs (y ∷ waiting) xs)) e (Contains-append_right fs (ids (y ∷ (waiting ++ xs))) y.id (Contains-head y.id (ids (waiting ++ xs))))) in
          let up : is_gt (id_cmp f y.id) ≡ true = other_way y.id f differ low in
          simp low (does_old come f fs (y ∷ waiting) xs _ (after_old (next_old come f fs (y ∷ waiting) xs s (up, above_all_trans f y.id waiting up s.falls.0))))
    ]
  where
    tail_once : (a b : List OpId) → Once (a ++ b) → Once b
    tail_once [] b o = o
    tail_once (i ∷ a) b o = tail_once a b (once_tail i (a ++ b) o)
