-- What a delivery adds to the map of the waiting changes.
use Rattle.std.proofs.Common.{arith, length, get_or, All, ◌≡◌, Bool, cond, List, [], ◌∷◌, ◌++◌, true, false, Option, Some, None, option_map, refl, sym, ap, ◌∙◌, subst, inl, inr, IsPermutation}
use Rattle.std.specs.Global.{Box}
use Rattle.std.specs.Option.{option_or}
use Rattle.std.specs.BTreeMap.{BTreeMap, is_at, insert_entry}
use Rattle.std.specs.Map.{lookup}
use Rattle.std.specs.Ordering.{is_eq, match_ordering}
use Rattle.std.specs.declared.cmp.Ordering.{Ordering}
use Rattle.std.specs.declared.cmp.Ordering.TheVariants.{Less, Equal, Greater}
use Rattle.std.proofs.lemmas.Bool.{cases_Bool, or_parts}
use Rattle.std.proofs.lemmas.List.Folds.{find-append}
use Rattle.std.proofs.lemmas.List.Sorted.{IsPermutation-refl, IsPermutation-trans, IsPermutation-cons, IsPermutation-to_front, IsPermutation-swap, IsPermutation-map}
use Rattle.am_types.specs.declared.Hash.{Hash}
use Rattle.am_types.specs.declared.Change.{Change}
use Rattle.am_types.specs.Order.{hash_cmp, same}
use Rattle.am_types.specs.Members.{Member, member, holds}
use Rattle.am_types.specs.Deliver.{Sets, Alike, MayCome, receive, receive_by}
use Rattle.am_types.specs.declared.Rejected.{Rejected}
use Rattle.am_types.specs.declared.Why.TheVariants as reasons
use Rattle.am_types.specs.Same.{same_change}
use Rattle.std.proofs.lemmas.List.{map-append}
use Rattle.std.proofs.lemmas.List.Elements.{All-nil, All-cons, All-contains, Contains-get_or, Contains-append_left, Contains-append_right}
use Rattle.am_delivery.proofs.Lists.{Contains-here}
use Rattle.am_delivery.proofs.Steady.{Steady, steady_all, absent}
use Rattle.am_delivery.proofs.Alikeness.{receive_alike}
use Rattle.am_delivery.specs.Waiting.{member_of, members_of, unboxed, waiting_of}
use Rattle.am_delivery.proofs.Boxes.{change_at, unboxed_lookup}

-- ---- the map

no_such : {X : Type 0} (x : X) → Some x ≡ None → ⊥
no_such x e = cc

-- a look-up in the map finds the change of the member
pub looked_up : (es : List (Hash × Change)) (h : Hash) → lookup (is_at (hash_cmp h)) es ≡ option_map (λ (m : Member). m.change) (member (members_of es) h)
looked_up [] h = refl
looked_up (e ∷ es) h =
    let again : lookup (is_at (hash_cmp h)) es ≡ option_map (λ (m : Member). m.change) (member (members_of es) h) = looked_up es h in
    elim (cases_Bool (same hash_cmp h e.0)) [ inl t ↦ simp t refl | inr f ↦ simp f again ]

-- so does one among the boxes
pub looked_in : (w : BTreeMap Hash (Box Change)) (h : Hash) → change_at w h ≡ option_map (λ (m : Member). m.change) (member (waiting_of w) h)
looked_in w h = sym (unboxed_lookup w h) ∙ looked_up (unboxed w.entries) h

pub both : (C W : List Member) (h : Hash) → member (C ++ W) h ≡ option_or (member C h) (member W h)
both C W h = find-append (λ (m : Member). same hash_cmp h m.hash) C W

-- a new entry goes to its place
two_swapped : {X : Type 0} (x y : X) (zs : List X) → IsPermutation (x ∷ y ∷ zs) (y ∷ x ∷ zs)
two_swapped x y zs = IsPermutation-swap (x ∷ y ∷ zs) (y ∷ x ∷ zs) 0 1 (omega arith) (omega arith) refl

module _ (h : Hash) (c : Change) where
  placed_by : (o : Ordering) (d : Hash × Change) (es : List (Hash × Change)) → hash_cmp h d.0 ≡ o → lookup (is_at (hash_cmp h)) (d ∷ es) ≡ None
      → (lookup (is_at (hash_cmp h)) es ≡ None → IsPermutation ((h, c) ∷ es) (insert_entry hash_cmp es h c))
      → IsPermutation ((h, c) ∷ d ∷ es) (match_ordering o ((h, c) ∷ d ∷ es) ((d.0, c) ∷ es) (d ∷ insert_entry hash_cmp es h c))
  placed_by Less d es f e again = IsPermutation-refl ((h, c) ∷ d ∷ es)
  placed_by Equal d es f e again = let test : same hash_cmp h d.0 ≡ true = ap is_eq f in absurd (no_such d.1 (simp test at e))
  placed_by Greater d es f e again =
      let test : same hash_cmp h d.0 ≡ false = ap is_eq f in
      IsPermutation-trans ((h, c) ∷ d ∷ es) (d ∷ (h, c) ∷ es) (d ∷ insert_entry hash_cmp es h c)
      (two_swapped (h, c) d es)
      (IsPermutation-cons d ((h, c) ∷ es) (insert_entry hash_cmp es h c) (again (simp test at e)))

  pub placed : (es : List (Hash × Change)) → lookup (is_at (hash_cmp h)) es ≡ None → IsPermutation ((h, c) ∷ es) (insert_entry hash_cmp es h c)
  placed [] e = IsPermutation-refl ((h, c) ∷ [])
  placed (d ∷ es) e = placed_by (hash_cmp h d.0) d es refl e (placed es)

  pub joined_waiting : (w v : BTreeMap Hash (Box Change)) → change_at w h ≡ None → unboxed v.entries ≡ insert_entry hash_cmp (unboxed w.entries) h c
      → IsPermutation (waiting_of w ++ record { hash = h; change = c } ∷ []) (waiting_of v)
  joined_waiting w v none e =
      IsPermutation-trans (waiting_of w ++ record { hash = h; change = c } ∷ []) (record { hash = h; change = c } ∷ waiting_of w) (waiting_of v)
      (IsPermutation-to_front (waiting_of w) (record { hash = h; change = c }))
      (subst (λ es. IsPermutation (record { hash = h; change = c } ∷ waiting_of w) (members_of es)) (sym e)
      (IsPermutation-map member_of ((h, c) ∷ unboxed w.entries) (insert_entry hash_cmp (unboxed w.entries) h c) (placed (unboxed w.entries) (unboxed_lookup w h ∙ none))))

pub receive-append : (s : Sets) (L M : List Member) → receive s (L ++ M) ≡ receive (receive s L) M
receive-append s [] M = refl
receive-append s (m ∷ L) M = receive-append (receive_by (member (s.closed ++ s.waiting) m.hash) m s) L M

-- ---- what is known of a hash

abbrev pub change_of : Member → Change
change_of m = m.change

-- whether the change of the member is equal to c
abbrev pub equals : Change → Member → Bool
equals c m = same_change m.change c

pub none_member : (C : List Member) (h : Hash) → holds C h ≡ false → member C h ≡ None
none_member [] h f = refl
none_member (m ∷ C) h f =
    let p = or_parts (same hash_cmp h m.hash) (holds C h) f in
    let again : member C h ≡ None = none_member C h p.1 in
    simp p.0 again

pub in_first : (o p : Option Member) (c : Change) (b : Bool) → option_map (equals c) o ≡ Some b → Some b ≡ option_map (equals c) (option_or o p)
in_first None p c b e = absurd (no_such b (sym e))
in_first (Some m) p c b e = sym e

pub in_second : (o p : Option Member) (c : Change) (r : Option Change) → o ≡ None → r ≡ option_map change_of p → option_map (λ d. same_change d c) r ≡ option_map (equals c) (option_or o p)
in_second None None c r n e = ap (option_map (λ (d : Change). same_change d c)) e
in_second None (Some m) c r n e = ap (option_map (λ (d : Change). same_change d c)) e
in_second (Some m) p c r n e = absurd (no_such m n)

pub is_none : (c : Change) (o : Option Member) → None ≡ option_map (equals c) o → o ≡ None
is_none c None e = refl
is_none c (Some m) e = absurd (no_such (equals c m) (sym e))

none_second : (o p : Option Member) → option_or o p ≡ None → p ≡ None
none_second None p e = e
none_second (Some m) p e = absurd (no_such m e)

some_is : (c : Change) (o : Option Member) (b : Bool) → Some b ≡ option_map (equals c) o → (m : Member) × (o ≡ Some m) × (equals c m ≡ b)
some_is c None b e = absurd (no_such b e)
some_is c (Some m) b e = let f : equals c m ≡ b = cc in (m, refl, f)

-- what is told of the closed members, or else of the waiting ones, is told of both
module _ (C W : List Member) (h : Hash) (c : Change) where
  pub told_closed : (b : Bool) → Some b ≡ option_map (equals c) (member C h) → Some b ≡ option_map (equals c) (member (C ++ W) h)
  told_closed b e = in_first (member C h) (member W h) c b (sym e) ∙ ap (option_map (equals c)) (sym (both C W h))

  pub told_waiting : (r : Option Bool) → None ≡ option_map (equals c) (member C h) → r ≡ option_map (equals c) (member W h) → r ≡ option_map (equals c) (member (C ++ W) h)
  told_waiting r none e =
      e ∙ ap (λ o. option_map (equals c) (option_or o (member W h))) (sym (is_none c (member C h) none)) ∙ ap (option_map (equals c)) (sym (both C W h))

-- a hash that is new is none of the waiting ones
pub is_fresh : (C W : List Member) (h : Hash) (c : Change) → None ≡ option_map (equals c) (member (C ++ W) h) → holds W h ≡ false
is_fresh C W h c e = absent W h (none_second (member C h) (member W h) (sym (both C W h) ∙ is_none c (member (C ++ W) h) e))

-- ---- one change

pub alike_new : (C : List Member) (w v : BTreeMap Hash (Box Change)) (R : List Rejected) (h : Hash) (c : Change)
    → None ≡ option_map (equals c) (member (C ++ waiting_of w) h) → unboxed v.entries ≡ insert_entry hash_cmp (unboxed w.entries) h c
    → Alike (receive (record { closed = C; waiting = waiting_of w; rejected = R }) (record { hash = h; change = c } ∷ [])) (record { closed = C; waiting = waiting_of v; rejected = R })
alike_new C w v R h c none e =
    let m : Member = record { hash = h; change = c } in
    let s : Sets = record { closed = C; waiting = waiting_of w; rejected = R } in
    let t : Sets = record { closed = C; waiting = waiting_of v; rejected = R } in
    let absent : member (C ++ waiting_of w) h ≡ None = is_none c (member (C ++ waiting_of w) h) none in
    let alone : member (waiting_of w) h ≡ None = none_second (member C h) (member (waiting_of w) h) (sym (both C (waiting_of w) h) ∙ absent) in
    let unlisted : change_at w h ≡ None = looked_in w h ∙ ap (option_map change_of) alone in
    let grown : Alike (receive_by None m s) t = record { closed = IsPermutation-refl C; waiting = joined_waiting h c w v unlisted e; rejected = refl } in
    subst (λ o. Alike (receive_by o m s) t) (sym absent) grown

module _ (C W : List Member) (m : Member) (b : Bool) (some : Some b ≡ option_map (equals m.change) (member (C ++ W) m.hash)) where
  abbrev found : (n : Member) × (member (C ++ W) m.hash ≡ Some n) × (equals m.change n ≡ b)
  found = some_is m.change (member (C ++ W) m.hash) b some

  received : (R : List Rejected) (t : Sets) → Alike (receive_by (Some found.0) m (record { closed = C; waiting = W; rejected = R })) t → Alike (receive (record { closed = C; waiting = W; rejected = R }) (m ∷ [])) t
  received R t a = subst (λ o. Alike (receive_by o m (record { closed = C; waiting = W; rejected = R })) t) (sym found.1) a

  pub alike_same : (R : List Rejected) → b ≡ true → Alike (receive (record { closed = C; waiting = W; rejected = R }) (m ∷ [])) (record { closed = C; waiting = W; rejected = R })
  alike_same R t =
      let test : same_change found.0.change m.change ≡ true = found.2 ∙ t in
      received R (record { closed = C; waiting = W; rejected = R }) (simp test (alike_itself (record { closed = C; waiting = W; rejected = R })))
    where
      alike_itself : (s : Sets) → Alike s s
      alike_itself s = record { closed = IsPermutation-refl s.closed; waiting = IsPermutation-refl s.waiting; rejected = refl }

  pub alike_clash : (R Q : List Rejected) → b ≡ false → Q ≡ R ++ record { hash = m.hash; why = reasons.HashClash } ∷ []
      → Alike (receive (record { closed = C; waiting = W; rejected = R }) (m ∷ [])) (record { closed = C; waiting = W; rejected = Q })
  alike_clash R Q f q =
      let test : same_change found.0.change m.change ≡ false = found.2 ∙ f in
      received R (record { closed = C; waiting = W; rejected = Q }) (simp test (record { closed = IsPermutation-refl C; waiting = IsPermutation-refl W; rejected = sym q }))

-- the change whose hash m has is compared with m, and m is rejected unless the two are equal
pub alike_told : (C W : List Member) (m : Member) (b : Bool) → Some b ≡ option_map (equals m.change) (member (C ++ W) m.hash) → (R Q : List Rejected)
    → Q ≡ cond b R (R ++ record { hash = m.hash; why = reasons.HashClash } ∷ [])
    → Alike (receive (record { closed = C; waiting = W; rejected = R }) (m ∷ [])) (record { closed = C; waiting = W; rejected = Q })
alike_told C W m true some R Q e = subst (λ q. Alike (receive (record { closed = C; waiting = W; rejected = R }) (m ∷ [])) (record { closed = C; waiting = W; rejected = q })) (sym e) (alike_same C W m true some R refl)
alike_told C W m false some R Q e = alike_clash C W m false some R Q refl e

-- ---- one more

pub alike_trans : (s t u : Sets) → Alike s t → Alike t u → Alike s u
alike_trans s t u a b = record {
  closed = IsPermutation-trans s.closed t.closed u.closed a.closed b.closed;
  waiting = IsPermutation-trans s.waiting t.waiting u.waiting a.waiting b.waiting;
  rejected = a.rejected ∙ b.rejected;
}

pub alike_more : (s t u : Sets) (L : List Member) (m : Member) → Steady s → All MayCome L → MayCome m → Alike (receive s L) t → Alike (receive t (m ∷ [])) u → Alike (receive s (L ++ m ∷ [])) u
alike_more s t u L m y fine one a b =
    subst (λ k. Alike k u) (sym (receive-append s L (m ∷ [])))
    (alike_trans (receive (receive s L) (m ∷ [])) (receive t (m ∷ [])) u
    (receive_alike (receive s L) t (m ∷ []) (All-cons MayCome m [] one (All-nil MayCome)) (steady_all s L fine y) a) b)

-- what holds of all pairs holds of the first of them and of the next
pub of_parts : (P : Member → Type 0) (es ys rest : List (Hash × Change)) (x : Hash × Change) → ys ++ x ∷ rest ≡ es → All P (members_of es) → All P (members_of ys) × P (member_of x)
of_parts P es ys rest x e a =
    let split : members_of es ≡ members_of ys ++ member_of x ∷ members_of rest = sym (ap members_of e) ∙ map-append member_of ys (x ∷ rest) in
    let whole : All P (members_of ys ++ member_of x ∷ members_of rest) = subst (All P) split a in (
      λ k d l. All-contains P (members_of ys ++ member_of x ∷ members_of rest) (get_or (members_of ys) k d) whole (Contains-append_left (members_of ys) (member_of x ∷ members_of rest) (get_or (members_of ys) k d) (Contains-get_or (members_of ys) k d l)),
      All-contains P (members_of ys ++ member_of x ∷ members_of rest) (member_of x) whole (Contains-append_right (members_of ys) (member_of x ∷ members_of rest) (member_of x) (Contains-here (member_of x) (members_of rest))),
    )

pub nothing_left : {X : Type 0} (l : List X) → length l ≡ 0 → l ≡ []
nothing_left [] h = refl
nothing_left (x ∷ xs) h = absurd (omega arith)
