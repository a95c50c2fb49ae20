-- Two closed sets that hold the same dependencies agree on what fits, but for a clash and for limits.
use Rattle.std.proofs.Common.{suc, ◌-◌, ◌+◌, ◌==◌, nat_le, ◌≡◌, List, [], ◌∷◌, ◌++◌, map, Bool, true, false, not, ◌&&◌, ◌||◌, Some, option_map, cond, refl, sym, ap, ◌∙◌, subst, inl, inr, All, Contains, get_or, arith}
use Rattle.std.specs.List.{list_any, list_all, flat_map, find}
use Rattle.std.proofs.lemmas.Bool.{cases_Bool, both_ways}
use Rattle.std.proofs.lemmas.List.Elements.{All-contains}
use Rattle.std.proofs.lemmas.List.Folds.{list_any-append, Any-from_list_any, list_any-from_Any}
use Rattle.am_laws.specs.Records.{Hash, Change, ObjId, Root, Made, Key, Name, Head, Elem, StartLow, BadReference}
use Rattle.am_types.specs.Order.{hash_cmp, same}
use Rattle.am_types.specs.Operations.{Operation, operations, all_operations, slot, max}
use Rattle.am_types.specs.Members.{Member, changes, holds}
use Rattle.am_types.specs.Ancestors.{is_named, ancestor_hashes, ancestors}
use Rattle.am_types.specs.References.{has_good_references, object_takes, element_known, pred_known, takes, first_bad}
use Rattle.am_types.specs.Verdicts.{seq_gap, start_low, bad_reference, has_seq}
use Rattle.am_types.specs.Actions as actions
use Rattle.am_types.specs.Same.{same_id, same_object, same_key}
use Rattle.am_types.proofs.Orders.{same_hash-true}
use Rattle.am_laws.proofs.Ancestry.{ancestors_closed, ancestors_named, ancestors_least, Contains-from_filter}
use Rattle.am_laws.proofs.Growth.{among_at, found_among, same_answers}

-- ---- the ancestors

pub held_member : (D : List Member) (h : Hash) → holds D h ≡ true → (n : Member) × Contains D n × (n.hash ≡ h)
held_member [] h e = absurd (both_ways false refl e)
held_member (m ∷ D) h e =
    let again : holds D h ≡ true → (n : Member) × Contains D n × (n.hash ≡ h) = held_member D h in
    elim (cases_Bool (same hash_cmp h m.hash)) [
      | inl s ↦ (m, (0, omega arith, refl), sym (same_hash-true h m.hash s))
      | inr s ↦ let found = again (simp s at e) in
          let place = found.1 in
          (found.0, (suc place.0, omega arith, place.2), found.2)
    ]

module _ (C D : List Member) (hs : List Hash)
    (one : (m n : Member) → Contains C m → Contains D n → m.hash ≡ n.hash → m ≡ n)
    (closed : (m : Member) → Contains D m → All (λ h. holds D h ≡ true) m.change.deps)
    (held : All (λ h. holds D h ≡ true) hs) where
  abbrev Shared : Hash → Type 0
  Shared h = (m : Member) → Contains C m → m.hash ≡ h → Contains (ancestors D hs) m

  -- a member of C whose hash D holds is the member of D
  shared : (h : Hash) (m : Member) → Contains C m → m.hash ≡ h → holds D h ≡ true → ((n : Member) → Contains D n → n.hash ≡ h → Contains (ancestors D hs) n) → Contains (ancestors D hs) m
  shared h m cm e t there =
      let found = held_member D h t in
      let is : m ≡ found.0 = one m found.0 cm found.1 (e ∙ sym found.2) in
      subst (Contains (ancestors D hs)) (sym is) (there found.0 found.1 found.2)

  all_shared : All Shared (ancestor_hashes C hs)
  unfolding ancestors
  all_shared =
      ancestors_least C Shared
      (λ m cm q k d l x cx e. shared (get_or m.change.deps k d) x cx e
      (closed m (Contains-from_filter (is_named (ancestor_hashes D hs)) D m (q m cm refl)).0 k d l)
      (λ n cn f. ancestors_closed D hs m n (q m cm refl) (among_at m.change.deps n.hash d k l f) cn))
      hs (λ k d l x cx e. shared (get_or hs k d) x cx e (held k d l) (λ n cn f. ancestors_named D hs n cn (among_at hs n.hash d k l f)))

  pub ancestors_shared : (m : Member) → Contains (ancestors C hs) m → Contains (ancestors D hs) m
  unfolding ancestors
  ancestors_shared m c =
      let is = Contains-from_filter (is_named (ancestor_hashes C hs)) C m c in
      All-contains Shared (ancestor_hashes C hs) m.hash all_shared (found_among _ m.hash is.1) m is.0 refl

-- ---- the reasons

-- no test tells them apart
abbrev pub SameTests : {X : Type 0} → List X → List X → Type 0
SameTests {X} xs ys = (p : X → Bool) → list_any p xs ≡ list_any p ys

moved : {X : Type 0} (p : X → Bool) (xs ys : List X) → ((x : X) → Contains xs x → Contains ys x) → list_any p xs ≡ true → list_any p ys ≡ true
moved p xs ys f t =
    let a = Any-from_list_any p xs t in
    let c = f a.1 (a.0, a.2, a.3) in
    list_any-from_Any p ys (c.0, a.1, c.1, c.2, a.4)

pub same_tests : {X : Type 0} (xs ys : List X) → ((x : X) → Contains xs x → Contains ys x) → ((x : X) → Contains ys x → Contains xs x) → SameTests xs ys
same_tests xs ys f g p = same_answers (list_any p xs) (list_any p ys) (moved p xs ys f) (moved p ys xs g)

list_any-flat_map : {X Y : Type 0} (p : Y → Bool) (f : X → List Y) (xs : List X) → list_any p (flat_map f xs) ≡ list_any (λ x. list_any p (f x)) xs
list_any-flat_map p f [] = refl
list_any-flat_map p f (x ∷ xs) = list_any-append p (f x) (flat_map f xs) ∙ ap (λ b. list_any p (f x) || b) (list_any-flat_map p f xs)

list_any-map : {X Y : Type 0} (p : Y → Bool) (f : X → Y) (xs : List X) → list_any p (map f xs) ≡ list_any (λ x. p (f x)) xs
list_any-map p f [] = refl
list_any-map p f (x ∷ xs) = ap (λ b. p (f x) || b) (list_any-map p f xs)

any_operation : (A : List Member) (p : Operation → Bool) → list_any p (all_operations (changes A)) ≡ list_any (λ m. list_any p (operations m.change)) A
any_operation A p = list_any-flat_map p operations (changes A) ∙ list_any-map (λ c. list_any p (operations c)) (λ m. m.change) A

same_operations : (A B : List Member) → SameTests A B → SameTests (all_operations (changes A)) (all_operations (changes B))
same_operations A B s p = any_operation A p ∙ s (λ m. list_any p (operations m.change)) ∙ sym (any_operation B p)

pub gap_agrees : (A B : List Member) (c : Change) → SameTests A B → seq_gap A c ≡ seq_gap B c
gap_agrees A B c s = rw (s (has_seq c.actor (c.seq - 1)))

find_agrees : {X : Type 0} (p q : X → Bool) → ((x : X) → p x ≡ q x) → (xs : List X) → find p xs ≡ find q xs
find_agrees p q h [] = refl
find_agrees p q h (x ∷ xs) = λ i. cond (h x i) (Some x) (find_agrees p q h xs i)

pub low_agrees : (A B : List Member) (c : Change) → SameTests A B → start_low A c ≡ start_low B c
low_agrees A B c s = ap (option_map StartLow) (find_agrees _ _ (λ h. s (λ m. same hash_cmp m.hash h && nat_le c.start (max m.change))) c.deps)

list_all_agrees : {X : Type 0} (p q : X → Bool) → ((x : X) → p x ≡ q x) → (xs : List X) → list_all p xs ≡ list_all q xs
list_all_agrees p q h [] = refl
list_all_agrees p q h (x ∷ xs) = λ i. h x i && list_all_agrees p q h xs i

module _ (known all : List Operation) (s : SameTests known all) where
  object_agrees : (o : ObjId) (k : Key) → object_takes known o k ≡ object_takes all o k
  object_agrees Root k = refl
  object_agrees (Made o) k = s (λ x. same_id x.id o && takes x.op.action k)

  element_agrees : (o : ObjId) (k : Key) → element_known known o k ≡ element_known all o k
  element_agrees o (Name n) = refl
  element_agrees o Head = refl
  element_agrees o (Elem e) = s (λ x. same_id x.id e && x.op.insert && same_object x.op.obj o)

  preds_agree : (x : Operation) → list_all (pred_known known x) x.op.preds ≡ list_all (pred_known all x) x.op.preds
  preds_agree x = list_all_agrees _ _ (λ p. s (λ y. same_id y.id p && not (y.op.action == actions.del) && same_object y.op.obj x.op.obj && same_key (slot y) (slot x))) x.op.preds

  references_agree : (x : Operation) → has_good_references known x ≡ has_good_references all x
  references_agree x = λ i. object_agrees x.op.obj x.op.key i && element_agrees x.op.obj x.op.key i && preds_agree x i

  push_agrees : (x : Operation) → SameTests (known ++ x ∷ []) (all ++ x ∷ [])
  push_agrees x p = list_any-append p known (x ∷ []) ∙ ap (λ b. b || list_any p (x ∷ [])) (s p) ∙ sym (list_any-append p all (x ∷ []))

first_bad_agrees : (known all : List Operation) → SameTests known all → (xs : List Operation) → first_bad known xs ≡ first_bad all xs
first_bad_agrees known all s [] = refl
first_bad_agrees known all s (x ∷ xs) = λ i. cond (references_agree known all s x i) (option_map (λ n. n + 1) (first_bad_agrees (known ++ x ∷ []) (all ++ x ∷ []) (push_agrees known all s x) xs i)) (Some 0)

pub references_agree_all : (A B : List Member) (c : Change) → SameTests A B → bad_reference A c ≡ bad_reference B c
references_agree_all A B c s = ap (option_map BadReference) (first_bad_agrees _ _ (same_operations A B s) (operations c))
