-- What the graph says of seqs and starts is what the definition of the verdict asks.
use Rattle.std.proofs.Common.{ℕ, zero, suc, ◌≡◌, ◌+◌, ◌-◌, ◌<◌, ◌≤◌, ◌==◌, List, [], ◌∷◌, length, get_or, map, filter, find, fold, max as larger, Bool, true, false, not, ◌&&◌, nat_le, nat_lt, Option, Some, None, option_map, cond, refl, sym, ap, ◌∙◌, subst, inl, inr, ◌⊎◌, Contains, arith}
use Rattle.std.specs.List.{list_any}
use Rattle.std.specs.Bool.{then_some}
use Rattle.std.specs.Option.{option_map_or}
use Rattle.std.proofs.lemmas.Bool.{cases_Bool, cases_lt, both_ways, and_from, and_parts, eqb-true, lt-ltb, le-ltb, false_from_ne_true}
use Rattle.std.proofs.lemmas.Cmp.{nat_list_eq_equiv, nat_eq_equiv}
use Rattle.std.proofs.lemmas.List.Elements.{All-contains}
use Rattle.std.proofs.lemmas.List.Folds.{list_any-from_Any, Any-from_list_any}
use Rattle.am_types.specs.declared.Hash.{Hash}
use Rattle.am_types.specs.declared.Change.{Change}
use Rattle.am_types.specs.declared.Verdict.TheVariants.{SeqClash, SeqGap, StartLow}
use Rattle.am_types.specs.Order.{hash_cmp, same}
use Rattle.am_types.specs.Same.{same_bytes}
use Rattle.am_types.specs.Operations.{max}
use Rattle.am_types.specs.Members.{Member, member}
use Rattle.am_types.specs.Ancestors.{ancestors}
use Rattle.am_types.specs.Verdicts.{has_seq, seq_clash, seq_gap, start_low}
use Rattle.am_laws.proofs.Ancestry.{Contains-filter, Contains-from_filter, ancestors_named}
use Rattle.am_laws.proofs.Counters.{find_none}
use Rattle.am_laws.proofs.DistinctIds.{ancestor_is_member, ancestors_trans}
use Rattle.am_laws.proofs.Growth.{same_answers, among_at}
use Rattle.am_types.proofs.Orders.{same_bytes-true}
use Rattle.am_laws.proofs.Listed.{Facts}
use Rattle.am_types.proofs.Lists.{Contains-head, Contains-tail}
use Rattle.am_types.proofs.Orders.{same_hash-true, same_hash_itself}
use Rattle.am_graph.specs.declared.node.Node.{Node}
use Rattle.am_graph.specs.declared.reach.Reach.{Reach}
use Rattle.am_graph.specs.Clocks.{IsClockOf, reach_of, last_seq}
use Rattle.am_graph.specs.Graphs.{nodes, having, IsLeast}

-- ---- lists

pub find_passes : {X : Type 0} (p : X → Bool) (xs : List X) (x : X) → find p xs ≡ Some x → Contains xs x × (p x ≡ true)
find_passes p [] x e = absurd (no e)
  where
    no : None ≡ Some x → ⊥
    no g = cc
find_passes p (y ∷ xs) x e =
    let again : find p xs ≡ Some x → Contains xs x × (p x ≡ true) = find_passes p xs x in
    elim (cases_Bool (p y)) [
      | inl t ↦ let f : y ≡ x = inner (sym (ap (λ b. cond b (Some y) (find p xs)) t) ∙ e) in (subst (Contains (y ∷ xs)) f (Contains-head y xs), ap p (sym f) ∙ t)
      | inr t ↦ let a = again (sym (ap (λ b. cond b (Some y) (find p xs)) t) ∙ e) in (Contains-tail y xs x a.0, a.1)
    ]
  where
    inner : Some y ≡ Some x → y ≡ x
    inner g = cc

find_within : {X : Type 0} (p q : X → Bool) (xs : List X) → ((x : X) → Contains xs x → p x ≡ q x) → find p xs ≡ find q xs
find_within p q [] h = refl
find_within p q (x ∷ xs) h =
    let again : find p xs ≡ find q xs = find_within p q xs (λ y c. h y (Contains-tail x xs y c)) in
    λ j. cond (h x (Contains-head x xs) j) (Some x) (again j)

pub mapped_contains : {X Y : Type 0} (f : X → Y) (xs : List X) (x : X) → Contains xs x → Contains (map f xs) (f x)
mapped_contains f [] x c = absurd (omega (arith, c.1))
mapped_contains f (y ∷ xs) x c =
    let again : Contains xs x → Contains (map f xs) (f x) = mapped_contains f xs x in
    go again c.0 c.1 c.2
  where
    go : (Contains xs x → Contains (map f xs) (f x)) → (k : ℕ) → k < length (y ∷ xs) → get_or (y ∷ xs) k x ≡ x → Contains (f y ∷ map f xs) (f x)
    go again zero l e = subst (λ z. Contains (f y ∷ map f xs) (f z)) e (Contains-head (f y) (map f xs))
    go again (suc k) l e = Contains-tail (f y) (map f xs) (f x) (again (k, omega arith, e))

pub mapped_from : {X Y : Type 0} (f : X → Y) (xs : List X) (y : Y) → Contains (map f xs) y → (x : X) × Contains xs x × (f x ≡ y)
mapped_from f [] y c = absurd (omega (arith, c.1))
mapped_from {X = X} f (x ∷ xs) y c =
    let again : Contains (map f xs) y → (z : X) × Contains xs z × (f z ≡ y) = mapped_from f xs y in
    go again c.0 c.1 c.2
  where
    go : (Contains (map f xs) y → (z : X) × Contains xs z × (f z ≡ y)) → (k : ℕ) → k < length (f x ∷ map f xs) → get_or (f x ∷ map f xs) k y ≡ y → (z : X) × Contains (x ∷ xs) z × (f z ≡ y)
    go again zero l e = (x, Contains-head x xs, e)
    go again (suc k) l e = let a = again (k, omega arith, e) in (a.0, Contains-tail x xs a.0 a.1, a.2)

-- ---- the member with an actor and a seq

same_flip : (x y : List ℕ) → same_bytes x y ≡ true → same_bytes y x ≡ true
same_flip x y e = subst (λ z. same_bytes z x ≡ true) (same_bytes-true x y e) (nat_list_eq_equiv.refl x)

module _ (C : List Member) (actor : List ℕ) (seq : ℕ) where
  abbrev has_node : Hash × Node → Bool
  has_node e = same_bytes actor e.1.actor && e.1.seq == seq

  abbrev entry : Member → Hash × Node
  entry m = (m.hash, record { actor = m.change.actor; seq = m.change.seq; start = m.change.start; count = length m.change.ops; deps = m.change.deps })

  to_having : (m : Member) → Contains C m → has_seq actor seq m ≡ true → Contains (having (nodes C) actor seq) m.hash
  to_having m c t =
      let p = and_parts (same_bytes m.change.actor actor) (m.change.seq == seq) t in
      mapped_contains (λ (e : Hash × Node). e.0) (filter has_node (nodes C)) (entry m)
      (Contains-filter has_node (nodes C) (entry m) (mapped_contains entry C m c) (and_from (same_bytes actor m.change.actor) (m.change.seq == seq) (same_flip m.change.actor actor p.0) p.1))

  from_having : (h : Hash) → Contains (having (nodes C) actor seq) h → (m : Member) × Contains C m × (m.hash ≡ h) × (has_seq actor seq m ≡ true)
  from_having h c =
      let e = mapped_from (λ (e : Hash × Node). e.0) (filter has_node (nodes C)) h c in
      let f = Contains-from_filter has_node (nodes C) e.0 e.1 in
      let m = mapped_from entry C e.0 f.0 in
      let t : has_node (entry m.0) ≡ true = ap has_node m.2 ∙ f.1 in
      let p = and_parts (same_bytes actor m.0.change.actor) (m.0.change.seq == seq) t in
      (m.0, m.1, ap (λ (e : Hash × Node). e.0) m.2 ∙ e.2, and_from (same_bytes m.0.change.actor actor) (m.0.change.seq == seq) (same_flip actor m.0.change.actor p.0) p.1)

pub clash_is : (C : List Member) → Facts C → (c : Change) (o : Option Hash) → IsLeast o (having (nodes C) c.actor c.seq) → option_map SeqClash o ≡ seq_clash C c
clash_is C is c None least = go (find (has_seq c.actor c.seq) C) refl
  where
    go : (o : Option Member) → find (has_seq c.actor c.seq) C ≡ o → option_map SeqClash None ≡ seq_clash C c
    go None e = sym (ap (option_map (λ (m : Member). SeqClash m.hash)) e)
    go (Some m) e =
        let p = find_passes (has_seq c.actor c.seq) C m e in
        let none : Contains [] m.hash = subst (λ l. Contains l m.hash) least (to_having C c.actor c.seq m p.0 p.1) in
        absurd (omega (arith, none.1))
clash_is C is c (Some h) least = go (find (has_seq c.actor c.seq) C) refl
  where
    go : (o : Option Member) → find (has_seq c.actor c.seq) C ≡ o → option_map SeqClash (Some h) ≡ seq_clash C c
    go None e =
        let m = from_having C c.actor c.seq h least.0 in
        absurd (both_ways (has_seq c.actor c.seq m.0) (All-contains (λ m. has_seq c.actor c.seq m ≡ false) C m.0 (find_none (has_seq c.actor c.seq) C e) m.1) m.3)
    go (Some n) e =
        let m = from_having C c.actor c.seq h least.0 in
        let p = find_passes (has_seq c.actor c.seq) C n e in
        let s = and_parts (same_bytes m.0.change.actor c.actor) (m.0.change.seq == c.seq) m.3 in
        let t = and_parts (same_bytes n.change.actor c.actor) (n.change.seq == c.seq) p.1 in
        let one : m.0 ≡ n = is.one_seq m.0 n m.1 p.0 (same_bytes-true m.0.change.actor c.actor s.0 ∙ sym (same_bytes-true n.change.actor c.actor t.0)) (eqb-true m.0.change.seq c.seq s.1 ∙ sym (eqb-true n.change.seq c.seq t.1)) in
        ap (λ (h : Hash). Some (SeqClash h)) (sym m.2 ∙ ap (λ (m : Member). m.hash) one) ∙ sym (ap (option_map (λ (m : Member). SeqClash m.hash)) e)

-- ---- the greatest seq

larger_left : (a b : ℕ) → a ≤ larger a b
larger_left a b = omega arith

larger_right : (a b : ℕ) → b ≤ larger a b
larger_right a b = omega arith

upper : (a : ℕ) (ns : List ℕ) → a ≤ fold larger a ns
upper a [] = omega arith
upper a (n ∷ ns) = let again = upper (larger a n) ns in let l = larger_left a n in omega arith

each_below : (a : ℕ) (ns : List ℕ) (n : ℕ) → Contains ns n → n ≤ fold larger a ns
each_below a [] n c = absurd (omega (arith, c.1))
each_below a (m ∷ ns) n c =
    let again : Contains ns n → n ≤ fold larger (larger a m) ns = each_below (larger a m) ns n in
    go again c.0 c.1 c.2
  where
    go : (Contains ns n → n ≤ fold larger (larger a m) ns) → (k : ℕ) → k < length (m ∷ ns) → get_or (m ∷ ns) k n ≡ n → n ≤ fold larger (larger a m) ns
    go again zero l e = let u = upper (larger a m) ns in let r = larger_right a m in let f : m ≡ n = e in omega arith
    go again (suc k) l e = again (k, omega arith, e)

attained : (a : ℕ) (ns : List ℕ) → (fold larger a ns ≡ a) ⊎ Contains ns (fold larger a ns)
attained a [] = inl refl
attained a (n ∷ ns) = elim (attained (larger a n) ns) [
  | inl e ↦ elim (cases_lt a n) [
    | inl l ↦ let s : n ≡ fold larger (larger a n) ns = omega arith in inr (subst (Contains (n ∷ ns)) s (Contains-head n ns))
    | inr l ↦ inl (omega arith)
  ]
  | inr c ↦ inr (Contains-tail n ns (fold larger (larger a n) ns) c)
]

module _ (C : List Member) (is : Facts C) (hs : List Hash) where
  -- from an ancestor down to one with an earlier seq of its actor
  down : (t d : ℕ) (n : Member) → Contains (ancestors C hs) n → n.change.seq ≡ t + d → 1 ≤ t → (p : Member) × Contains (ancestors C hs) p × (p.change.actor ≡ n.change.actor) × (p.change.seq ≡ t)
  down t zero n c e one = (n, c, refl, omega arith)
  down t (suc d) n c e one =
      let f = is.chained n (ancestor_is_member C hs n c) (omega arith) in
      let p = f.0 in
      let s = f.3 in
      let again = down t d p (ancestors_trans C hs n p c f.1) (omega arith) one in
      (again.0, again.1, again.2 ∙ f.2, again.3)

  abbrev of_actor : List ℕ → Member → Bool
  of_actor x m = same_bytes m.change.actor x

  -- an actor has a seq among the ancestors exactly where its last one there is no less
  seq_there : (x : List ℕ) (t : ℕ) → 1 ≤ t → t ≤ last_seq (ancestors C hs) x → list_any (has_seq x t) (ancestors C hs) ≡ true
  seq_there x t one l =
      let A = ancestors C hs in
      let seqs : List ℕ = map (λ m. m.change.seq) (filter (of_actor x) A) in
      elim (attained 0 seqs) [
        | inl z ↦ let g : last_seq A x ≡ 0 = z in absurd (omega arith)
        | inr c ↦
            let f = mapped_from (λ (m : Member). m.change.seq) (filter (of_actor x) A) (last_seq A x) c in
            let n = f.0 in
            let k = Contains-from_filter (of_actor x) A n f.1 in
            let s : n.change.seq ≡ last_seq A x = f.2 in
            let p = down t (n.change.seq - t) n k.0 (omega arith) one in
            let q = p.1 in
            list_any-from_Any (has_seq x t) A (
              q.0,
              p.0,
              q.1,
              q.2,
              and_from (same_bytes p.0.change.actor x) (p.0.change.seq == t)
                  (ap (λ a. same_bytes a x) p.2 ∙ k.1) (ap (λ s. s == t) p.3 ∙ nat_eq_itself t),
            )
      ]
    where
      nat_eq_itself : (n : ℕ) → (n == n) ≡ true
      nat_eq_itself n = nat_eq_equiv.refl n

  last_above : (x : List ℕ) (t : ℕ) → list_any (has_seq x t) (ancestors C hs) ≡ true → t ≤ last_seq (ancestors C hs) x
  last_above x t h =
      let A = ancestors C hs in
      let a = Any-from_list_any (has_seq x t) A h in
      let m = a.1 in
      let p = and_parts (same_bytes m.change.actor x) (m.change.seq == t) a.4 in
      let s : m.change.seq ≡ t = eqb-true m.change.seq t p.1 in
      let below = each_below 0 (map (λ m. m.change.seq) (filter (of_actor x) A)) m.change.seq
      (mapped_contains (λ (m : Member). m.change.seq) (filter (of_actor x) A) m (Contains-filter (of_actor x) A m (a.0, a.2, a.3) p.0)) in
      omega arith

abbrev pub gap_told : List (List ℕ × Reach) → Change → Bool
gap_told clock c = nat_lt 1 c.seq && nat_lt (reach_of clock c.actor).seq (c.seq - 1)

pub gap_is : (C : List Member) → Facts C → (c : Change) (clock : List (List ℕ × Reach)) → IsClockOf (ancestors C c.deps) clock → then_some (gap_told clock c) SeqGap ≡ seq_gap (ancestors C c.deps) c
gap_is C is c clock of = ap (λ b. then_some b SeqGap) (elim (cases_lt 1 c.seq) [
  | inl l ↦ ap (λ b. b && nat_lt (reach_of clock c.actor).seq (c.seq - 1)) (lt-ltb 1 c.seq l) ∙ later l ∙ sym (ap (λ b. b && not (list_any (has_seq c.actor (c.seq - 1)) A)) (lt-ltb 1 c.seq l))
  | inr l ↦ ap (λ b. b && nat_lt (reach_of clock c.actor).seq (c.seq - 1)) (le-ltb 1 c.seq l) ∙ sym (ap (λ b. b && not (list_any (has_seq c.actor (c.seq - 1)) A)) (le-ltb 1 c.seq l))
])
  where
    A : List Member
    A = ancestors C c.deps

    later : 1 < c.seq → nat_lt (reach_of clock c.actor).seq (c.seq - 1) ≡ not (list_any (has_seq c.actor (c.seq - 1)) (ancestors C c.deps))
    later l =
        let last = of.last_seq c.actor in
        elim (cases_lt (reach_of clock c.actor).seq (c.seq - 1)) [
          | inl m ↦ lt-ltb (reach_of clock c.actor).seq (c.seq - 1) m
              ∙ sym (ap not (false_from_ne_true (list_any (has_seq c.actor (c.seq - 1)) (ancestors C c.deps)) (λ t. let b = last_above C is c.deps c.actor (c.seq - 1) t in absurd (omega arith))))
          | inr m ↦ le-ltb (reach_of clock c.actor).seq (c.seq - 1) m ∙ sym (ap not (seq_there C is c.deps c.actor (c.seq - 1) (omega arith) (omega arith)))
        ]

-- ---- dependencies that end too late

abbrev pub low_told : List Member → Change → Option Hash
low_told C c = find (λ h. option_map_or (λ m. nat_le c.start (max m.change)) (member C h) false) c.deps

abbrev low_by : List Member → Change → Hash → Bool
low_by A c h = list_any (λ m. same hash_cmp m.hash h && nat_le c.start (max m.change)) A

low_at : (C : List Member) → Facts C → (c : Change) (h : Hash) → Contains c.deps h → (o : Option Member) → member C h ≡ o → option_map_or (λ m. nat_le c.start (max m.change)) (member C h) false ≡ low_by (ancestors C c.deps) c h
low_at C is c h ch None e =
    ap (λ o. option_map_or (λ (m : Member). nat_le c.start (max m.change)) o false) e
    ∙ sym (false_from_ne_true (low_by (ancestors C c.deps) c h) (λ t.
    let a = Any-from_list_any (λ m. same hash_cmp m.hash h && nat_le c.start (max m.change)) (ancestors C c.deps) t in
    let n = a.1 in
    let p = and_parts (same hash_cmp n.hash h) (nat_le c.start (max n.change)) a.4 in
    let cn = ancestor_is_member C c.deps n (a.0, a.2, a.3) in
    both_ways (same hash_cmp h n.hash) (All-contains (λ m. same hash_cmp h m.hash ≡ false) C n (find_none (λ m. same hash_cmp h m.hash) C e) cn)
    (subst (λ g. same hash_cmp h g ≡ true) (sym (same_hash-true n.hash h p.0)) (same_hash_itself h))))
low_at C is c h ch (Some m) e =
    let p = find_passes (λ m. same hash_cmp h m.hash) C m e in
    let own : h ≡ m.hash = same_hash-true h m.hash p.1 in
    let there : Contains (ancestors C c.deps) m = ancestors_named C c.deps m p.0 (among_at c.deps m.hash h ch.0 ch.1 (sym own ∙ sym ch.2)) in
    ap (λ o. option_map_or (λ (m : Member). nat_le c.start (max m.change)) o false) e
    ∙ same_answers (nat_le c.start (max m.change)) (low_by (ancestors C c.deps) c h)
    (λ t. list_any-from_Any (λ m. same hash_cmp m.hash h && nat_le c.start (max m.change)) (ancestors C c.deps)
    (there.0, m, there.1, there.2, and_from (same hash_cmp m.hash h) (nat_le c.start (max m.change)) (subst (λ g. same hash_cmp m.hash g ≡ true) (sym own) (same_hash_itself m.hash)) t))
    (λ t. let a = Any-from_list_any (λ m. same hash_cmp m.hash h && nat_le c.start (max m.change)) (ancestors C c.deps) t in
    let n = a.1 in
    let q = and_parts (same hash_cmp n.hash h) (nat_le c.start (max n.change)) a.4 in
    let one : n ≡ m = is.one_hash n m (ancestor_is_member C c.deps n (a.0, a.2, a.3)) p.0 (same_hash-true n.hash h q.0 ∙ own) in
    ap (λ (z : Member). nat_le c.start (max z.change)) (sym one) ∙ q.1)

pub low_is : (C : List Member) → Facts C → (c : Change) → option_map StartLow (low_told C c) ≡ start_low (ancestors C c.deps) c
low_is C is c = ap (option_map StartLow) (find_within _ (low_by (ancestors C c.deps) c) c.deps (λ h ch. low_at C is c h ch (member C h) refl))
