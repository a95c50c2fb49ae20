-- The canonical order and the heads of a larger set.
use Rattle.std.proofs.Common.{ℕ, zero, suc, ◌≡◌, ◌+◌, List, [], ◌∷◌, ◌++◌, length, map, filter, Bool, true, false, not, ◌&&◌, ◌||◌, refl, sym, ap, ◌∙◌, subst, Contains, arith}
use Rattle.std.specs.Bool.{⊤}
use Rattle.std.specs.Ordering.{nat_cmp, ordering_then}
use Rattle.std.proofs.lemmas.Bool.{both_ways, false_from_ne_true}
use Rattle.std.proofs.lemmas.List.{append-nil, map-append, length-append}
use Rattle.std.proofs.lemmas.List.Elements.{All-contains, All-contains_itself, filter-append}
use Rattle.std.proofs.lemmas.List.Folds.{Any-from_list_any, list_any-append}
use Rattle.std.proofs.lemmas.List.Sorted.{IsPermutation-refl}
use Rattle.am_types.specs.declared.Hash.{Hash}
use Rattle.am_types.specs.Order.{bytes_cmp, hash_cmp, among, sorted_by}
use Rattle.am_types.specs.Members.{Member, hashes, holds, heads, is_dependency}
use Rattle.am_types.specs.Canonical.{largest, dependencies, depth_within, depth, canonical_cmp, order}
use Rattle.am_types.specs.ValidSets.{Valid}
use Rattle.am_laws.proofs.Covered.{filter_whole}
use Rattle.am_laws.proofs.Depths.{depth_counts}
use Rattle.am_laws.proofs.Growth.{found_among}
use Rattle.am_laws.proofs.Listed.{holds_own, Facts}
use Rattle.am_laws.proofs.ListingLaws.{canonical_total, canonical_ties}
use Rattle.am_types.proofs.Lists.{map_within}
use Rattle.am_types.proofs.Orders.{hash_total, hash_exact}
use Rattle.am_types.proofs.Rising.{filter-sorted_by}
use Rattle.am_laws.proofs.ValidSetLaws.{grounds_valid}
use Rattle.am_merge.specs.Merge.{merge}
use Rattle.am_merge.proofs.Lists.{filter_none, filter_within, filter-filter}
use Rattle.am_merge.proofs.Sorts.{sorted_by-agree}
use Rattle.am_merge.proofs.Merging.{sorted_by-merge}
use Rattle.am_merge.proofs.Larger.{one_apart}

module _ (C E : List Member) (v : Valid C) (w : Valid (C ++ E)) where
  abbrev D : List Member
  D = C ++ E

  facts : Facts C
  facts = (grounds_valid C v).facts

  -- a member of C depends on none of E
  pub none_named : (m : Member) → Contains C m → (e : Member) → Contains E e → among hash_cmp m.change.deps e.hash ≡ false
  none_named m cm e ce = false_from_ne_true _ (λ t.
      both_ways (holds C e.hash) (one_apart C E v w e ce) (All-contains (λ h. holds C h ≡ true) m.change.deps e.hash (facts.closed m cm) (found_among m.change.deps e.hash t)))

  same_dependencies : (m : Member) → Contains C m → dependencies (C ++ E) m.change ≡ dependencies C m.change
  same_dependencies m c =
      let p : Member → Bool = λ n. among hash_cmp m.change.deps n.hash in
      filter-append p C E ∙ ap (λ l. filter p C ++ l) (filter_none p E (λ e ce. none_named m c e ce)) ∙ append-nil (filter p C)

  from_dependencies : (m d : Member) → Contains (dependencies C m.change) d → Contains C d
  from_dependencies m d c = (Rattle.am_laws.proofs.Ancestry.Contains-from_filter (λ (n : Member). among hash_cmp m.change.deps n.hash) C d c).0

  same_within : (n : ℕ) (m : Member) → Contains C m → depth_within n (C ++ E) m.change ≡ depth_within n C m.change
  same_within zero m c = refl
  same_within (suc n) m c =
      ap (λ ds. largest (map (λ d. depth_within n (C ++ E) d.change + 1) ds)) (same_dependencies m c)
      ∙ ap largest (map_within (λ (d : Member). depth_within n (C ++ E) d.change + 1) (λ (d : Member). depth_within n C d.change + 1) (dependencies C m.change)
      (λ d cd. ap (λ k. k + 1) (same_within n d (from_dependencies m d cd))))

  -- more steps than there are members change nothing
  enough : (k n : ℕ) → n ≡ k + length C → (m : Member) → Contains C m → depth_within n C m.change ≡ depth C m.change
  unfolding depth
  enough zero n e m c = ap (λ n. depth_within n C m.change) (let is : n ≡ length C = omega arith in is)
  enough (suc k) zero e m c = absurd (omega arith)
  enough (suc k) (suc n) e m c =
      ap largest (map_within (λ (d : Member). depth_within n C d.change + 1) (λ (d : Member). depth C d.change + 1) (dependencies C m.change)
      (λ d cd. ap (λ j. j + 1) (enough k n (omega arith) d (from_dependencies m d cd))))
      ∙ sym (depth_counts C v m c)

  pub same_depth : (m : Member) → Contains C m → depth (C ++ E) m.change ≡ depth C m.change
  unfolding depth
  same_depth m c = same_within (length (C ++ E)) m c ∙ enough (length E) (length (C ++ E)) (let l = length-append C E in omega arith) m c

  same_cmp : (x y : Member) → Contains C x → Contains C y → canonical_cmp (C ++ E) x y ≡ canonical_cmp C x y
  same_cmp x y cx cy = λ i. ordering_then (nat_cmp (same_depth x cx i) (same_depth y cy i)) (ordering_then (bytes_cmp x.change.actor y.change.actor) (ordering_then (nat_cmp x.change.seq y.change.seq) (hash_cmp x.hash y.hash)))

  only_old : filter (λ m. holds C m.hash) (C ++ E) ≡ C
  only_old =
      let p : Member → Bool = λ m. holds C m.hash in
      filter-append p C E ∙ (λ i. filter_whole p C (holds_own C) i ++ filter_none p E (one_apart C E v w) i) ∙ append-nil C

  sorts_alike : sorted_by (canonical_cmp (C ++ E)) C ≡ sorted_by (canonical_cmp C) C
  sorts_alike = sorted_by-agree (canonical_cmp (C ++ E)) (canonical_cmp C) (Contains C) same_cmp C (All-contains_itself C)

  pub order_of_old : filter (λ m. holds C m.hash) (order (C ++ E)) ≡ order C
  unfolding order
  order_of_old = filter-sorted_by (canonical_total (C ++ E)) (λ m. holds C m.hash) (C ++ E) ∙ ap (sorted_by (canonical_cmp (C ++ E))) only_old ∙ sorts_alike

  pub order_grown : order (C ++ E) ≡ merge (canonical_cmp (C ++ E)) (order C) (sorted_by (canonical_cmp (C ++ E)) E)
  unfolding order
  order_grown =
      sorted_by-merge (canonical_total (C ++ E)) (Contains (C ++ E))
      (λ x y cx cy e. (grounds_valid (C ++ E) w).facts.one_hash x y cx cy (canonical_ties (C ++ E) x y e))
      (C ++ E) C E (All-contains_itself (C ++ E)) (IsPermutation-refl (C ++ E))
      ∙ ap (λ l. merge (canonical_cmp (C ++ E)) l (sorted_by (canonical_cmp (C ++ E)) E)) sorts_alike

  -- ---- heads

  not_either : (a b : Bool) → not (a || b) ≡ (not a && not b)
  not_either true b = refl
  not_either false b = refl

  dependency_both : (h : Hash) → is_dependency (C ++ E) h ≡ (is_dependency C h || is_dependency E h)
  dependency_both h = list_any-append (λ m. among hash_cmp m.change.deps h) C E

  old_heads : filter (λ h. not (is_dependency (C ++ E) h)) (hashes C) ≡ filter (λ h. not (is_dependency E h)) (filter (λ h. not (is_dependency C h)) (hashes C))
  old_heads =
      filter_within (λ h. not (is_dependency (C ++ E) h)) (λ h. not (is_dependency C h) && not (is_dependency E h)) (hashes C) (λ h c. ap not (dependency_both h) ∙ not_either (is_dependency C h) (is_dependency E h))
      ∙ sym (filter-filter (λ h. not (is_dependency E h)) (λ h. not (is_dependency C h)) (hashes C))

  none_depends : (h : Hash) → Contains (hashes E) h → is_dependency C h ≡ false
  none_depends h c = false_from_ne_true _ (λ t.
      let a = Any-from_list_any (λ m. among hash_cmp m.change.deps h) C t in
      go E (λ e ce. ce) c a.1 (a.0, a.2, a.3) a.4)
    where
      go : (F : List Member) → ((e : Member) → Contains F e → Contains E e) → Contains (hashes F) h → (m : Member) → Contains C m → among hash_cmp m.change.deps h ≡ true → ⊥
      go [] inside c m cm t = omega (arith, c.1)
      go (e ∷ F) inside (zero, l, is) m cm t = both_ways (among hash_cmp m.change.deps h) (subst (λ g. among hash_cmp m.change.deps g ≡ false) is (none_named m cm e (inside e (zero, omega arith, refl)))) t
      go (e ∷ F) inside (suc k, l, is) m cm t = go F (λ f cf. inside f (suc cf.0, (let l = cf.1 in omega arith), cf.2)) (k, omega arith, is) m cm t

  new_heads : filter (λ h. not (is_dependency (C ++ E) h)) (hashes E) ≡ filter (λ h. not (is_dependency E h)) (hashes E)
  new_heads = filter_within (λ h. not (is_dependency (C ++ E) h)) (λ h. not (is_dependency E h)) (hashes E) (λ h c. ap not (dependency_both h ∙ ap (λ b. b || is_dependency E h) (none_depends h c)))

  pub heads_grown : heads (C ++ E) ≡ merge hash_cmp (filter (λ h. not (is_dependency E h)) (heads C)) (heads E)
  heads_grown =
      let p : Hash → Bool = λ h. not (is_dependency (C ++ E) h) in
      let r : Hash → Bool = λ h. not (is_dependency E h) in
      ap (λ l. sorted_by hash_cmp (filter p l)) (map-append (λ (m : Member). m.hash) C E)
      ∙ ap (sorted_by hash_cmp) (filter-append p (hashes C) (hashes E) ∙ (λ i. old_heads i ++ new_heads i))
      ∙ sorted_by-merge hash_total (λ _. ⊤) (λ x y _ _ e. hash_exact x y e) (filter r (filter (λ h. not (is_dependency C h)) (hashes C)) ++ filter r (hashes E)) (filter r (filter (λ h. not (is_dependency C h)) (hashes C))) (filter r (hashes E)) (λ k d l. tt) (IsPermutation-refl _)
      ∙ ap (λ l. merge hash_cmp l (heads E)) (sym (filter-sorted_by hash_total r (filter (λ h. not (is_dependency C h)) (hashes C))))
