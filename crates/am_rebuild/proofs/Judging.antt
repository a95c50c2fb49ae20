-- What the steps of a judgement say.
use Rattle.std.proofs.Common.{ℕ, suc, ◌≡◌, List, [], ◌∷◌, length, filter, not, Bool, true, false, Some, refl, sym, ap, ◌∙◌, subst, inl, inr, All, Contains, IsTrue, arith}
use Rattle.std.specs.List.{AllByRecursion, IsDistinct}
use Rattle.std.specs.List.Sorted.{IsStrictlySortedBy}
use Rattle.std.specs.Ordering.{is_eq, is_gt}
use Rattle.std.specs.declared.cmp.Ordering.{Ordering}
use Rattle.std.specs.declared.cmp.Ordering.TheVariants.{Less, Equal, Greater}
use Rattle.std.proofs.lemmas.Bool.{both_ways, cases_Bool, false_from_ne_true}
use Rattle.std.proofs.lemmas.Cmp.{eq_by_cmp_equiv}
use Rattle.std.proofs.lemmas.Map.Keys.{IsDistinct-head, IsDistinct-tail, IsDistinct-IsPermutation}
use Rattle.am_types.specs.declared.Hash.{Hash}
use Rattle.am_types.specs.declared.Change.{Change}
use Rattle.am_types.specs.declared.Table.{Table}
use Rattle.am_types.specs.Order.{bytes_cmp, hash_cmp, among, Ascends}
use Rattle.am_types.specs.Operations.{all_operations}
use Rattle.am_types.specs.Members.{Member, changes, hashes, heads, is_dependency, DistinctHashes}
use Rattle.am_types.specs.Same.{same_hash}
use Rattle.am_types.specs.ValidSets.{Valid}
use Rattle.am_laws.proofs.Ancestry.{Contains-from_filter}
use Rattle.am_types.proofs.Orders.{hash_total, same_hash-true}
use Rattle.am_types.proofs.Rising.{Rises, Rises-sorted_by}
use Rattle.am_laws.proofs.Rules.{distinct_hashes}
use Rattle.am_types.proofs.Sorting.{IsPermutation-sorted_by}
use Rattle.am_histories.proofs.Contained.{Contains-from_map}
use Rattle.am_histories.proofs.Sorted.{Contains-here, Contains-there}
use Rattle.am_types.specs.Documents.{History}
use Rattle.am_histories.specs.Rebuilt.{rebuilt}
use Rattle.am_histories.specs.Laws.{AreHashedBy, table_actors}
use Rattle.am_histories.proofs.Building.{builds_end}
use Rattle.am_histories.proofs.Histories.{rebuilt_is}
use Rattle.am_histories.proofs.Sound.{are_hashed}
use Rattle.am_histories.proofs.Concluded.{no_history, other_rows, history}
use Rattle.am_rebuild.specs.Joined.{BuiltGapless, BuildsGapless}
use Rattle.am_rebuild.specs.Told.{TellsRest}
use Rattle.am_rebuild.specs.Judged.{first_apart, IsLeastApart, IsTheHistory}
use Rattle.am_rebuild.proofs.Agreeing.{rows_if, tells_if, passing_tells}
use Rattle.am_rebuild.proofs.Apart.{sorted_hashes, least_apart}

abbrev pub HasNone : (Change → Hash) → Table → Type 0
HasNone hash_of t = (C : List Member) → AreHashedBy hash_of C → History t C → ⊥

-- rows that are told for no count have no history
pub untold : (hash_of : Change → Hash) (t : Table) → ((n : ℕ) → TellsRest t.rows n → ⊥) → HasNone hash_of t
untold hash_of t f = no_history hash_of t (λ p. f (length (all_operations (changes (rebuilt hash_of t)))) (passing_tells hash_of t p))

module _ (hash_of : Change → Hash) (t : Table) (R : List Member) where
  pub unbuilt : (b : Bool) → BuildsGapless hash_of t R b → b ≡ false → HasNone hash_of t
  unbuilt true k e = absurd (both_ways true e refl)
  unbuilt false k e = no_history hash_of t k

  pub built : (b : Bool) → BuildsGapless hash_of t R b → b ≡ true → BuiltGapless hash_of t (length t.metas) R
  built true k e = k
  built false k e = absurd (both_ways false refl e)

  pub other : BuiltGapless hash_of t (length t.metas) R → (TellsRest t.rows (length (all_operations (changes R))) → ⊥) → HasNone hash_of t
  other b untold = no_history hash_of t (other_rows hash_of t R b.builds (λ e. untold (tells_if hash_of t R b e)))

  pub the_history : BuiltGapless hash_of t (length t.metas) R → TellsRest t.rows (length (all_operations (changes R))) → Ascends bytes_cmp t.actors → All (λ a. IsTrue (among bytes_cmp t.actors a)) (table_actors t) → IsTheHistory hash_of t R
  the_history b told ascend known =
      let is : rebuilt hash_of t ≡ R = (builds_end hash_of t (length t.metas) R b.builds refl).0 in
      record {
        history = history hash_of t R b.builds (rows_if hash_of t R b told) ascend known;
        hashed = subst (AreHashedBy hash_of) is (are_hashed hash_of t);
        one = λ C hashed h. sym (rebuilt_is hash_of t C hashed h) ∙ is;
      }

-- ---- heads ascend

same_flips : (x y : Hash) → same_hash x y ≡ same_hash y x
same_flips = (eq_by_cmp_equiv hash_total).symm

each_other : (x : Hash) (ys : List Hash) → ((y : Hash) → Contains ys y → x ≡ y → ⊥) → AllByRecursion (λ y. same_hash x y ≡ false) ys
each_other x [] f = tt
each_other x (y ∷ ys) f = (false_from_ne_true _ (λ t. f y (Contains-here y ys) (same_hash-true x y t)), each_other x ys (λ z c. f z (Contains-there y z ys c)))

kept_hashes : (p : Hash → Bool) (C : List Member) → DistinctHashes C → IsDistinct same_hash (filter p (hashes C))
unfolding IsDistinct
kept_hashes p [] d = tt
kept_hashes p (m ∷ C) d =
    let again : IsDistinct same_hash (filter p (hashes C)) = kept_hashes p C (λ i j n k l. d (suc i) (suc j) n (omega arith) (omega arith)) in
    let other : (h : Hash) → Contains (filter p (hashes C)) h → m.hash ≡ h → ⊥ = λ h c e.
    let n = Contains-from_map (λ (m : Member). m.hash) C h (Contains-from_filter p (hashes C) h c).0 in
    let k = n.1 in
    d 0 (suc k.0) n.0 (omega arith) (omega (arith, k.1)) (e ∙ sym n.2 ∙ ap (λ (z : Member). z.hash) (sym k.2)) in
    elim (cases_Bool (p m.hash)) [
      | inl e ↦ simp e (each_other m.hash (filter p (hashes C)) other, again)
      | inr e ↦ simp e again
    ]

below_next : (x y : Hash) → is_gt (hash_cmp x y) ≡ false → same_hash x y ≡ false → hash_cmp x y ≡ Less
below_next x y g n = go (hash_cmp x y) refl
  where
    go : (o : Ordering) → hash_cmp x y ≡ o → hash_cmp x y ≡ Less
    go Less e = e
    go Equal e = absurd (both_ways (same_hash x y) n (ap is_eq e))
    go Greater e = absurd (both_ways (is_gt (hash_cmp x y)) g (ap is_gt e))

strictly : (xs : List Hash) → Rises hash_total xs → IsDistinct same_hash xs → IsStrictlySortedBy hash_cmp xs
unfolding IsStrictlySortedBy
strictly [] r d = tt
strictly (x ∷ xs) r d = (each xs r.0 (IsDistinct-head same_hash x xs d), strictly xs r.1 (IsDistinct-tail same_hash x xs d))
  where
    each : (ys : List Hash) → AllByRecursion (λ y. is_gt (hash_cmp x y) ≡ false) ys → AllByRecursion (λ y. same_hash x y ≡ false) ys → AllByRecursion (λ y. hash_cmp x y ≡ Less) ys
    each [] a b = tt
    each (y ∷ ys) a b = (below_next x y a.0 b.0, each ys a.1 b.1)

heads_sorted : (C : List Member) → Valid C → IsStrictlySortedBy hash_cmp (heads C)
heads_sorted C v =
    let kept : List Hash = filter (λ h. not (is_dependency C h)) (hashes C) in
    strictly (heads C) (Rises-sorted_by hash_total kept)
    (IsDistinct-IsPermutation same_hash same_flips kept (heads C) (IsPermutation-sorted_by hash_cmp kept) (kept_hashes (λ h. not (is_dependency C h)) C (distinct_hashes C v)))

pub apart_heads : (R : List Member) → Valid R → (found stated : List Hash) (h : Hash) → found ≡ heads R → Ascends hash_cmp stated → first_apart found stated ≡ Some h → IsLeastApart (heads R) stated h
apart_heads R v found stated h e s f = least_apart (heads R) stated (heads_sorted R v) (sorted_hashes stated s) h (ap (λ l. first_apart l stated) (sym e) ∙ f)
