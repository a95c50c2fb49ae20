-- What `put` of lru leaves: the new pair, and the first of the others.
use Rattle.std.proofs.Common.{◌≡◌, ℕ, ◌+◌, ◌-◌, ◌≤◌, Bool, true, false, List, [], ◌∷◌, length, take, Option, Some, None, take_all, add-one, sub-one, refl, ap, arith}
use Rattle.std.specs.Option.{option_map_or}
use Rattle.std.specs.Map.{lookup_entry, remove_entry}
use Rattle.lru.specs.LruCache.{LruCache, put_entries}
use Rattle.lru.proofs.CallerLemmas.{Contains-lookup_entry}

module _ {K V : Type 0} (test : K → Bool) where
  remove_absent : (es : List (K × V)) → lookup_entry test es ≡ None → remove_entry test es ≡ es
  remove_absent [] h = refl
  remove_absent (e ∷ es) h = (elim (test e.0) as (λ y. test e.0 ≡ y → remove_entry test (e ∷ es) ≡ e ∷ es) [
    | true ↦ λ t. let h' = rw t at h in cc
    | false ↦ λ t. rw t (ap (λ r. e ∷ r) (remove_absent es (rw t at h)))
  ]) refl

  shorter : (es : List (K × V)) (e : K × V) → lookup_entry test es ≡ Some e → length (remove_entry test es) + 1 ≡ length es
  shorter [] e h = cc
  shorter (f ∷ es) e h = (elim (test f.0) as (λ y. test f.0 ≡ y → length (remove_entry test (f ∷ es)) + 1 ≡ length (f ∷ es)) [
    | true ↦ λ t. rw t (omega arith)
    | false ↦ λ t. let r = shorter es e (rw t at h) in rw t (omega (arith, r))
  ]) refl

module _ {K V : Type 0} (eq : K → K → Bool) (same : (x y : K) → eq x y ≡ true → x ≡ y) (c : LruCache K V) (k : K) (v : V) where
  put_cases : (n : ℕ) → c.cap ≡ n + 1 → length c.entries ≤ n + 1 → (o : Option (K × V)) → lookup_entry (eq k) c.entries ≡ o
      → option_map_or (λ e. (e.0, v) ∷ remove_entry (eq k) c.entries) o ((k, v) ∷ take (c.cap - 1) c.entries) ≡ take (n + 1) ((k, v) ∷ remove_entry (eq k) c.entries)
  put_cases n most fits None h = rw (most, remove_absent (eq k) c.entries h, add-one, sub-one) refl
  put_cases n most fits (Some e) h =
      let is : k ≡ e.0 = same k e.0 (Contains-lookup_entry (eq k) c.entries e h).1 in
      let fits2 : length ((k, v) ∷ remove_entry (eq k) c.entries) ≤ n + 1 = omega (arith, shorter (eq k) c.entries e h) in
      rw (← is) (rw take_all refl)

  -- what `put` leaves, where at most n + 1 entries are kept
  pub put_entries-take : (n : ℕ) → c.cap ≡ n + 1 → length c.entries ≤ n + 1 → put_entries eq c k v ≡ take (n + 1) ((k, v) ∷ remove_entry (eq k) c.entries)
  put_entries-take n most fits = put_cases n most fits (lookup_entry (eq k) c.entries) refl
