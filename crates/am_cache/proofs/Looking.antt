-- What a look and a put leave of a cache, by the tests of lru.
use Rattle.std.proofs.Common.{◌≡◌, ℕ, ◌+◌, ◌-◌, ◌^◌, ◌≤◌, min, cond, List, ◌∷◌, length, take, Option, Some, None, is_some, option_map, refl, sym, ap, ◌∙◌, subst}
use Rattle.std.specs.Option.{option_map_or}
use Rattle.std.specs.Map.{lookup, lookup_entry, remove_entry}
use Rattle.lru.specs.LruCache.{LruCache, promoted, put_entries}
use Rattle.lru.proofs.CallerLemmas.{Contains-lookup_entry}
use Rattle.lru.proofs.Pairs.{lookup-lookup_entry}
use Rattle.am_cache.specs.declared.view.View.{View}
use Rattle.am_cache.specs.contracts.view.ViewPartialEq.TheImpl.{eq-value}
use Rattle.am_cache.specs.Views.{same_view}
use Rattle.am_cache.specs.Kept.{kept, others, looked_up, with_text}
use Rattle.am_cache.proofs.Same.{same_test, same_is, view_Decides}
use Rattle.am_cache.proofs.Keeping.{put_entries-take}

module _ (v : View) (es : List (View × List ℕ)) (n : ℕ) where
  by_entry : (o : Option (View × List ℕ)) → lookup_entry (same_view v) es ≡ o
      → looked_up v (kept es n) ≡ kept (option_map_or (λ e. e ∷ others v es) o es) (cond (is_some (lookup (same_view v) es)) (min (n + 1) (2 ^ 64 - 1)) n)
  by_entry None h =
      let none : lookup (same_view v) es ≡ None = sym (lookup-lookup_entry (same_view v) es) ∙ ap (option_map (λ e. e.1)) h in
      rw none refl
  by_entry (Some e) h =
      let some : lookup (same_view v) es ≡ Some e.1 = sym (lookup-lookup_entry (same_view v) es) ∙ ap (option_map (λ e. e.1)) h in
      let is : v ≡ e.0 = same_is v e.0 (Contains-lookup_entry (same_view v) es e h).1 in
      rw some (ap (λ w. kept ((w, e.1) ∷ others v es) (min (n + 1) (2 ^ 64 - 1))) is)

  -- a look, by the equality of views that is derived
  pub looked_up_test : looked_up v (kept es n) ≡ kept (promoted (eq-value.it v) es) (cond (is_some (lookup (eq-value.it v) es)) (min (n + 1) (2 ^ 64 - 1)) n)
  looked_up_test =
      subst (λ test. looked_up v (kept es n) ≡ kept (promoted test es) (cond (is_some (lookup test es)) (min (n + 1) (2 ^ 64 - 1)) n))
      (sym (same_test v)) (by_entry (lookup_entry (same_view v) es) refl)

-- a put, by the same equality
pub with_text-test : (v : View) (text : List ℕ) (c : LruCache View (List ℕ)) (n : ℕ) → c.cap ≡ 16 → length c.entries ≤ 16
    → with_text v text (kept c.entries n) ≡ kept (put_entries eq-value.it c v text) n
with_text-test v text c n most few =
    subst (λ test. kept (take 16 ((v, text) ∷ remove_entry test c.entries)) n ≡ kept (put_entries eq-value.it c v text) n) (same_test v)
    (ap (λ es. kept es n) (sym (put_entries-take eq-value.it (λ x y. (view_Decides x y).0) c v text 15 most few)))
