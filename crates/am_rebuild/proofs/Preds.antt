-- The preds of a group that names the id once, or never.
use Rattle.std.proofs.Common.{◌≡◌, ◌≤◌, List, [], ◌∷◌, length, map, filter, not, Bool, Some, None, option_map, refl, sym, ap, ◌∙◌, inl, inr, arith}
use Rattle.std.specs.List.{find}
use Rattle.std.proofs.lemmas.Bool.{cases_Bool}
use Rattle.am_types.specs.declared.Row.{Row}
use Rattle.am_histories.specs.Rebuilt.{each_once}
use Rattle.am_rebuild.specs.Mentions.{Mention, group_preds}

abbrev is_named : Mention → Bool
is_named n = not n.own

abbrev row_of : Mention → Row
row_of n = n.row

none_named : (g : List Mention) → None ≡ option_map row_of (find is_named g) → filter is_named g ≡ []
none_named [] e = refl
none_named (n ∷ g) e = elim (cases_Bool (is_named n)) [
  | inl t ↦ let f : None ≡ Some (row_of n) = e ∙ simp t refl in cc
  | inr t ↦ simp t (none_named g (e ∙ simp t refl))
]

no_more : (g : List Mention) → length (filter is_named g) ≡ 0 → filter is_named g ≡ []
no_more g e = empty (filter is_named g) e
  where
    empty : (l : List Mention) → length l ≡ 0 → l ≡ []
    empty [] e = refl
    empty (x ∷ l) e = absurd (omega arith)

one_named : (g : List Mention) (r : Row) → Some r ≡ option_map row_of (find is_named g) → length (filter is_named g) ≤ 1 → map (λ n. n.row.id) (filter is_named g) ≡ r.id ∷ []
one_named [] r e l = let f : Some r ≡ None = e in cc
one_named (n ∷ g) r e l = elim (cases_Bool (is_named n)) [
  | inl t ↦
      let f : Some r ≡ Some (row_of n) = e ∙ simp t refl in
      let g_is : r ≡ row_of n = cc in
      let short : length (n ∷ filter is_named g) ≤ 1 = simp t at l in
      let rest = no_more g (omega arith) in
      simp (t, rest) (ap (λ (x : Row). x.id ∷ []) (sym g_is))
  | inr t ↦
      let f : Some r ≡ option_map row_of (find is_named g) = e ∙ simp t refl in
      let short : length (filter is_named g) ≤ 1 = simp t at l in
      simp t (one_named g r f short)
]

pub no_preds : (g : List Mention) → None ≡ option_map row_of (find is_named g) → [] ≡ group_preds g
no_preds g e = sym (ap (λ l. each_once (map (λ (n : Mention). n.row.id) l)) (none_named g e))

pub one_pred : (g : List Mention) (r : Row) → Some r ≡ option_map row_of (find is_named g) → length (filter is_named g) ≤ 1 → r.id ∷ [] ≡ group_preds g
one_pred g r e l = sym (ap each_once (one_named g r e l))
