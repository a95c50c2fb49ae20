-- A view stays while at most fifteen others are used.
use Rattle.std.proofs.Common.{◌≡◌, ℕ, zero, suc, ◌+◌, ◌≤◌, true, false, List, [], ◌∷◌, ◌++◌, length, take, Contains, All, Option, Some, None, refl, sym, ap, ◌∙◌, subst, true≢false, inl, inr, arith}
use Rattle.std.specs.Bool.{⊤}
use Rattle.std.specs.Map.{lookup}
use Rattle.std.proofs.lemmas.List.Elements.{All-head, All-tail}
use Rattle.lru.proofs.Splits.{Contains-head, Contains-tail, Contains-cons, Contains-nil}
use Rattle.am_cache.specs.declared.view.View.{View}
use Rattle.am_cache.specs.Views.{same_view}
use Rattle.am_cache.specs.Kept.{Kept, kept, others, text_of, looked_up, with_text}
use Rattle.am_cache.specs.Uses.{Use, look, put, after, IsAmong, StaysAmongFifteen}
use Rattle.am_cache.proofs.Same.{same_is, same_itself}

abbrev pub Pairs : Type 0
Pairs = List (View × List ℕ)

-- no pair is of w
abbrev pub IsNew : View → Pairs → Type 0
IsNew w [] = ⊤
IsNew w (e ∷ es) = (same_view w e.0 ≡ false) × IsNew w es

-- pairs of distinct views among vs
abbrev AreAhead : List View → Pairs → Type 0
AreAhead vs [] = ⊤
AreAhead vs (e ∷ es) = Contains vs e.0 × IsNew e.0 es × AreAhead vs es

-- without one of them
cut : (vs : List View) (w : View) → Contains vs w → (us : List View) × (length us + 1 ≡ length vs) × ((x : View) → Contains vs x → same_view w x ≡ false → Contains us x)
cut [] w c = absurd (Contains-nil w c)
cut (y ∷ ys) w c = elim (Contains-cons y ys w c) [
  | inl is ↦ (
    ys,
    omega arith,
    λ x d ne. elim (Contains-cons y ys x d) [
      | inl same ↦ absurd (true≢false (sym (same_itself w) ∙ ap (same_view w) (sym is ∙ same) ∙ ne))
      | inr e ↦ e
    ],
  )
  | inr on ↦ let less = cut ys w on in (
    y ∷ less.0,
    omega (arith, less.1),
    λ x d ne. elim (Contains-cons y ys x d) [
      | inl same ↦ subst (Contains (y ∷ less.0)) same (Contains-head y less.0)
      | inr e ↦ Contains-tail y less.0 x (less.2 x e ne)
    ],
  )
]

ahead_of : (vs us : List View) (w : View) (es : Pairs) → ((x : View) → Contains vs x → same_view w x ≡ false → Contains us x) → IsNew w es → AreAhead vs es → AreAhead us es
ahead_of vs us w [] into new a = tt
ahead_of vs us w (e ∷ es) into new a = (into e.0 a.0 new.0, a.1, ahead_of vs us w es into new.1 a.2)

-- no more than there are
few : (vs : List View) (es : Pairs) → AreAhead vs es → length es ≤ length vs
few vs [] a = omega arith
few vs (e ∷ es) a = let less = cut vs e.0 a.0 in omega (arith, less.1, few less.0 es (ahead_of vs less.0 e.0 es less.2 a.1 a.2))

take_past : (n : ℕ) (qs : Pairs) (e : View × List ℕ) (rest : Pairs) → length qs ≤ n → (rs : Pairs) × (take (suc n) (qs ++ e ∷ rest) ≡ qs ++ e ∷ rs)
take_past n [] e rest h = (take n rest, refl)
take_past zero (q ∷ qs) e rest h = absurd (omega (arith, h))
take_past (suc n) (q ∷ qs) e rest h = let on = take_past n qs e rest (omega (arith, h)) in (on.0, ap (λ l. q ∷ l) on.1)

module _ (v : View) (text : List ℕ) (vs : List View) (other : Contains vs v → ⊥) where
  not_it : (w : View) → Contains vs w → same_view v w ≡ false
  not_it w c = (elim (same_view v w) as (λ y. same_view v w ≡ y → same_view v w ≡ false) [
    | true ↦ λ t. absurd (other (subst (Contains vs) (sym (same_is v w t)) c))
    | false ↦ λ t. t
  ]) refl

  not_from : (w : View) → Contains vs w → same_view w v ≡ false
  not_from w c = (elim (same_view w v) as (λ y. same_view w v ≡ y → same_view w v ≡ false) [
    | true ↦ λ t. absurd (other (subst (Contains vs) (same_is w v t) c))
    | false ↦ λ t. t
  ]) refl

  found_behind : (pre rest : Pairs) → AreAhead vs pre → lookup (same_view v) (pre ++ (v, text) ∷ rest) ≡ Some text
  found_behind [] rest a = rw (same_itself v) refl
  found_behind (e ∷ pre) rest a = rw (not_it e.0 a.0) (found_behind pre rest a.2)

  -- what is left when w is taken out
  record IsLeft (w : View) (pre rest : Pairs) : Type 0 where
    first : Pairs
    then_ : Pairs
    left : others w (pre ++ (v, text) ∷ rest) ≡ first ++ (v, text) ∷ then_
    ahead : AreAhead vs first
    new : IsNew w first
    fresh : (x : View) → IsNew x pre → IsNew x first

  leaves : (w : View) → same_view w v ≡ false → (pre rest : Pairs) → AreAhead vs pre → IsLeft w pre rest
  leaves w ne [] rest a = record { first = []; then_ = others w rest; left = rw ne refl; ahead = tt; new = tt; fresh = λ x n. tt }
  leaves w ne (e ∷ pre) rest a = (elim (same_view w e.0) as (λ y. same_view w e.0 ≡ y → IsLeft w (e ∷ pre) rest) [
    | true ↦ λ t. record { first = pre; then_ = rest; left = rw t refl; ahead = a.2; new = subst (λ x. IsNew x pre) (sym (same_is w e.0 t)) a.1; fresh = λ x n. n.1 }
    | false ↦ λ t. let on = leaves w ne pre rest a.2 in record {
      first = e ∷ on.first;
      then_ = on.then_;
      left = rw t (ap (λ l. e ∷ l) on.left);
      ahead = (a.0, on.fresh e.0 a.1, on.ahead);
      new = (t, on.new);
      fresh = λ x n. (n.0, on.fresh x n.1);
    }
  ]) refl

  -- v stands behind others alone
  abbrev IsBehind : Kept → Type 0
  IsBehind c = (pre : Pairs) × (rest : Pairs) × (c.views ≡ pre ++ (v, text) ∷ rest) × AreAhead vs pre

  text_behind : (c : Kept) → IsBehind c → text_of v c ≡ Some text
  text_behind c b = ap (lookup (same_view v)) b.2 ∙ found_behind b.0 b.1 b.3

  look_it : (c : Kept) → IsBehind c → IsBehind (looked_up v c)
  look_it c b = rw (text_behind c b) ([], others v c.views, refl, tt)

  look_other : (w : View) (c : Kept) (o : Option (List ℕ)) → text_of w c ≡ o → Contains vs w → IsBehind c → IsBehind (looked_up w c)
  look_other w c None h is b = rw h b
  look_other w c (Some t) h is b =
      let l = leaves w (not_from w is) b.0 b.1 b.3 in
      rw h ((w, t) ∷ l.first, l.then_, ap (λ es. (w, t) ∷ es) (ap (others w) b.2 ∙ l.left), (is, l.new, l.ahead))

  put_other : length vs ≤ 15 → (w : View) (t : List ℕ) (c : Kept) → Contains vs w → IsBehind c → IsBehind (with_text w t c)
  put_other most w t c is b =
      let l = leaves w (not_from w is) b.0 b.1 b.3 in
      let ahead : AreAhead vs ((w, t) ∷ l.first) = (is, l.new, l.ahead) in
      let past = take_past 15 ((w, t) ∷ l.first) (v, text) l.then_ (omega (arith, most, few vs ((w, t) ∷ l.first) ahead)) in
      ((w, t) ∷ l.first, past.0, ap (λ es. take 16 ((w, t) ∷ es)) (ap (others w) b.2 ∙ l.left) ∙ past.1, ahead)

  stays : length vs ≤ 15 → (uses : List Use) (c : Kept) → IsBehind c → All (IsAmong v vs) uses → text_of v (after uses c) ≡ Some text
  unfolding after
  stays most [] c b all = text_behind c b
  stays most (look w ∷ uses) c b all =
      let next : IsBehind (looked_up w c) = elim (Contains-cons v vs w (All-head (IsAmong v vs) (look w) uses all)) [
        | inl is ↦ subst (λ x. IsBehind (looked_up x c)) is (look_it c b)
        | inr on ↦ look_other w c (text_of w c) refl on b
      ] in
      stays most uses (looked_up w c) next (All-tail (IsAmong v vs) (look w) uses all)
  stays most (put w t ∷ uses) c b all =
      stays most uses (with_text w t c) (put_other most w t c (All-head (IsAmong v vs) (put w t) uses all) b) (All-tail (IsAmong v vs) (put w t) uses all)

pub stays_among_fifteen : StaysAmongFifteen
stays_among_fifteen v text rest hits vs uses most other all = stays v text vs other most uses (kept ((v, text) ∷ rest) hits) ([], rest, refl, tt) all
