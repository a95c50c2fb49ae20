-- Where the members of a larger set stand, those of the smaller set first.
use Rattle.std.proofs.Common.{ℕ, zero, suc, ◌≡◌, ◌+◌, ◌<◌, ◌≤◌, List, [], ◌∷◌, ◌++◌, length, map, get_or, true, false, Bor, Option, Some, None, option_map, slice_get, refl, sym, ap, ◌∙◌, subst, Contains, arith}
use Rattle.std.specs.Option.{MatchOption, IfSome, option_copied}
use Rattle.std.proofs.lemmas.Bool.{false_from_ne_true}
use Rattle.std.proofs.lemmas.List.{length-map, get_or-map}
use Rattle.std.proofs.lemmas.Option.{slice_get-map, slice_get_within, get_or_from_slice_get, slice_get-get_or, slice_get_past}
use Rattle.am_types.specs.declared.Hash.{Hash}
use Rattle.am_types.specs.declared.Change.{Change}
use Rattle.am_types.specs.Order.{hash_cmp, same}
use Rattle.am_types.specs.Members.{Member, changes, hashes, holds, member, DistinctHashes}
use Rattle.am_types.specs.ValidSets.{Valid}
use Rattle.am_types.proofs.Orders.{same_hash-true, same_hash_itself}
use Rattle.am_laws.proofs.Listed.{holds_own}
use Rattle.am_laws.proofs.Rules.{distinct_hashes}
use Rattle.am_merge.specs.ChangeRows.{turn}
use Rattle.am_merge.proofs.Larger.{one_apart}

-- ---- places in two lists

at_front : {X : Type 0} (xs ys : List X) (k : ℕ) → k < length xs → slice_get (xs ++ ys) k ≡ slice_get xs k
at_front [] ys k l = absurd (omega arith)
at_front (x ∷ xs) ys zero l = refl
at_front (x ∷ xs) ys (suc k) l = at_front xs ys k (omega arith)

at_back : {X : Type 0} (xs ys : List X) (k j : ℕ) → k ≡ length xs + j → slice_get (xs ++ ys) k ≡ slice_get ys j
at_back [] ys k j e = ap (slice_get ys) (let is : k ≡ j = omega arith in is)
at_back (x ∷ xs) ys zero j e = absurd (omega arith)
at_back (x ∷ xs) ys (suc k) j e = at_back xs ys k j (omega arith)

is_in : {X : Type 0} (xs : List X) (k : ℕ) (x : X) → slice_get xs k ≡ Some x → Contains xs x
is_in xs k x e = (k, slice_get_within xs k x e, get_or_from_slice_get xs k x x e)

-- ---- look-ups

member_at : (D : List Member) → DistinctHashes D → (k : ℕ) (m : Member) → slice_get D k ≡ Some m → member D m.hash ≡ Some m
member_at [] d k m e = absurd (none e)
  where
    none : slice_get {X = Member} [] k ≡ Some m → ⊥
    none e = cc
member_at (n ∷ D) d zero m e =
    let is : n ≡ m = cc in
    let same : same hash_cmp m.hash n.hash ≡ true = subst (λ (k : Member). same hash_cmp m.hash k.hash ≡ true) (sym is) (same_hash_itself m.hash) in
    simp same (ap (λ x. Some x) is)
member_at (n ∷ D) d (suc k) m e =
    let there : slice_get D k ≡ Some m = e in
    let l = slice_get_within D k m there in
    let apart : same hash_cmp m.hash n.hash ≡ false = false_from_ne_true _ (λ t.
    d 0 (suc k) n (omega arith) (omega arith) (sym (same_hash-true m.hash n.hash t) ∙ ap (λ (x : Member). x.hash) (sym (get_or_from_slice_get D k m n there)))) in
    let again : member D m.hash ≡ Some m = member_at D (λ i j x p q. d (suc i) (suc j) x (omega arith) (omega arith)) k m there in
    simp apart again

module _ (C E : List Member) (v : Valid C) (w : Valid (C ++ E)) (m : Member) (c : Contains (C ++ E) m) where
  found : member (C ++ E) m.hash ≡ Some m
  found = member_at (C ++ E) (distinct_hashes (C ++ E) w) c.0 m (slice_get-get_or (C ++ E) c.0 m c.1 ∙ ap (λ x. Some x) c.2)

  -- what a place says of the member
  pub there : (place : ℕ) → member (C ++ E) m.hash ≡ slice_get (C ++ E) place → slice_get (C ++ E) place ≡ Some m
  there place e = sym e ∙ found

  pub never : member (C ++ E) m.hash ≡ None → ⊥
  never e = none (sym found ∙ e)
    where
      none : Some m ≡ None → ⊥
      none e = cc

  pub old_turn : (place : ℕ) → place < length C → slice_get (C ++ E) place ≡ Some m → turn C m ≡ None
  old_turn place l e =
      let own : holds C m.hash ≡ true = holds_own C m (is_in C place m (sym (at_front C E place l) ∙ e)) in
      simp own refl

  pub new_turn : (place j : ℕ) → place ≡ length C + j → slice_get (C ++ E) place ≡ Some m → (slice_get E j ≡ Some m) × (turn C m ≡ Some m.change)
  new_turn place j is e =
      let at : slice_get E j ≡ Some m = sym (at_back C E place j is) ∙ e in
      let apart : holds C m.hash ≡ false = one_apart C E v w m (is_in E j m at) in
      (at, simp apart refl)

-- the added change at the place of its member
pub added_at : (E : List Member) (cs : List (Bor Change)) → changes E ≡ map (λ (c : Bor Change). c.now) cs → (j : ℕ) (m : Member) → slice_get E j ≡ Some m → option_map (λ (c : Bor Change). c.now) (slice_get cs j) ≡ Some m.change
added_at E cs are j m e =
    sym (slice_get-map (λ (c : Bor Change). c.now) cs j) ∙ ap (λ l. slice_get l j) (sym are) ∙ slice_get-map (λ (m : Member). m.change) E j ∙ ap (option_map (λ (m : Member). m.change)) e

-- what is read at a place
pub got_at : {X : Type 0} (xs : List X) (j : ℕ) (r : Option (Bor X)) (P : Bor X → Type 0) → IfSome r (λ x. x.now ≡ get_or xs j x.now) → MatchOption r (length xs ≤ j) (λ x. (j < length xs) × P x) → option_copied r ≡ slice_get xs j
got_at xs j None P is at = sym (slice_get_past xs j at)
got_at xs j (Some x) P is at = sym (slice_get-get_or xs j x.now at.0 ∙ ap (λ y. Some y) (sym is))

-- ---- one turn more

pub hash_at : (M : List Member) (hs : List Hash) → hs ≡ hashes M → (i : ℕ) (d : Member) (h : Hash) → i < length hs → get_or hs i h ≡ (get_or M i d).hash
hash_at M hs e i d h l =
    let long : length hs ≡ length M = ap length e ∙ length-map M (λ (m : Member). m.hash) in
    ap (λ l. get_or l i h) e ∙ get_or-map (λ (m : Member). m.hash) M i d h (omega arith)
