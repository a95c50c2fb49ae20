-- What making changes keeps.
use Rattle.std.proofs.Common.{◌≡◌, ◌≢◌, ◌≤◌, ◌<◌, ◌+◌, ◌-◌, ◌*◌, ◌==◌, ℕ, zero, suc, List, [], ◌∷◌, ◌++◌, Bool, true, false, length, refl, sym, subst, ap, ◌∙◌, arith}
use Rattle.std.specs.Prelude.{if◌then◌else◌}
use Rattle.std.specs.List.{All}
use Rattle.std.specs.BTreeSet.{insert_key}
use Rattle.std.proofs.lemmas.Bool.{ne_eqb}
use Rattle.std.proofs.lemmas.List.Elements.{All-nil, All-cons, All-push}
use Rattle.std.proofs.lemmas.Map.Views.{All-insert_key}
use Rattle.am_types.specs.declared.Hash.{Hash}
use Rattle.am_types.specs.declared.Change.{Change}
use Rattle.am_types.specs.Bytes.{IsHash}
use Rattle.am_types.specs.Fine.{Fine}
use Rattle.am_types.specs.Order.{hash_cmp}
use Rattle.am_change.specs.Hashes.{own_hash}
use Rattle.am_gen.specs.Made.{first, in_round, made_from, made}
use Rattle.am_gen.proofs.Fineness.{fine_first, fine_in_round}
use Rattle.am_gen.proofs.Rounds.{Sorted, none_sorted, one_sorted, insert_sorted, insert_short, ascend}

joined : (xs : List Change) (x : Change) (ys : List Change) → xs ++ x ∷ ys ≡ (xs ++ x ∷ []) ++ ys
joined [] x ys = refl
joined (z ∷ xs) x ys = ap (λ t. z ∷ t) (joined xs x ys)

all_of : (xs : List Change) → xs ++ [] ≡ xs
all_of [] = refl
all_of (z ∷ xs) = ap (λ t. z ∷ t) (all_of xs)

-- the next changes, after which the round is over, or not
abbrev rest_by : ℕ → ℕ → List Hash → List Hash → ℕ → Bool → List Change
rest_by r j before with_this m over = if over then made_from (r + 1) 0 with_this [] m else made_from r (j + 1) before with_this m

step : (r j : ℕ) (before here : List Hash) (m : ℕ) (over : Bool) → (j == 2) ≡ over
    → made_from r j before here (suc m) ≡ in_round r j before ∷ rest_by r j before (insert_key hash_cmp here (own_hash (in_round r j before))) m over
unfolding made_from
step r j before here m over e = ap (λ b. in_round r j before ∷ rest_by r j before (insert_key hash_cmp here (own_hash (in_round r j before))) m b) e

no_more : (r j : ℕ) (before here : List Hash) → made_from r j before here zero ≡ []
unfolding made_from
no_more r j before here = refl

pub record Kept (n k r j : ℕ) (before here : List Hash) (changes : List Change) : Type 0 where
  pub list : made n ≡ changes ++ made_from r j before here (n - k)
  pub fine : All Fine changes
  pub before_are : All IsHash before
  pub here_are : All IsHash here
  pub before_sorted : Sorted before
  pub here_sorted : Sorted here
  pub before_short : length before ≤ 3
  pub here_short : length here ≤ j
  pub three : j ≤ 2
  pub some : 1 ≤ r
  pub low : 1 ≤ k
  pub high : k ≤ n
  pub rounds : 3 * r + j ≤ k + 2
  pub few : n ≤ 100000

pub kept_first : (n : ℕ) → 1 ≤ n → n ≤ 100000 → IsHash (own_hash first) → Kept n 1 1 0 (own_hash first ∷ []) [] (first ∷ [])
kept_first zero some few is = absurd (omega arith)
kept_first (suc m) some few is =
    let e : suc m - 1 ≡ m = omega arith in record {
      list = ap (λ t. first ∷ made_from 1 0 (own_hash first ∷ []) [] t) (sym e);
      fine = All-cons Fine first [] fine_first (All-nil Fine);
      before_are = All-cons IsHash (own_hash first) [] is (All-nil IsHash);
      here_are = All-nil IsHash;
      before_sorted = one_sorted (own_hash first);
      here_sorted = none_sorted;
      before_short = omega arith;
      here_short = omega arith;
      three = omega arith;
      some = omega arith;
      low = omega arith;
      high = omega arith;
      rounds = omega arith;
      few = few;
    }

module _ (n k r j : ℕ) (before here : List Hash) (changes : List Change) (kept : Kept n k r j before here changes) (more : k < n) where
  few_rounds : r ≤ 100000
  few_rounds = let a = kept.rounds in let b = kept.few in omega arith

  pub kept_fine : Fine (in_round r j before)
  kept_fine = fine_in_round r j before kept.some few_rounds kept.before_are (ascend before kept.before_sorted) kept.before_short

  with_this : List Hash
  with_this = insert_key hash_cmp here (own_hash (in_round r j before))

  grown : All Fine (changes ++ in_round r j before ∷ [])
  grown = All-push Fine changes (in_round r j before) kept.fine kept_fine

  pub kept_turn : j ≡ 2 → IsHash (own_hash (in_round r j before)) → Kept n (k + 1) (r + 1) 0 (insert_key hash_cmp here (own_hash (in_round r j before))) [] (changes ++ in_round r j before ∷ [])
  kept_turn two is =
      let e : n - k ≡ suc (n - (k + 1)) = omega arith in
      let turns : (j == 2) ≡ true = rw two refl in
      let a = kept.rounds in let b = kept.low in let c = kept.few in let d = kept.here_short in
      let short = insert_short (own_hash (in_round r j before)) here in record {
        list = kept.list ∙ (ap (λ t. changes ++ made_from r j before here t) e ∙ (ap (λ t. changes ++ t) (step r j before here (n - (k + 1)) true turns) ∙ joined changes (in_round r j before) _));
        fine = grown;
        before_are = All-insert_key hash_cmp (own_hash (in_round r j before)) IsHash here kept.here_are is;
        here_are = All-nil IsHash;
        before_sorted = insert_sorted (own_hash (in_round r j before)) here kept.here_sorted;
        here_sorted = none_sorted;
        before_short = omega arith;
        here_short = omega arith;
        three = omega arith;
        some = omega arith;
        low = omega arith;
        high = omega arith;
        rounds = omega arith;
        few = kept.few;
      }

  pub kept_next : j ≢ 2 → IsHash (own_hash (in_round r j before)) → Kept n (k + 1) r (j + 1) before (insert_key hash_cmp here (own_hash (in_round r j before))) (changes ++ in_round r j before ∷ [])
  kept_next other is =
      let e : n - k ≡ suc (n - (k + 1)) = omega arith in
      let stays : (j == 2) ≡ false = ne_eqb j 2 other in
      let a = kept.rounds in let b = kept.low in let c = kept.few in let d = kept.here_short in let t = kept.three in
      let short = insert_short (own_hash (in_round r j before)) here in record {
        list = kept.list ∙ (ap (λ t. changes ++ made_from r j before here t) e ∙ (ap (λ t. changes ++ t) (step r j before here (n - (k + 1)) false stays) ∙ joined changes (in_round r j before) _));
        fine = grown;
        before_are = kept.before_are;
        here_are = All-insert_key hash_cmp (own_hash (in_round r j before)) IsHash here kept.here_are is;
        before_sorted = kept.before_sorted;
        here_sorted = insert_sorted (own_hash (in_round r j before)) here kept.here_sorted;
        before_short = kept.before_short;
        here_short = omega arith;
        three = omega arith;
        some = kept.some;
        low = omega arith;
        high = omega arith;
        rounds = omega arith;
        few = kept.few;
      }

pub kept_end : (n k r j : ℕ) (before here : List Hash) (changes : List Change) → Kept n k r j before here changes → n ≤ k → changes ≡ made n
kept_end n k r j before here changes kept done =
    let e : n - k ≡ zero = omega arith in
    sym (kept.list ∙ (ap (λ t. changes ++ made_from r j before here t) e ∙ (ap (λ t. changes ++ t) (no_more r j before here) ∙ all_of changes)))

-- ---- the same, over what the code holds

pub kept_start : (n : ℕ) (start : Change) (digest : Hash) (before here : List Hash) (changes : List Change)
    → 1 ≤ n → n ≤ 100000 → start ≡ first → digest ≡ own_hash start → IsHash digest → before ≡ digest ∷ [] → here ≡ [] → changes ≡ start ∷ []
    → Kept n 1 1 0 before here changes
kept_start n start digest before here changes some few start_is digest_is is before_is here_is changes_is =
    let digest_first : digest ≡ own_hash first = digest_is ∙ ap own_hash start_is in
    let now : Kept n 1 1 0 (own_hash first ∷ []) [] (first ∷ []) = kept_first n some few (subst IsHash digest_first is) in
    let b : before ≡ own_hash first ∷ [] = before_is ∙ ap (λ t. t ∷ []) digest_first in
    let c : changes ≡ first ∷ [] = changes_is ∙ ap (λ t. t ∷ []) start_is in
    subst (λ t. Kept n 1 1 0 t here changes) (sym b) (subst (λ t. Kept n 1 1 0 (own_hash first ∷ []) t changes) (sym here_is) (subst (λ t. Kept n 1 1 0 (own_hash first ∷ []) [] t) (sym c) now))

module _ (n k r j : ℕ) (before here : List Hash) (changes : List Change) (kept : Kept n k r j before here changes) (more : k < n)
    (change : Change) (digest : Hash) (with_this : List Hash) (grown : List Change)
    (change_is : change ≡ in_round r j before) (digest_is : digest ≡ own_hash change) (is : IsHash digest)
    (with_is : with_this ≡ insert_key hash_cmp here digest) (grown_is : grown ≡ changes ++ change ∷ []) where
  named : digest ≡ own_hash (in_round r j before)
  named = digest_is ∙ ap own_hash change_is

  with_named : with_this ≡ insert_key hash_cmp here (own_hash (in_round r j before))
  with_named = with_is ∙ ap (insert_key hash_cmp here) named

  grown_named : grown ≡ changes ++ in_round r j before ∷ []
  grown_named = grown_is ∙ ap (λ t. changes ++ t ∷ []) change_is

  pub kept_over : j ≡ 2 → Kept n (k + 1) (r + 1) 0 with_this [] grown
  kept_over two =
      subst (λ t. Kept n (k + 1) (r + 1) 0 t [] grown) (sym with_named) (subst (λ t. Kept n (k + 1) (r + 1) 0 (insert_key hash_cmp here (own_hash (in_round r j before))) [] t) (sym grown_named)
      (kept_turn n k r j before here changes kept more two (subst IsHash named is)))

  pub kept_on : j ≢ 2 → Kept n (k + 1) r (j + 1) before with_this grown
  kept_on other =
      subst (λ t. Kept n (k + 1) r (j + 1) before t grown) (sym with_named) (subst (λ t. Kept n (k + 1) r (j + 1) before (insert_key hash_cmp here (own_hash (in_round r j before))) t) (sym grown_named)
      (kept_next n k r j before here changes kept more other (subst IsHash named is)))
