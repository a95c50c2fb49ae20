-- The steps of the sweep. V is the set before a hash joins, and W the set with it.
use Rattle.std.proofs.Common.{ℕ, zero, suc, ◌≡◌, ◌+◌, ◌-◌, ◌<◌, ◌≤◌, List, [], ◌∷◌, length, get_or, find, not, Bool, true, false, cond, Some, None, refl, sym, ap, ◌∙◌, subst, inl, inr, ◌⊎◌, All, Contains, arith}
use Rattle.std.specs.List.{AllWithin}
use Rattle.std.proofs.lemmas.Bool.{cases_Bool, both_ways, cases_eq}
use Rattle.std.proofs.lemmas.List.{get_or_default}
use Rattle.std.proofs.lemmas.List.Elements.{Contains-get_or}
use Rattle.std.proofs.lemmas.Map.Text.{is_eq-slice_cmp}
use Rattle.am_types.specs.contracts.hash.HashPartialEq.TheImpl as equality
use Rattle.am_types.specs.declared.Hash.{Hash}
use Rattle.am_types.specs.Order.{hash_cmp, same, among}
use Rattle.am_types.proofs.Orders.{same_hash-true, same_hash_itself}
use Rattle.am_laws.proofs.Ancestry.{ancestors_named}
use Rattle.am_laws.proofs.Growth.{among_at}
use Rattle.am_graph.specs.declared.node.Node.{Node}
use Rattle.am_graph.specs.Graphs.{names, is_held, IsSound}
use Rattle.am_graph.proofs.Swept.{Within, DoneFrom, within_more}

abbrev pub Joined : (Hash → Bool) → (Hash → Bool) → Hash → Type 0
Joined V W dep = (q : Hash) → W q ≡ cond (equality.eq-value.it dep q) true (V q)

pub eq-true : (a b : Hash) → equality.eq-value.it a b ≡ true → a ≡ b
eq-true a b e = same_hash-true a b (is_eq-slice_cmp a.0 b.0 ∙ e)

pub eq_itself : (a : Hash) → equality.eq-value.it a a ≡ true
eq_itself a = sym (is_eq-slice_cmp a.0 a.0) ∙ same_hash_itself a

module _ (V W : Hash → Bool) (dep : Hash) (joined : Joined V W dep) where
  joined_new : (h : Hash) → W h ≡ true → (dep ≡ h) ⊎ (V h ≡ true)
  joined_new h w = elim (cases_Bool (equality.eq-value.it dep h)) [
    | inl e ↦ inl (eq-true dep h e)
    | inr e ↦ inr (ap (λ b. cond b true (V h)) (sym e) ∙ sym (joined h) ∙ w)
  ]

  joined_old : (h : Hash) → V h ≡ true → W h ≡ true
  joined_old h v = elim (cases_Bool (equality.eq-value.it dep h)) [
    | inl e ↦ joined h ∙ ap (λ b. cond b true (V h)) e
    | inr e ↦ joined h ∙ ap (λ b. cond b true (V h)) e ∙ v
  ]

  joined_itself : W dep ≡ true
  joined_itself = joined dep ∙ ap (λ b. cond b true (V dep)) (eq_itself dep)

-- ---- the heads

abbrev pub HeadsWanted : List (Hash × Node) → List Hash → (Hash → Bool) → ℕ → Type 0
HeadsWanted g hs W i = ((h : Hash) → W h ≡ true → among hash_cmp hs h ≡ true) × AllWithin (λ h. W h ≡ true) hs 0 i × AllWithin (λ h. is_held g h ≡ true) hs 0 i

-- what holds up to i and at i holds up to the next
pub within_push : (P : Hash → Type 0) (hs : List Hash) (i : ℕ) (d : Hash) → i < length hs → AllWithin P hs 0 i → P (get_or hs i d) → AllWithin P hs 0 (i + 1)
within_push P hs i d l all p k e z m = elim (cases_eq k i) [
  | inl s ↦ subst P (get_or_default hs i d e l ∙ ap (λ j. get_or hs j e) (sym s)) p
  | inr n ↦ all k e z (omega arith)
]

pub head_joins : (g : List (Hash × Node)) (hs : List Hash) (V W : Hash → Bool) (i : ℕ) (d : Hash) → i < length hs → HeadsWanted g hs V i → is_held g (get_or hs i d) ≡ true → Joined V W (get_or hs i d) → HeadsWanted g hs W (i + 1)
head_joins g hs V W i d l h held j = (
  (λ k w. elim (joined_new V W (get_or hs i d) j k w) [ inl e ↦ among_at hs k d i l (sym e) | inr v ↦ h.0 k v ]),
  within_push (λ h. W h ≡ true) hs i d l (λ k e z m. joined_old V W (get_or hs i d) j (get_or hs k e) (h.1 k e z m)) (joined_itself V W (get_or hs i d) j),
  within_push (λ h. is_held g h ≡ true) hs i d l h.2 held,
)

-- the first that fails a test, by its place
pub find_at : (p : Hash → Bool) (hs : List Hash) (i : ℕ) (d : Hash) → i < length hs → AllWithin (λ h. p h ≡ true) hs 0 i → p (get_or hs i d) ≡ false → find (λ h. not (p h)) hs ≡ Some (get_or hs i d)
find_at p [] i d l all f = absurd (omega arith)
find_at p (h ∷ hs) zero d l all f = simp f refl
find_at p (h ∷ hs) (suc i) d l all f =
    let first : p h ≡ true = all 0 d (omega arith) (omega arith) in
    let again : find (λ h. not (p h)) hs ≡ Some (get_or hs i d) = find_at p hs i d (omega arith) (λ k e z m. all (suc k) e (omega arith) (omega arith)) f in
    simp first again

-- none fails it
pub find_none_within : (p : Hash → Bool) (hs : List Hash) → AllWithin (λ h. p h ≡ true) hs 0 (length hs) → find (λ h. not (p h)) hs ≡ None
find_none_within p [] all = refl
find_none_within p (h ∷ hs) all =
    let first : p h ≡ true = all 0 h (omega arith) (omega arith) in
    let again : find (λ h. not (p h)) hs ≡ None = find_none_within p hs (λ k e z m. all (suc k) e (omega arith) (omega arith)) in
    simp first again

-- ---- the sweep

abbrev pub IsSwept : List (Hash × Node) → List Hash → (Hash → Bool) → ℕ → Type 0
IsSwept g hs W i = Within g hs W × All (λ h. W h ≡ true) hs × All (λ h. is_held g h ≡ true) hs × DoneFrom g W i

pub sweep_starts : (g : List (Hash × Node)) (hs : List Hash) (W : Hash → Bool) (n : ℕ) → length g ≤ n → HeadsWanted g hs W (length hs) → IsSwept g hs W n
sweep_starts g hs W n l h = (
  (λ C e m cm w. ancestors_named C hs m cm (h.0 m.hash w)),
  (λ k d m. h.1 k d (omega arith) m),
  (λ k d m. h.2 k d (omega arith) m),
  (λ k d i m w. absurd (omega arith)),
)

-- what is not wanted need not be done
pub sweep_skips : (g : List (Hash × Node)) (hs : List Hash) (W : Hash → Bool) (i : ℕ) (e : Hash × Node) → ((d : Hash × Node) → get_or g (i - 1) d ≡ e) → W e.0 ≡ false → IsSwept g hs W i → IsSwept g hs W (i - 1)
sweep_skips g hs W i e at f s = (
  s.0,
  s.1,
  s.2,
  λ k d z m w. elim (cases_eq k (i - 1)) [
    | inl same ↦ absurd (both_ways (W e.0) f (ap (λ q. W q.0) (sym (at d) ∙ ap (λ j. get_or g j d) (sym same)) ∙ w))
    | inr n ↦ s.3 k d (omega arith) m w
  ],
)

-- of the change at i, the dependencies before j are wanted
abbrev pub IsSweeping : List (Hash × Node) → List Hash → (Hash → Bool) → ℕ → List Hash → ℕ → Type 0
IsSweeping g hs W i deps j = Within g hs W × All (λ h. W h ≡ true) hs × All (λ h. is_held g h ≡ true) hs × DoneFrom g W (i + 1)
    × ((d : Hash × Node) → (W (get_or g i d).0 ≡ true) × ((get_or g i d).1.deps ≡ deps))
    × (i < length g) × AllWithin (λ h. W h ≡ true) deps 0 j

pub sweeping_starts : (g : List (Hash × Node)) (hs : List Hash) (W : Hash → Bool) (i : ℕ) (e : Hash × Node) (deps : List Hash) → ((d : Hash × Node) → get_or g (i - 1) d ≡ e) → i - 1 < length g → W e.0 ≡ true → e.1.deps ≡ deps → 0 < i → IsSwept g hs W i → IsSweeping g hs W (i - 1) deps 0
sweeping_starts g hs W i e deps at l w same some s = (
  s.0,
  s.1,
  s.2,
  (λ k d z m v. s.3 k d (omega arith) m v),
  (λ d. (ap (λ q. W q.0) (at d) ∙ w, ap (λ q. q.1.deps) (at d) ∙ same)),
  l,
  (λ k d z m. absurd (omega arith)),
)

pub dep_joins : (g : List (Hash × Node)) (sound : IsSound g) (hs : List Hash) (V W : Hash → Bool) (i : ℕ) (deps : List Hash) (j : ℕ) (d : Hash) → j < length deps → Joined V W (get_or deps j d) → IsSweeping g hs V i deps j → IsSweeping g hs W i deps (j + 1)
dep_joins g sound hs V W i deps j d l joined s =
    let dep : Hash = get_or deps j d in
    let some : Hash × Node = (d, record { actor = []; seq = 0; start = 0; count = 0; deps = [] }) in
    let e : Hash × Node = get_or g i some in
    let here = s.4 some in
    let old = joined_old V W dep joined in
    let there : Contains e.1.deps dep = subst (λ ds. Contains ds dep) (sym here.1) (Contains-get_or deps j d l) in (
      within_more g hs V W dep e (Contains-get_or g i some s.5) here.0 there (joined_new V W dep joined) s.0,
      (λ k x m. old (get_or hs k x) (s.1 k x m)),
      s.2,
      (λ k x z m w. elim (joined_new V W dep joined (get_or g k x).0 w) [
        | inl same ↦ absurd (both_ways (names e (get_or g k x).0) (ap (λ q. names q (get_or g k x).0) (get_or_default g i some x s.5) ∙ sound.backward i k x (omega arith) m)
            (among_at e.1.deps (get_or g k x).0 d there.0 there.1 (sym same ∙ sym there.2 ∙ get_or_default e.1.deps there.0 dep d there.1)))
        | inr v ↦ λ n y o. old (get_or (get_or g k x).1.deps n y) (s.3 k x z m v n y o)
      ]),
      (λ x. (old (get_or g i x).0 (s.4 x).0, (s.4 x).1)),
      s.5,
      within_push (λ h. W h ≡ true) deps j d l (λ k x z m. old (get_or deps k x) (s.6 k x z m)) (joined_itself V W dep joined),
    )
