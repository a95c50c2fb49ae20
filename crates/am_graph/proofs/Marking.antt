-- The changes that are dependencies, marked at their places.
--     Marked g marks i deps j     those of the first i changes are marked, and the first j of the next one's, which are deps
--     dep_marked                  one dependency more is marked
--     change_marked               the dependencies of one change more are
--     dep_held                    each dependency is held
use Rattle.std.proofs.Common.{ℕ, ◌≡◌, ◌+◌, ◌<◌, ◌||◌, List, [], ◌∷◌, ◌++◌, length, get_or, set, take, Bool, true, false, cond, Some, refl, sym, ap, ◌∙◌, subst, inl, inr, All, arith}
use Rattle.std.specs.List.{list_any, position}
use Rattle.std.specs.Map.{keys_of}
use Rattle.std.specs.Ordering.{is_eq, nat_cmp}
use Rattle.std.proofs.lemmas.Bool.{cases_order}
use Rattle.std.proofs.lemmas.Cmp.{nat_cmp_total, tied_itself}
use Rattle.std.proofs.lemmas.List.{get_or-set_same, get_or-set_other}
use Rattle.std.proofs.lemmas.List.Folds.{list_any-append}
use Rattle.am_types.specs.contracts.hash.HashPartialEq.TheImpl as equality
use Rattle.am_types.specs.declared.Hash.{Hash}
use Rattle.am_types.specs.Order.{hash_cmp, same, among}
use Rattle.am_graph.specs.declared.node.Node.{Node}
use Rattle.am_graph.specs.Graphs.{IsSound, names, is_held, is_named_in}
use Rattle.am_graph.proofs.Named.{take_one}
use Rattle.am_graph.proofs.Waiting.{found_at, place_at, only_place, not_same, or_off}

abbrev pub Marked : List (Hash × Node) → List Bool → ℕ → List Hash → ℕ → Type 0
Marked g marks i deps j = (k : ℕ) (b : Bool) (e : Hash × Node) → k < length g → get_or marks k b ≡ (is_named_in (take i g) (get_or g k e).0 || among hash_cmp (take j deps) (get_or g k e).0)

to_or : (a b v : Bool) → cond a true (b || v) ≡ (b || (v || (a || false)))
to_or true true v = refl
to_or true false true = refl
to_or true false false = refl
to_or false true v = refl
to_or false false true = refl
to_or false false false = refl

-- a mark more
set_at : (marks : List Bool) (p k : ℕ) (b : Bool) → p < length marks → get_or (set marks p true) k b ≡ cond (is_eq (nat_cmp p k)) true (get_or marks k b)
set_at marks p k b l = elim (cases_order p k) [
  | inl e ↦ subst (λ j. get_or (set marks p true) j b ≡ true) e (get_or-set_same marks p true b l) ∙ sym (ap (λ q. cond q true (get_or marks k b)) (ap (λ j. is_eq (nat_cmp p j)) (sym e) ∙ ap is_eq (tied_itself nat_cmp_total p)))
  | inr o ↦ get_or-set_other marks p k true b (λ e. elim o [ inl x ↦ absurd (omega arith) | inr x ↦ absurd (omega arith) ]) ∙ sym (ap (λ q. cond q true (get_or marks k b)) (not_same p k (λ e. elim o [ inl x ↦ absurd (omega arith) | inr x ↦ absurd (omega arith) ])))
]

-- one more dependency, which is found at the place p
pub dep_marked : (g : List (Hash × Node)) → IsSound g → (marks more : List Bool) (i : ℕ) (deps : List Hash) (j : ℕ) (d : Hash) → j < length deps → (p : ℕ) → position (equality.eq-value.it (get_or deps j d)) (keys_of g) ≡ Some p
    → length marks ≡ length g → more ≡ set marks p true → Marked g marks i deps j → Marked g more i deps (j + 1)
dep_marked g sound marks more i deps j d l p at size is v k b e low =
    let dep : Hash = get_or deps j d in
    let f = found_at g dep p at in
    let h : Hash = (get_or g k e).0 in
    ap (λ m. get_or m k b) is ∙ set_at marks p k b (omega (arith, f.0))
    ∙ ap (λ q. cond q true (get_or marks k b)) (sym (only_place g sound dep p f.0 f.1 k) ∙ place_at g (dep ∷ []) k e low)
    ∙ ap (cond (same hash_cmp h dep || false) true) (v k b e low)
    ∙ ap (λ q. cond q true (is_named_in (take i g) h || among hash_cmp (take j deps) h)) (or_off (same hash_cmp h dep))
    ∙ to_or (same hash_cmp h dep) (is_named_in (take i g) h) (among hash_cmp (take j deps) h)
    ∙ ap (λ b. is_named_in (take i g) h || b) (sym (list_any-append (same hash_cmp h) (take j deps) (dep ∷ [])) ∙ ap (list_any (same hash_cmp h)) (sym (take_one deps j d l)))

-- the next change is done
pub change_marked : (g : List (Hash × Node)) (marks : List Bool) (i : ℕ) (x : Hash × Node) (deps : List Hash) (j : ℕ) → i < length g → get_or g i x ≡ x → deps ≡ x.1.deps → take j deps ≡ deps → Marked g marks i deps j
    → (k : ℕ) (b : Bool) (e : Hash × Node) → k < length g → get_or marks k b ≡ is_named_in (take (i + 1) g) (get_or g k e).0
change_marked g marks i x deps j l at same all v k b e low =
    let h : Hash = (get_or g k e).0 in
    v k b e low ∙ ap (λ ds. is_named_in (take i g) h || among hash_cmp ds h) (all ∙ same)
    ∙ ap (λ b. is_named_in (take i g) h || b) (sym (or_off (names x h)))
    ∙ sym (list_any-append (λ e. names e h) (take i g) (x ∷ []))
    ∙ ap (λ l. is_named_in l h) (sym (take_one g i x l ∙ ap (λ q. take i g ++ q ∷ []) at))

-- each dependency of a change is held
pub dep_held : (g : List (Hash × Node)) → IsSound g → (i : ℕ) (x : Hash × Node) → i < length g → get_or g i x ≡ x → (deps : List Hash) (j : ℕ) (d : Hash) → j < length deps → deps ≡ x.1.deps → is_held g (get_or deps j d) ≡ true
dep_held g sound i x low at deps j d l same =
    let all : All (λ h. is_held g h ≡ true) x.1.deps = subst (λ (e : Hash × Node). All (λ h. is_held g h ≡ true) e.1.deps) at (sound.closed i x low) in
    subst (λ ds. All (λ h. is_held g h ≡ true) ds) (sym same) all j d l
