-- The depth that some dependencies give.
use Rattle.std.proofs.Common.{ℕ, ◌≡◌, ◌+◌, ◌<◌, ◌≤◌, List, [], ◌∷◌, ◌++◌, length, get_or, take, ◌||◌, Bool, true, false, max as larger, cond, nat_eq, Option, Some, refl, sym, ap, ◌∙◌, subst, inl, inr, ◌⊎◌, Contains, arith}
use Rattle.std.proofs.lemmas.Bool.{both_ways, or_cases, cases_order, cases_lt, lt-ltb, le-ltb}
use Rattle.std.proofs.lemmas.List.Folds.{list_any-append}
use Rattle.am_types.specs.declared.Hash.{Hash}
use Rattle.am_types.specs.declared.Change.{Change}
use Rattle.am_types.specs.Order.{hash_cmp, same, among}
use Rattle.am_types.specs.Members.{Member}
use Rattle.am_types.specs.Canonical.{depth}
use Rattle.am_types.proofs.Orders.{same_hash-true, same_hash_itself}
use Rattle.std.specs.Ordering.{ord_max, nat_cmp, is_lt}
use Rattle.std.specs.declared.cmp.Ordering.TheVariants.{Less, Equal, Greater}
use Rattle.std.specs.List.{position}
use Rattle.std.specs.Map.{keys_of}
use Rattle.std.proofs.lemmas.List.{take_all}
use Rattle.std.proofs.lemmas.List.Elements.{Contains-get_or}
use Rattle.am_types.specs.contracts.hash.HashPartialEq.TheImpl as equality
use Rattle.am_graph.specs.declared.node.Node.{Node}
use Rattle.am_graph.specs.declared.parts.Mark.{Mark}
use Rattle.am_graph.specs.Graphs.{ForSet, IsSound}
use Rattle.am_graph.specs.Whole.{WholeOf}
use Rattle.am_graph.proofs.Depths.{AllLow, depth_is}
use Rattle.am_graph.proofs.Growing.{one_hash, low_of, length_nodes, node_at}
use Rattle.am_graph.proofs.Named.{take_one}
use Rattle.am_graph.proofs.Visiting.{no_member}
use Rattle.am_graph.proofs.Waiting.{found_at}

-- d is one more than the greatest depth of the members of C with these hashes, or 0
pub record IsDeepest (C : List Member) (hs : List Hash) (d : ℕ) : Type 0 where
  pub upper : (m : Member) → Contains C m → among hash_cmp hs m.hash ≡ true → depth C m.change + 1 ≤ d
  pub found : (d ≡ 0) ⊎ ((m : Member) × Contains C m × (among hash_cmp hs m.hash ≡ true) × (d ≡ depth C m.change + 1))

among_push : (hs : List Hash) (h g : Hash) → among hash_cmp (hs ++ h ∷ []) g ≡ true → (among hash_cmp hs g ≡ true) ⊎ (g ≡ h)
among_push hs h g e = elim (or_cases (among hash_cmp hs g) (among hash_cmp (h ∷ []) g) (sym (list_any-append (same hash_cmp g) hs (h ∷ [])) ∙ e)) [
  | inl a ↦ inl a
  | inr b ↦ elim (or_cases (same hash_cmp g h) _ b) [ inl s ↦ inr (same_hash-true g h s) | inr n ↦ absurd (both_ways _ refl n) ]
]

among_more : (hs : List Hash) (h g : Hash) → among hash_cmp hs g ≡ true → among hash_cmp (hs ++ h ∷ []) g ≡ true
among_more hs h g e = list_any-append (same hash_cmp g) hs (h ∷ []) ∙ ap (λ b. b || among hash_cmp (h ∷ []) g) e

among_last : (hs : List Hash) (h : Hash) → among hash_cmp (hs ++ h ∷ []) h ≡ true
among_last hs h = list_any-append (same hash_cmp h) hs (h ∷ []) ∙ go (among hash_cmp hs h) _ (same_hash_itself h)
  where
    go : (a b : Bool) → b ≡ true → (a || (b || false)) ≡ true
    go true b e = refl
    go false true e = refl
    go false false e = e

-- one more dependency
pub deepest_more : (C : List Member) (one : (m n : Member) → Contains C m → Contains C n → m.hash ≡ n.hash → m ≡ n) (hs : List Hash) (d : ℕ) (n : Member) → Contains C n
    → IsDeepest C hs d → (e : ℕ) → e ≡ larger d (depth C n.change + 1) → IsDeepest C (hs ++ n.hash ∷ []) e
deepest_more C one hs d n cn old e is = record {
  upper = λ m c t. elim (among_push hs n.hash m.hash t) [
    | inl a ↦ let u = old.upper m c a in omega arith
    | inr s ↦ let same : m ≡ n = one m n c cn s in let z : depth C m.change ≡ depth C n.change = ap (λ q. depth C q.change) same in omega arith
  ];
  found = elim (larger_or d (depth C n.change + 1)) [
    | inl l ↦ elim old.found [
      | inl z ↦ inl (omega arith)
      | inr f ↦ inr (f.0, f.1, among_more hs n.hash f.0.hash f.2, is ∙ l ∙ f.3)
    ]
    | inr l ↦ inr (n, cn, among_last hs n.hash, is ∙ l)
  ];
}
  where
    larger_or : (x y : ℕ) → (larger x y ≡ x) ⊎ (larger x y ≡ y)
    larger_or x y = elim (cases_order x y) [
      | inl e ↦ inl (omega arith)
      | inr r ↦ elim r [ inl l ↦ inr (omega arith) | inr l ↦ inl (omega arith) ]
    ]

pub deepest_is : (C : List Member) → AllLow C → (c : Change) (d : ℕ) → IsDeepest C c.deps d → d ≡ depth C c
deepest_is C low c d is = depth_is C low c d is.upper is.found

-- one more dependency, by the place at which it is found
module _ (g : List (Hash × Node)) (marks : List Mark) (authors : List (List ℕ)) (f : ℕ → ℕ → Option Hash) (whole : WholeOf g marks authors f)
    (deps : List Hash) (j : ℕ) (d : Hash) (l : j < length deps) (place : ℕ) (at : position (equality.eq-value.it (get_or deps j d)) (keys_of g) ≡ Some place) (mark : Mark) (marked : get_or marks place mark ≡ mark) where
  pub place_low : place < length g
  place_low = (found_at g (get_or deps j d) place at).0

  pub depth_low : mark.depth ≤ place
  depth_low = let b = whole.beside in let p = place_low in subst (λ m. m.depth ≤ place) marked (whole.shallow place mark (omega arith))

  pub deeper : (n e : ℕ) → ForSet g (λ C. IsDeepest C (take j deps) n) → e ≡ larger n (mark.depth + 1) → ForSet g (λ C. IsDeepest C (take (j + 1) deps) e)
  deeper n e old is C set =
      let ln = length_nodes C in let le = ap length set in let p = place_low in
      let low : place < length C = omega arith in
      let m : Member = get_or C place no_member in
      let some : Hash × Node = (d, record { actor = []; seq = 0; start = 0; count = 0; deps = [] }) in
      let same : get_or deps j d ≡ m.hash = (found_at g (get_or deps j d) place at).1 some ∙ ap (λ q. (get_or q place some).0) set ∙ ap (λ q. q.0) (node_at C place no_member some low) in
      let depth_is : mark.depth ≡ depth C m.change = ap (λ q. q.depth) (sym marked) ∙ whole.depths C set place mark no_member low in
      subst (λ hs. IsDeepest C hs e) (ap (λ h. take j deps ++ h ∷ []) (sym same) ∙ sym (take_one deps j d l))
      (deepest_more C (one_hash C (subst IsSound set whole.sound)) (take j deps) n m (Contains-get_or C place no_member low) (old C set) e (is ∙ ap (λ x. larger n (x + 1)) depth_is))

-- all dependencies
pub deepest_all : (g : List (Hash × Node)) → IsSound g → (deps : List Hash) (j n : ℕ) → length deps ≤ j → ForSet g (λ C. IsDeepest C (take j deps) n) → ForSet g (λ C. (c : Change) → c.deps ≡ deps → n ≡ depth C c)
deepest_all g sound deps j n l deepest C set c e =
    deepest_is C (low_of C (subst IsSound set sound)) c n (subst (λ hs. IsDeepest C hs n) (take_all j deps l ∙ sym e) (deepest C set))

-- the greater of two numbers, as the code computes it
pub max_is : (a b : ℕ) → ord_max nat_cmp a b ≡ larger a b
max_is a b = elim (cases_lt b a) [
  | inl l ↦ ap (λ t. cond (is_lt (cond t Less (cond (nat_eq b a) Equal Greater))) a b) (lt-ltb b a l) ∙ (let e : a ≡ larger a b = omega arith in e)
  | inr l ↦ ap (λ t. cond (is_lt (cond t Less (cond (nat_eq b a) Equal Greater))) a b) (le-ltb b a l) ∙ not_less (nat_eq b a) ∙ (let e : b ≡ larger a b = omega arith in e)
]
  where
    not_less : (t : Bool) → cond (is_lt (cond t Equal Greater)) a b ≡ b
    not_less true = refl
    not_less false = refl
