-- The parts of a graph stay whole when an actor becomes an author, and when a change joins.
use Rattle.std.proofs.Common.{ℕ, zero, suc, ◌≡◌, ◌+◌, ◌-◌, ◌<◌, ◌≤◌, ◌^◌, ◌==◌, ◌&&◌, List, [], ◌∷◌, ◌++◌, length, get_or, filter, Bool, true, false, cond, Option, Some, None, refl, sym, ap, ◌∙◌, subst, inl, inr, ◌⊎◌, All, Contains, arith, eq-eqb}
use Rattle.std.specs.Option.{IfSome}
use Rattle.std.specs.Ordering.{is_gt, ordering_reverse}
use Rattle.std.specs.declared.cmp.Ordering.{Ordering}
use Rattle.std.specs.declared.cmp.Ordering.TheVariants.{Less, Equal, Greater}
use Rattle.std.proofs.lemmas.Bool.{cases_Bool, both_ways, cases_lt, cases_order, eqb-true}
use Rattle.std.proofs.lemmas.List.{append-nil, map-append, get_or_default, get_or_append_left, get_or-append_right}
use Rattle.std.proofs.lemmas.List.Elements.{All-contains, All-cons, All-nil, All-append, All-weaker, Contains-append_left, Contains-append_right, Contains-get_or, filter-append}
use Rattle.am_types.specs.declared.Hash.{Hash}
use Rattle.am_types.specs.declared.Change.{Change}
use Rattle.am_types.specs.Order.{hash_cmp, among}
use Rattle.am_types.specs.Same.{same_bytes, same_hash}
use Rattle.am_types.specs.Members.{Member, holds}
use Rattle.am_types.specs.Ancestors.{ancestors}
use Rattle.am_types.specs.Canonical.{dependencies, depth}
use Rattle.am_types.proofs.Orders.{hash_total, same_hash_itself}
use Rattle.am_laws.proofs.Growth.{ancestors_stay, found_among}
use Rattle.am_laws.proofs.DistinctIds.{ancestor_is_member, ancestors_trans}
use Rattle.am_laws.proofs.Ancestry.{ancestors_named}
use Rattle.am_types.proofs.Orders.{same_bytes-true}
use Rattle.am_laws.proofs.Listed.{holds_own}
use Rattle.std.proofs.lemmas.List.Quantifiers.{position-Some}
use Rattle.std.proofs.lemmas.Cmp.{nat_list_eq_equiv}
use Rattle.am_graph.specs.declared.node.Node.{Node}
use Rattle.am_graph.specs.declared.parts.Mark.{Mark}
use Rattle.am_graph.specs.declared.reach.Reach.{Reach}
use Rattle.am_graph.specs.Graphs.{node_of, nodes, ForSet, names, is_held, missing, IsSound, IsLeast, having}
use Rattle.am_graph.specs.Reaches.{number, IsTableOf}
use Rattle.am_graph.specs.Numbers.{with_text}
use Rattle.am_graph.specs.Whole.{WholeOf, MarkOf, Notes, lesser}
use Rattle.am_graph.proofs.Held.{is_held-nodes}
use Rattle.am_graph.proofs.Joining.{sound_push, all_held}
use Rattle.am_graph.proofs.Depths.{AllLow, low_all, same_depth}
use Rattle.std.proofs.lemmas.Cmp.{tied_itself}
use Rattle.am_graph.specs.Reaches.{end}
use Rattle.am_graph.proofs.Walking.{attained_within}
use Rattle.am_graph.proofs.Descent.{among_one, from_one}
use Rattle.am_graph.proofs.Naming.{some_or, number_more, number_back, table_more, having_none}
use Rattle.am_graph.proofs.Numbering.{with_new, with_old}

-- ---- the members of a graph by their places

pub length_nodes : (C : List Member) → length (nodes C) ≡ length C
length_nodes [] = refl
length_nodes (m ∷ C) = ap suc (length_nodes C)

pub node_at : (C : List Member) (k : ℕ) (d : Member) (e : Hash × Node) → k < length C → get_or (nodes C) k e ≡ ((get_or C k d).hash, node_of (get_or C k d).change)
node_at [] k d e l = absurd (omega arith)
node_at (m ∷ C) zero d e l = refl
node_at (m ∷ C) (suc k) d e l = node_at C k d e (omega arith)

-- what the graph of C says of C
module _ (C : List Member) (sound : IsSound (nodes C)) where
  pub one_hash : (m n : Member) → Contains C m → Contains C n → m.hash ≡ n.hash → m ≡ n
  one_hash m n cm cn e =
      let some : Hash × Node = (m.hash, node_of m.change) in
      let ln = length_nodes C in
      let lm : cm.0 < length C = cm.1 in
      let lo : cn.0 < length C = cn.1 in
      let hm : (get_or (nodes C) cm.0 some).0 ≡ m.hash = ap (λ q. q.0) (node_at C cm.0 m some cm.1) ∙ ap (λ q. q.hash) cm.2 in
      let hn : (get_or (nodes C) cn.0 some).0 ≡ n.hash = ap (λ q. q.0) (node_at C cn.0 n some cn.1) ∙ ap (λ q. q.hash) cn.2 in
      elim (cases_order cm.0 cn.0) [
        | inl s ↦ sym cm.2 ∙ ap (λ k. get_or C k m) s ∙ get_or_default C cn.0 m n cn.1 ∙ cn.2
        | inr o ↦ elim o [
          | inl l ↦ absurd (both_ways _ (sound.distinct cm.0 cn.0 some l (omega arith)) (ap (λ h. same_hash h (get_or (nodes C) cn.0 some).0) (hm ∙ e ∙ sym hn) ∙ same_hash_itself (get_or (nodes C) cn.0 some).0))
          | inr l ↦ absurd (both_ways _ (sound.distinct cn.0 cm.0 some l (omega arith)) (ap (λ h. same_hash h (get_or (nodes C) cm.0 some).0) (hn ∙ sym e ∙ sym hm) ∙ same_hash_itself (get_or (nodes C) cm.0 some).0))
        ]
      ]

  pub closed_of : (m : Member) → Contains C m → All (λ h. holds C h ≡ true) m.change.deps
  closed_of m cm k d l =
      let some : Hash × Node = (m.hash, node_of m.change) in
      let ln = length_nodes C in
      let at : get_or (nodes C) cm.0 some ≡ (m.hash, node_of m.change) = node_at C cm.0 m some cm.1 ∙ ap (λ q. (q.hash, node_of q.change)) cm.2 in
      let all = sound.closed cm.0 some (let b = cm.1 in omega arith) in
      let held : is_held (nodes C) (get_or m.change.deps k d) ≡ true = subst (λ q. All (λ h. is_held (nodes C) h ≡ true) q.1.deps) at all k d l in
      sym (is_held-nodes C (get_or m.change.deps k d)) ∙ held

  pub low_of : AllLow C
  low_of j d l m cm q =
      let some : Hash × Node = (d.hash, node_of d.change) in
      let ln = length_nodes C in
      let lm : cm.0 < length C = cm.1 in
      elim (cases_lt cm.0 j) [
        | inl b ↦ (cm.0, b, cm.1, cm.2)
        | inr b ↦ absurd (both_ways _ (sound.backward j cm.0 some b (omega arith))
            (ap (λ e. names e (get_or (nodes C) cm.0 some).0) (node_at C j d some l) ∙ ap (λ h. among hash_cmp (get_or C j d).change.deps h) (ap (λ e. e.0) (node_at C cm.0 m some cm.1) ∙ ap (λ x. x.hash) cm.2) ∙ q))
      ]

pub if_some : {V : Type 0} (o : Option V) (P Q : V → Type 0) → ((v : V) → P v → Q v) → IfSome o P → IfSome o Q
if_some None P Q f h = h
if_some (Some v) P Q f h = f v h

pub length_push : {X : Type 0} (xs : List X) (x : X) → length (xs ++ x ∷ []) ≡ suc (length xs)
length_push [] x = refl
length_push (y ∷ xs) x = ap suc (length_push xs x)

-- ---- an actor becomes an author

module _ (g : List (Hash × Node)) (marks : List Mark) (authors : List (List ℕ)) (f : ℕ → ℕ → Option Hash) (whole : WholeOf g marks authors f) (y : List ℕ) where
  pub known_at : (k : ℕ) (e : Hash × Node) → k < length g → (a : ℕ) × (number authors (get_or g k e).1.actor ≡ Some a)
  known_at k e l = let d : Mark = record { author = 0; depth = 0; away = 0; guess = 0; kept = None } in ((get_or marks k d).author, whole.numbers k d e l)

  pub known_of : (C : List Member) → g ≡ nodes C → (m : Member) → Contains C m → (a : ℕ) × (number authors m.change.actor ≡ Some a)
  known_of C is m cm =
      let some : Hash × Node = (m.hash, node_of m.change) in
      let ln = length_nodes C in let le = ap length is in let lm : cm.0 < length C = cm.1 in
      let k = known_at cm.0 some (omega arith) in
      let at : (get_or g cm.0 some).1.actor ≡ m.change.actor = ap (λ q. (get_or q cm.0 some).1.actor) is ∙ ap (λ q. q.1.actor) (node_at C cm.0 m some cm.1) ∙ ap (λ q. q.change.actor) cm.2 in
      (k.0, ap (number authors) (sym at) ∙ k.1)

  pub whole_named : WholeOf g marks (authors ++ y ∷ []) f
  whole_named = let longer = length_push authors y in record {
    sound = whole.sound;
    beside = whole.beside;
    numbers = λ k d e l. number_more authors y _ _ (whole.numbers k d e l);
    depths = whole.depths;
    shallow = whole.shallow;
    kept = λ k d l. if_some (get_or marks k d).kept _ _ (λ T h. (
      (let a = h.0 in omega arith),
      λ C is m l.
          table_more authors y (ancestors C ((get_or C k m).hash ∷ [])) T.items (λ x cx. known_of C is x (ancestor_is_member C ((get_or C k m).hash ∷ []) x cx)) (h.1 C is m l),
    ))
        (whole.kept k d l);
    firsts = λ x a q e. elim (number_back authors y x a e) [
      | inl old ↦ whole.firsts x a q old
      | inr new ↦ let last = new.0 in subst (λ o. IsLeast o (having g x q)) (sym (whole.unnamed a q (omega arith))) (having_none authors y g known_at x q new.2)
    ];
    unnamed = λ a q l. whole.unnamed a q (omega arith);
  }

  pub whole_with : WholeOf g marks (with_text authors y) f
  whole_with = elim (some_or (number authors y)) [
    | inl n ↦ subst (λ n. WholeOf g marks n f) (sym (with_old authors y n.0 n.1)) whole
    | inr n ↦ subst (λ n. WholeOf g marks n f) (sym (with_new authors y n)) whole_named
  ]

-- ---- a change joins

-- the last member of the set
last_member : (D : List Member) (g : List (Hash × Node)) (e : Hash × Node) → nodes D ≡ g ++ e ∷ [] → (C : List Member) × (x : Member) × (D ≡ C ++ x ∷ []) × (nodes C ≡ g) × ((x.hash, node_of x.change) ≡ e)
last_member [] [] e is = absurd (none is)
  where
    none : [] ≡ e ∷ [] → ⊥
    none is = cc
last_member [] (f ∷ g) e is = absurd (none is)
  where
    none : [] ≡ f ∷ (g ++ e ∷ []) → ⊥
    none is = cc
last_member (m ∷ D) [] e is =
    let one : nodes D ≡ [] = cc in
    let same : (m.hash, node_of m.change) ≡ e = cc in
    ([], m, ap (λ l. m ∷ l) (empty D one), refl, same)
  where
    empty : (D : List Member) → nodes D ≡ [] → D ≡ []
    empty [] is = refl
    empty (m ∷ D) is = cc
last_member (m ∷ D) (f ∷ g) e is =
    let rest : nodes D ≡ g ++ e ∷ [] = cc in
    let first : (m.hash, node_of m.change) ≡ f = cc in
    let again = last_member D g e rest in
    (m ∷ again.0, again.1, ap (λ l. m ∷ l) again.2, (λ i. first i ∷ again.3 i), again.4)

pub deps_stay : (C : List Member) (x : Member) (c : Change) → among hash_cmp c.deps x.hash ≡ false → dependencies (C ++ x ∷ []) c ≡ dependencies C c
deps_stay C x c f =
    let p : Member → Bool = λ m. among hash_cmp c.deps m.hash in
    let none : filter p (x ∷ []) ≡ [] = simp f refl in
    filter-append p C (x ∷ []) ∙ ap (λ l. filter p C ++ l) none ∙ append-nil (filter p C)

-- tables of the same changes
pub table_same : (authors : List (List ℕ)) (A B : List Member) (T : List Reach) → ((m : Member) → Contains A m → Contains B m) → ((m : Member) → Contains B m → Contains A m) → IsTableOf authors A T → IsTableOf authors B T
table_same authors A B T forth back t = record {
  reached = λ m c. t.reached m (back m c);
  seqs = λ a. attained_within authors A B forth (λ m. m.change.seq) a _ (t.seqs a);
  ends = λ a. attained_within authors A B forth (λ m. end m.change) a _ (t.ends a);
}

-- ---- the least hash

not_above_itself : (h : Hash) → is_gt (hash_cmp h h) ≡ false
not_above_itself h = ap is_gt (tied_itself hash_total h)

gt_trans : (k h z : Hash) → is_gt (hash_cmp k h) ≡ true → is_gt (hash_cmp k z) ≡ false → is_gt (hash_cmp h z) ≡ false
gt_trans k h z a b = go (hash_cmp k z) refl b
  where
    rev : (r s : Ordering) → s ≡ ordering_reverse r → is_gt r ≡ true → s ≡ Less
    rev Less s e t = absurd (both_ways false refl t)
    rev Equal s e t = absurd (both_ways false refl t)
    rev Greater s e t = e

    less : hash_cmp h k ≡ Less
    less = rev (hash_cmp k h) (hash_cmp h k) (hash_total.antisymm h k) a

    go : (r : Ordering) → hash_cmp k z ≡ r → is_gt (hash_cmp k z) ≡ false → is_gt (hash_cmp h z) ≡ false
    go Less e b = ap is_gt (hash_total.trans h k z less e)
    go Equal e b = ap is_gt (hash_total.antisymm h z ∙ ap ordering_reverse (sym (hash_total.congr k z h e)) ∙ sym (hash_total.antisymm h k) ∙ less)
    go Greater e b = absurd (both_ways (is_gt (hash_cmp k z)) b (ap is_gt e))

least_join : (o : Option Hash) (hs : List Hash) (h : Hash) → IsLeast o hs → IsLeast (Some (lesser o h)) (hs ++ h ∷ [])
least_join None hs h e = subst (λ l. Contains (l ++ h ∷ []) h × All (λ k. is_gt (hash_cmp h k) ≡ false) (l ++ h ∷ [])) (sym e)
    ((0, omega arith, refl), All-cons (λ k. is_gt (hash_cmp h k) ≡ false) h [] (not_above_itself h) (All-nil (λ k. is_gt (hash_cmp h k) ≡ false)))
least_join (Some k) hs h l = go (is_gt (hash_cmp k h)) refl
  where
    go : (b : Bool) → is_gt (hash_cmp k h) ≡ b → IsLeast (Some (cond b h k)) (hs ++ h ∷ [])
    go true e = (
      Contains-append_right hs (h ∷ []) h (0, omega arith, refl),
      All-append (λ z. is_gt (hash_cmp h z) ≡ false) hs (h ∷ []) (All-weaker (λ z. is_gt (hash_cmp k z) ≡ false) (λ z. is_gt (hash_cmp h z) ≡ false) (λ z b. gt_trans k h z e b) hs l.1)
          (All-cons (λ z. is_gt (hash_cmp h z) ≡ false) h [] (not_above_itself h) (All-nil (λ z. is_gt (hash_cmp h z) ≡ false))),
    )
    go false e = (
      Contains-append_left hs (h ∷ []) k l.0,
      All-append (λ z. is_gt (hash_cmp k z) ≡ false) hs (h ∷ []) l.1 (All-cons (λ z. is_gt (hash_cmp k z) ≡ false) h [] e (All-nil (λ z. is_gt (hash_cmp k z) ≡ false))),
    )

-- one more entry
pub at_last : {X : Type 0} (xs : List X) (x d : X) (k : ℕ) → k ≡ length xs → get_or (xs ++ x ∷ []) k d ≡ x
at_last xs x d k e = get_or-append_right xs (x ∷ []) (length xs) k d refl (omega arith) ∙ (let z : k - length xs ≡ 0 = omega arith in ap (λ j. get_or (x ∷ []) j d) z)

-- the place is before the last, or the last
split_last : (k n : ℕ) → k < suc n → (k < n) ⊎ (k ≡ n)
split_last k n l = elim (cases_order k n) [ inl e ↦ inr e | inr o ↦ elim o [ inl b ↦ inl b | inr b ↦ absurd (omega arith) ] ]

pub having_push : (g : List (Hash × Node)) (h : Hash) (n : Node) (x : List ℕ) (q : ℕ) → having (g ++ (h, n) ∷ []) x q ≡ having g x q ++ cond (same_bytes x n.actor && n.seq == q) (h ∷ []) []
having_push [] h n x q = elim (cases_Bool (same_bytes x n.actor && n.seq == q)) [ inl e ↦ simp e refl | inr e ↦ simp e refl ]
having_push (e' ∷ g) h n x q =
    let again : having (g ++ (h, n) ∷ []) x q ≡ having g x q ++ cond (same_bytes x n.actor && n.seq == q) (h ∷ []) [] = having_push g h n x q in
    elim (cases_Bool (same_bytes x e'.1.actor && e'.1.seq == q)) [ inl e ↦ simp e (ap (λ l. e'.0 ∷ l) again) | inr e ↦ simp e again ]

-- the number of an actor is its place
pub number_at : (authors : List (List ℕ)) (x : List ℕ) (a : ℕ) → number authors x ≡ Some a → (a < length authors) × (x ≡ get_or authors a x)
number_at authors x a e = let p = position-Some (same_bytes x) authors a x e in (p.0, same_bytes-true x (get_or authors a x) p.1)

module _ (g : List (Hash × Node)) (marks : List Mark) (authors : List (List ℕ)) (f1 f2 : ℕ → ℕ → Option Hash) (h : Hash) (n : Node) (mark : Mark)
    (whole : WholeOf g marks authors f1) (fresh : is_held g h ≡ false) (deps : missing g n.deps ≡ None)
    (start : 1 ≤ n.start) (ends : n.start + n.count ≤ 2 ^ 53) (is_mark : MarkOf g authors n mark) (notes : Notes f1 f2 mark.author n.seq h) where
  all_deps : All (λ d. is_held g d ≡ true) n.deps
  all_deps = all_held g n.deps deps

  sound' : IsSound (g ++ (h, n) ∷ [])
  sound' = sound_push g whole.sound h n fresh all_deps start ends

  -- the set was C and is C with x
  module _ (D C : List Member) (x : Member) (grown : D ≡ C ++ x ∷ []) (before : nodes C ≡ g) (last : ◌≡◌ {A = Hash × Node} (x.hash, node_of x.change) (h, n)) where
    soundC : IsSound (nodes C)
    soundC = subst IsSound (sym before) whole.sound

    x_deps : All (λ d. holds C d ≡ true) x.change.deps
    x_deps = subst (λ q. All (λ d. holds C d ≡ true) q.1.deps) (sym last) (λ k d l. sym (is_held-nodes C (get_or n.deps k d)) ∙ ap (λ g. is_held g (get_or n.deps k d)) before ∙ all_deps k d l)

    x_fresh : holds C x.hash ≡ false
    x_fresh = ap (holds C) (ap (λ q. q.0) last) ∙ sym (is_held-nodes C h) ∙ ap (λ g. is_held g h) before ∙ fresh

    stay : (hs : List Hash) → All (λ d. holds C d ≡ true) hs → ancestors (C ++ x ∷ []) hs ≡ ancestors C hs
    stay hs all = ancestors_stay C (x ∷ []) hs (closed_of C soundC) all (All-cons (λ m. holds C m.hash ≡ false) x [] x_fresh (All-nil (λ m. holds C m.hash ≡ false)))

    unnamed_by : (hs : List Hash) → All (λ d. holds C d ≡ true) hs → among hash_cmp hs x.hash ≡ false
    unnamed_by hs all = elim (cases_Bool (among hash_cmp hs x.hash)) [
      | inl e ↦ absurd (both_ways (holds C x.hash) x_fresh (All-contains (λ d. holds C d ≡ true) hs x.hash all (found_among hs x.hash e)))
      | inr e ↦ e
    ]

    member_deps : (j : ℕ) (d : Member) → j < length C → All (λ d. holds C d ≡ true) (get_or C j d).change.deps
    member_deps j d l = closed_of C soundC (get_or C j d) (Contains-get_or C j d l)

    depth_stay : (c : Change) → All (λ d. holds C d ≡ true) c.deps → depth D c ≡ depth C c
    unfolding depth
    depth_stay c all =
        let long = length_push C x in
        ap (λ E. depth E c) grown ∙ same_depth C (C ++ x ∷ []) (low_of C soundC) (λ j d l. deps_stay C x (get_or C j d).change (unnamed_by _ (member_deps j d l)))
        (length C) (length (C ++ x ∷ [])) (length C) (omega arith) (omega arith) c (low_all C c) (deps_stay C x c (unnamed_by c.deps all))

    at_old : (k : ℕ) (m : Member) → k < length C → get_or D k m ≡ get_or C k m
    at_old k m l = ap (λ E. get_or E k m) grown ∙ get_or_append_left C (x ∷ []) m k l

    at_new : (k : ℕ) (m : Member) → k ≡ length C → get_or D k m ≡ x
    at_new k m e = ap (λ E. get_or E k m) grown ∙ at_last C x m k e

    soundD : IsSound (nodes (C ++ x ∷ []))
    soundD = subst IsSound (sym (map-append (λ (m : Member). (m.hash, node_of m.change)) C (x ∷ []) ∙ (λ i. before i ++ last i ∷ []))) sound'

    x_is : Contains (C ++ x ∷ []) x
    x_is = Contains-append_right C (x ∷ []) x (0, omega arith, refl)

    new_table : (T : List Reach) → IsTableOf authors (x ∷ ancestors C n.deps) T → IsTableOf authors (ancestors (C ++ x ∷ []) (x.hash ∷ [])) T
    new_table T table =
        let same : ancestors (C ++ x ∷ []) x.change.deps ≡ ancestors C n.deps = stay x.change.deps x_deps ∙ ap (λ q. ancestors C q.1.deps) last in
        let top : Contains (ancestors (C ++ x ∷ []) (x.hash ∷ [])) x = ancestors_named (C ++ x ∷ []) (x.hash ∷ []) x x_is (among_one x.hash) in
        table_same authors (x ∷ ancestors C n.deps) (ancestors (C ++ x ∷ []) (x.hash ∷ [])) T
        (λ m c. elim (Contains-cons_cases x (ancestors C n.deps) m c) [
          | inl e ↦ subst (Contains (ancestors (C ++ x ∷ []) (x.hash ∷ []))) (sym e) top
          | inr a ↦ ancestors_trans (C ++ x ∷ []) (x.hash ∷ []) x m top (subst (λ A. Contains A m) (sym same) a)
        ])
        (λ m c. elim (from_one (C ++ x ∷ []) (one_hash (C ++ x ∷ []) soundD) x x_is m c) [
          | inl e ↦ (0, omega arith, sym e)
          | inr a ↦ let b = subst (λ A. Contains A m) same a in (suc b.0, (let l = b.1 in omega arith), b.2)
        ]) table
      where
        Contains-cons_cases : (x : Member) (xs : List Member) (m : Member) → Contains (x ∷ xs) m → (m ≡ x) ⊎ Contains xs m
        Contains-cons_cases x xs m c = go c.0 c.1 c.2
          where
            go : (k : ℕ) → k < length (x ∷ xs) → get_or (x ∷ xs) k m ≡ m → (m ≡ x) ⊎ Contains xs m
            go zero l e = inl (sym e)
            go (suc k) l e = inr (k, omega arith, e)

  -- of the last place and of those before
  pub whole_joined : WholeOf (g ++ (h, n) ∷ []) (marks ++ mark ∷ []) authors f2
  whole_joined = record {
    sound = sound';
    beside = length_push marks mark ∙ ap suc whole.beside ∙ sym (length_push g (h, n));
    numbers = λ k d e l.
        let long : length (g ++ (h, n) ∷ []) ≡ suc (length g) = length_push g (h, n) in
        let b = whole.beside in
        elim (split_last k (length g) (omega arith)) [
          | inl o ↦ ap (λ q. number authors q.1.actor) (get_or_append_left g ((h, n) ∷ []) e k o)
              ∙ whole.numbers k d e o
              ∙ ap (λ q. Some q.author) (sym (get_or_append_left marks (mark ∷ []) d k (omega arith)))
          | inr o ↦ ap (λ q. number authors q.1.actor) (at_last g (h, n) e k o)
              ∙ is_mark.author
              ∙ ap (λ q. Some q.author) (sym (at_last marks mark d k (omega arith)))
        ];
    depths = λ D is k d m l.
        let split = last_member D g (h, n) (sym is) in
        let C : List Member = split.0 in let x : Member = split.1 in
        let long : length D ≡ suc (length C) = ap length split.2 ∙ length_push C x in
        let z : length g ≡ length C = sym (ap length split.3) ∙ length_nodes C in
        let b = whole.beside in
        elim (split_last k (length C) (omega arith)) [
          | inl o ↦ ap (λ q. q.depth) (get_or_append_left marks (mark ∷ []) d k (omega arith))
              ∙ whole.depths C (sym split.3) k d m o ∙ sym (depth_stay D C x split.2 split.3 split.4 (get_or C k m).change (member_deps D C x split.2 split.3 split.4 k m o))
              ∙ ap (λ q. depth D q.change) (sym (at_old D C x split.2 split.3 split.4 k m o))
          | inr o ↦ ap (λ q. q.depth) (at_last marks mark d k (omega arith))
              ∙ is_mark.depth C (sym split.3) x.change (ap (λ q. q.1) split.4) ∙ sym (depth_stay D C x split.2 split.3 split.4 x.change (x_deps D C x split.2 split.3 split.4))
              ∙ ap (λ q. depth D q.change) (sym (at_new D C x split.2 split.3 split.4 k m o))
        ];
    shallow = λ k d l.
        let long : length (marks ++ mark ∷ []) ≡ suc (length marks) = length_push marks mark in
        let b = whole.beside in let c = is_mark.shallow in
        elim (split_last k (length marks) (omega arith)) [
          | inl o ↦ subst (λ q. q.depth ≤ k) (sym (get_or_append_left marks (mark ∷ []) d k o)) (whole.shallow k d o)
          | inr o ↦ subst (λ q. q.depth ≤ k) (sym (at_last marks mark d k o)) (omega arith)
        ];
    kept = λ k d l.
        let long : length (marks ++ mark ∷ []) ≡ suc (length marks) = length_push marks mark in
        let b = whole.beside in
        elim (split_last k (length marks) (omega arith)) [
          | inl o ↦ subst (λ q. IfSome q.kept (λ T. (length T.items ≤ length authors) × ForSet (g ++ (h, n) ∷ []) (λ D. (m : Member) → k < length D → IsTableOf authors (ancestors D ((get_or D k m).hash ∷ [])) T.items)))
              (sym (get_or_append_left marks (mark ∷ []) d k o))
              (if_some (get_or marks k d).kept _ _ (λ T old. (
                old.0,
                (λ D is m j.
                    let split = last_member D g (h, n) (sym is) in
                    let C : List Member = split.0 in let x : Member = split.1 in
                    let z : length g ≡ length C = sym (ap length split.3) ∙ length_nodes C in
                    let kl : k < length C = omega arith in
                    let cm : Contains C (get_or C k m) = Contains-get_or C k m kl in
                    let own : All (λ d. holds C d ≡ true) ((get_or C k m).hash ∷ []) = All-cons (λ d. holds C d ≡ true) (get_or C k m).hash [] (holds_own C (get_or C k m) cm) (All-nil (λ d. holds C d ≡ true)) in
                    (subst (λ A. IsTableOf authors A T.items)
                    (sym ((λ i. ancestors (split.2 i) ((at_old D C x split.2 split.3 split.4 k m kl i).hash ∷ [])) ∙ stay D C x split.2 split.3 split.4 ((get_or C k m).hash ∷ []) own))
                    (old.1 C (sym split.3) m kl))),
              )) (whole.kept k d o))
          | inr o ↦ subst (λ q. IfSome q.kept (λ T. (length T.items ≤ length authors) × ForSet (g ++ (h, n) ∷ []) (λ D. (m : Member) → k < length D → IsTableOf authors (ancestors D ((get_or D k m).hash ∷ [])) T.items)))
              (sym (at_last marks mark d k o))
              (if_some mark.kept _ _ (λ T new. (
                new.0,
                (λ D is m j.
                    let split = last_member D g (h, n) (sym is) in
                    let C : List Member = split.0 in let x : Member = split.1 in
                    let z : length g ≡ length C = sym (ap length split.3) ∙ length_nodes C in
                    (subst (λ A. IsTableOf authors A T.items)
                    (sym (λ i. ancestors (split.2 i) ((at_new D C x split.2 split.3 split.4 k m (omega arith) i).hash ∷ [])))
                    (new_table D C x split.2 split.3 split.4 T.items (new.1 C (sym split.3) x (ap (λ q. q.1) split.4))))),
              )) is_mark.kept)
        ];
    firsts = λ x a q e.
        let num : number authors x ≡ Some a = e in
        let old = whole.firsts x a q num in
        subst (λ l. IsLeast (f2 a q) l) (sym (having_push g h n x q))
        (subst (λ o. IsLeast o (having g x q ++ cond (same_bytes x n.actor && n.seq == q) (h ∷ []) [])) (sym (notes a q))
        (by_author x a q num old (same_bytes x n.actor) refl (n.seq == q) refl));
    unnamed = λ a q l.
        let few = number_at authors n.actor mark.author is_mark.author in
        let b : mark.author < length authors = few.0 in
        notes a q ∙ ap (λ z. cond (z && q == n.seq) (Some (lesser (f1 a q) h)) (f1 a q)) (ne_eqb a mark.author (λ e. absurd (omega arith))) ∙ whole.unnamed a q (omega arith);
  }
    where
      ne_eqb : (a b : ℕ) → (a ≡ b → ⊥) → (a == b) ≡ false
      ne_eqb a b f = elim (cases_Bool (a == b)) [ inl e ↦ absurd (f (eqb-true a b e)) | inr e ↦ e ]

      by_author : (x : List ℕ) (a q : ℕ) → number authors x ≡ Some a → IsLeast (f1 a q) (having g x q)
          → (b : Bool) → same_bytes x n.actor ≡ b → (c : Bool) → (n.seq == q) ≡ c
          → IsLeast (cond (a == mark.author && q == n.seq) (Some (lesser (f1 a q) h)) (f1 a q)) (having g x q ++ cond (same_bytes x n.actor && n.seq == q) (h ∷ []) [])
      by_author x a q num old true eb true ec =
          let is : x ≡ n.actor = same_bytes-true x n.actor eb in
          let author : Some a ≡ Some mark.author = sym num ∙ ap (number authors) is ∙ is_mark.author in
          let t1 : (a == mark.author) ≡ true = eq-eqb a mark.author (cc) in
          let t2 : (q == n.seq) ≡ true = eq-eqb q n.seq (sym (eqb-true n.seq q ec)) in
          simp (t1, t2, eb, ec) (least_join (f1 a q) (having g x q) h old)
      by_author x a q num old true eb false ec =
          let t2 : (q == n.seq) ≡ false = ne_eqb q n.seq (λ e. both_ways (n.seq == q) ec (eq-eqb n.seq q (sym e))) in
          simp (eb, ec) (simp t2 (nothing (a == mark.author)))
        where
          nothing : (b : Bool) → IsLeast (cond (b && false) (Some (lesser (f1 a q) h)) (f1 a q)) (having g x q ++ [])
          nothing true = subst (IsLeast (f1 a q)) (sym (append-nil (having g x q))) old
          nothing false = subst (IsLeast (f1 a q)) (sym (append-nil (having g x q))) old
      by_author x a q num old false eb c ec =
          let t1 : (a == mark.author) ≡ false = ne_eqb a mark.author (λ e.
          let p = number_at authors x a num in
          let r = number_at authors n.actor mark.author is_mark.author in
          let is : x ≡ n.actor = p.1 ∙ ap (λ k. get_or authors k x) e ∙ get_or_default authors mark.author x n.actor r.0 ∙ sym r.1 in
          both_ways (same_bytes x n.actor) eb (ap (same_bytes x) (sym is) ∙ nat_list_eq_equiv.refl x)) in
          simp (t1, eb) (subst (IsLeast (f1 a q)) (sym (append-nil (having g x q))) old)

-- each member of the graph starts at 1 or later
pub starts_of : (C : List Member) → IsSound (nodes C) → (m : Member) → Contains C m → 1 ≤ m.change.start
starts_of C sound m cm =
    let some : Hash × Node = (m.hash, node_of m.change) in
    let n = length_nodes C in
    let at : get_or (nodes C) cm.0 some ≡ (m.hash, node_of m.change) = node_at C cm.0 m some cm.1 ∙ ap (λ q. (q.hash, node_of q.change)) cm.2 in
    subst (λ q. 1 ≤ q.1.start) at (sound.starts cm.0 some (let b = cm.1 in omega arith))
