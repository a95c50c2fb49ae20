-- The parts of a graph stay whole when the change that came last leaves.
use Rattle.std.proofs.Common.{ℕ, suc, ◌≡◌, ◌+◌, ◌<◌, ◌≤◌, ◌^◌, ◌==◌, ◌&&◌, List, [], ◌∷◌, ◌++◌, length, map, take, get_or, Bool, true, false, cond, Option, Some, None, refl, sym, ap, ◌∙◌, subst, inl, inr, All, Contains, arith, eq-eqb, pos, replicate}
use Rattle.std.proofs.lemmas.Bool.{cases_Bool, both_ways, and_parts, and_from, eqb-true}
use Rattle.std.proofs.lemmas.List.{append-nil, map-append, length-replicate, get_or_append_left, get_or_default, nil_from_length, take_all, take_more, length-append}
use Rattle.std.proofs.lemmas.List.Elements.{All-contains, All-cons, All-nil, Contains-append_left, Contains-get_or}
use Rattle.std.specs.Option.{IfSome}
use Rattle.std.specs.List.{slice_get}
use Rattle.std.proofs.lemmas.Option.{slice_get-get_or}
use Rattle.std.proofs.lemmas.Cmp.{nat_list_eq_equiv}
use Rattle.am_types.specs.declared.Hash.{Hash}
use Rattle.am_types.specs.declared.ObjId.TheVariants.{Root}
use Rattle.am_types.specs.declared.Key.TheVariants.{Head}
use Rattle.am_types.specs.declared.Op.{Op}
use Rattle.am_types.specs.declared.Change.{Change}
use Rattle.am_types.specs.Order.{hash_cmp, among}
use Rattle.am_types.specs.Same.{same_bytes, same_hash}
use Rattle.am_types.specs.Members.{Member, holds}
use Rattle.am_types.specs.Ancestors.{ancestors}
use Rattle.am_types.specs.Canonical.{depth}
use Rattle.am_types.proofs.Orders.{same_hash_itself, same_bytes-true}
use Rattle.am_laws.proofs.Agreement.{held_member}
use Rattle.am_laws.proofs.Growth.{ancestors_stay, among_at, found_among}
use Rattle.am_laws.proofs.Listed.{holds_own}
use Rattle.am_graph.specs.declared.node.Node.{Node}
use Rattle.am_graph.specs.declared.parts.Mark.{Mark}
use Rattle.am_graph.specs.Graphs.{node_of, nodes, ForSet, names, is_held, IsSound, IsLeast, having, HasDistinctSeqs}
use Rattle.am_graph.specs.Reaches.{number, IsTableOf}
use Rattle.am_graph.specs.Whole.{WholeOf, Forgets}
use Rattle.am_graph.proofs.Held.{is_held-nodes}
use Rattle.am_graph.proofs.Depths.{low_all, same_depth}
use Rattle.am_graph.proofs.Growing.{length_nodes, node_at, closed_of, low_of, length_push, at_last, having_push, deps_stay, if_some, number_at}

-- ---- a set with these changes

some_op : Op
some_op = record { obj = Root; key = Head; insert = false; action = 0; value = record { kind = 0; raw = [] }; preds = []; expand = false; mark = None }

member_with : Hash × Node → Member
member_with e = record { hash = e.0; change = record { deps = e.1.deps; actor = e.1.actor; seq = e.1.seq; start = e.1.start; time = pos 0; message = []; ops = replicate e.1.count some_op; extra = [] } }

node_back : (e : Hash × Node) → ◌≡◌ {A = Hash × Node} ((member_with e).hash, node_of (member_with e).change) e
unfolding member_with
node_back e = λ i. (e.0, record { actor = e.1.actor; seq = e.1.seq; start = e.1.start; count = length-replicate e.1.count some_op i; deps = e.1.deps })

nodes_back : (g : List (Hash × Node)) → nodes (map member_with g) ≡ g
nodes_back [] = refl
nodes_back (e ∷ g) = let again = nodes_back g in λ i. node_back e i ∷ again i

-- ---- a set without the last of its members

module _ (C : List Member) (x : Member) (sound : IsSound (nodes (C ++ x ∷ []))) where
  at_old : (k : ℕ) (m : Member) → k < length C → get_or (C ++ x ∷ []) k m ≡ get_or C k m
  at_old k m l = get_or_append_left C (x ∷ []) m k l

  at_new : (m : Member) → get_or (C ++ x ∷ []) (length C) m ≡ x
  at_new m = at_last C x m (length C) refl

  in_all : (m : Member) → Contains C m → Contains (C ++ x ∷ []) m
  in_all m c = Contains-append_left C (x ∷ []) m c

  -- what a member names is before it
  earlier : (j : ℕ) (d : Member) → j ≤ length C → All (λ h. holds C h ≡ true) (get_or (C ++ x ∷ []) j d).change.deps
  earlier j d l k e b =
      let D = C ++ x ∷ [] in
      let long : length D ≡ suc (length C) = length_push C x in
      let y = get_or D j d in
      let h = get_or y.change.deps k e in
      let found = held_member D h (closed_of D sound y (Contains-get_or D j d (omega arith)) k e b) in
      let named : among hash_cmp y.change.deps found.0.hash ≡ true = among_at y.change.deps found.0.hash e k b found.2 in
      let low = low_of D sound j d (omega arith) found.0 found.1 named in
      let before : low.0 < length C = (let a = low.1 in omega arith) in
      subst (λ h. holds C h ≡ true) found.2 (holds_own C found.0 (low.0, before, sym (at_old low.0 found.0 before) ∙ low.3))

  member_deps : (m : Member) → Contains C m → All (λ h. holds C h ≡ true) m.change.deps
  member_deps m c = subst (λ (y : Member). All (λ h. holds C h ≡ true) y.change.deps) (at_old c.0 m c.1 ∙ c.2) (earlier c.0 m (let l = c.1 in omega arith))

  last_fresh : holds C x.hash ≡ false
  last_fresh = elim (cases_Bool (holds C x.hash)) [
    | inl t ↦
        let D = C ++ x ∷ [] in
        let long : length D ≡ suc (length C) = length_push C x in
        let found = held_member C x.hash t in
        let some : Hash × Node = (x.hash, node_of x.change) in
        let here = found.1 in
        let l : here.0 < length C = here.1 in
        let n = length_nodes D in
        let first : (get_or (nodes D) here.0 some).0 ≡ x.hash = ap (λ q. q.0) (node_at D here.0 found.0 some (omega arith)) ∙ ap (λ (q : Member). q.hash) (at_old here.0 found.0 l ∙ here.2) ∙ found.2 in
        let second : (get_or (nodes D) (length C) some).0 ≡ x.hash = ap (λ q. q.0) (node_at D (length C) x some (omega arith)) ∙ ap (λ (q : Member). q.hash) (at_new x) in
        absurd (both_ways _ (sound.distinct here.0 (length C) some l (omega arith)) ((λ i. same_hash (first i) (second i)) ∙ same_hash_itself x.hash))
    | inr f ↦ f
  ]

  at_node : (k : ℕ) (e : Hash × Node) → k < length (nodes C) → get_or (nodes (C ++ x ∷ [])) k e ≡ get_or (nodes C) k e
  at_node k e l = ap (λ g. get_or g k e) (map-append (λ (m : Member). (m.hash, node_of m.change)) C (x ∷ [])) ∙ get_or_append_left (nodes C) ((x.hash, node_of x.change) ∷ []) e k l

  longer : length (nodes (C ++ x ∷ [])) ≡ suc (length (nodes C))
  longer = length_nodes (C ++ x ∷ []) ∙ length_push C x ∙ ap suc (sym (length_nodes C))

  pub sound_cut : IsSound (nodes C)
  sound_cut = record {
    closed = λ k e l a d b.
        let n = length_nodes C in
        let y : Member = member_with e in
        let kl : k < length C = omega arith in
        let at = node_at C k y e kl in
        let deps = member_deps (get_or C k y) (Contains-get_or C k y kl) in
        subst (λ (q : Hash × Node). All (λ h. is_held (nodes C) h ≡ true) q.1.deps) (sym at) (λ a d b. is_held-nodes C (get_or (get_or C k y).change.deps a d) ∙ deps a d b) a d b;
    backward = λ i j d z l. let n = longer in
        (λ t. names (sym (at_node i d (omega arith)) t) (sym (at_node j d l) t).0) ∙ sound.backward i j d z (omega arith);
    distinct = λ i j d z l. let n = longer in
        (λ t. same_hash (sym (at_node i d (omega arith)) t).0 (sym (at_node j d l) t).0) ∙ sound.distinct i j d z (omega arith);
    starts = λ k e l. let n = longer in subst (λ (q : Hash × Node). 1 ≤ q.1.start) (at_node k e l) (sound.starts k e (omega arith));
    ends = λ k e l. let n = longer in subst (λ (q : Hash × Node). q.1.start + q.1.count ≤ 2 ^ 53) (at_node k e l) (sound.ends k e (omega arith));
  }

  stay : (hs : List Hash) → All (λ d. holds C d ≡ true) hs → ancestors (C ++ x ∷ []) hs ≡ ancestors C hs
  stay hs all = ancestors_stay C (x ∷ []) hs member_deps all (All-cons (λ m. holds C m.hash ≡ false) x [] last_fresh (All-nil (λ m. holds C m.hash ≡ false)))

  unnamed_by : (hs : List Hash) → All (λ d. holds C d ≡ true) hs → among hash_cmp hs x.hash ≡ false
  unnamed_by hs all = elim (cases_Bool (among hash_cmp hs x.hash)) [
    | inl e ↦ absurd (both_ways (holds C x.hash) last_fresh (All-contains (λ d. holds C d ≡ true) hs x.hash all (found_among hs x.hash e)))
    | inr e ↦ e
  ]

  depth_stay : (c : Change) → All (λ d. holds C d ≡ true) c.deps → depth (C ++ x ∷ []) c ≡ depth C c
  unfolding depth
  depth_stay c all =
      let long = length_push C x in
      same_depth C (C ++ x ∷ []) (low_of C sound_cut) (λ j d l. deps_stay C x (get_or C j d).change (unnamed_by _ (member_deps (get_or C j d) (Contains-get_or C j d l))))
      (length C) (length (C ++ x ∷ [])) (length C) (omega arith) (omega arith) c (low_all C c) (deps_stay C x c (unnamed_by c.deps all))

-- ---- the parts without the last change

module _ (g : List (Hash × Node)) (marks : List Mark) (authors : List (List ℕ)) (f1 f2 : ℕ → ℕ → Option Hash) (e : Hash × Node) (mark : Mark)
    (whole : WholeOf (g ++ e ∷ []) (marks ++ mark ∷ []) authors f1) (seqs : HasDistinctSeqs (g ++ e ∷ [])) (forgets : Forgets f1 f2 mark.author e.1.seq) where
  with_last : (C : List Member) → g ≡ nodes C → g ++ e ∷ [] ≡ nodes (C ++ member_with e ∷ [])
  with_last C is = (λ i. is i ++ sym (node_back e) i ∷ []) ∙ sym (map-append (λ (m : Member). (m.hash, node_of m.change)) C (member_with e ∷ []))

  sound_with : (C : List Member) → g ≡ nodes C → IsSound (nodes (C ++ member_with e ∷ []))
  sound_with C is = subst IsSound (with_last C is) whole.sound

  one_less : length marks ≡ length g
  one_less = let a = whole.beside in let b = length_push marks mark in let c = length_push g e in omega arith

  mark_at : (k : ℕ) (d : Mark) → k < length marks → get_or (marks ++ mark ∷ []) k d ≡ get_or marks k d
  mark_at k d l = get_or_append_left marks (mark ∷ []) d k l

  author_of_last : number authors e.1.actor ≡ Some mark.author
  author_of_last =
      let long = length_push g e in
      let beside = one_less in
      ap (λ (q : Hash × Node). number authors q.1.actor) (sym (at_last g e e (length g) refl)) ∙ whole.numbers (length g) mark e (omega arith) ∙ ap (λ (q : Mark). Some q.author) (at_last marks mark mark (length g) (sym beside))

  pub whole_cut : WholeOf g marks authors f2
  whole_cut = record {
    sound = subst IsSound (nodes_back g) (sound_cut (map member_with g) (member_with e) (sound_with (map member_with g) (sym (nodes_back g))));
    beside = one_less;
    numbers = λ k d q l. let long = length_push g e in let b = one_less in
        ap (λ (q : Hash × Node). number authors q.1.actor) (sym (get_or_append_left g (e ∷ []) q k l)) ∙ whole.numbers k d q (omega arith) ∙ ap (λ (q : Mark). Some q.author) (mark_at k d (omega arith));
    depths = λ C is k d m l.
        let x = member_with e in
        let b = one_less in let n = length_nodes C in let z = ap length is in let long = length_push C x in
        let sound = sound_with C is in
        ap (λ (q : Mark). q.depth) (sym (mark_at k d (omega arith)))
        ∙ whole.depths (C ++ x ∷ []) (with_last C is) k d m (omega arith)
        ∙ ap (λ (q : Member). depth (C ++ x ∷ []) q.change) (at_old C x sound k m l)
        ∙ depth_stay C x sound (get_or C k m).change (member_deps C x sound (get_or C k m) (Contains-get_or C k m l));
    shallow = λ k d l. let long = length_push marks mark in subst (λ (q : Mark). q.depth ≤ k) (mark_at k d l) (whole.shallow k d (omega arith));
    kept = λ k d l. let long = length_push marks mark in
        if_some (get_or marks k d).kept _ _ (λ T had. (
          had.0,
          λ C is m j.
              let x = member_with e in
              let more = length_push C x in
              let sound = sound_with C is in
              let own : All (λ d. holds C d ≡ true) ((get_or C k m).hash ∷ []) = All-cons (λ d. holds C d ≡ true) (get_or C k m).hash [] (holds_own C (get_or C k m) (Contains-get_or C k m j)) (All-nil (λ d. holds C d ≡ true)) in
              subst (λ A. IsTableOf authors A T.items)
              ((λ i. ancestors (C ++ x ∷ []) ((at_old C x sound k m j i).hash ∷ [])) ∙ stay C x sound ((get_or C k m).hash ∷ []) own)
              (had.1 (C ++ x ∷ []) (with_last C is) m (omega arith)),
        ))
        (subst (λ (q : Mark). IfSome q.kept (λ T. (length T.items ≤ length authors) × ForSet (g ++ e ∷ []) (λ C. (m : Member) → k < length C → IsTableOf authors (ancestors C ((get_or C k m).hash ∷ [])) T.items))) (mark_at k d l) (whole.kept k d (omega arith)));
    firsts = λ x a q num. by_pair x a q num (a == mark.author && q == e.1.seq) refl;
    unnamed = λ a q l. forgets a q ∙ ap (λ o. cond (a == mark.author && q == e.1.seq) None o) (whole.unnamed a q l) ∙ both_none (a == mark.author && q == e.1.seq);
  }
    where
      both_none : (b : Bool) → ◌≡◌ {A = Option Hash} (cond b None None) None
      both_none true = refl
      both_none false = refl

      same_number : (x : List ℕ) (a : ℕ) → number authors x ≡ Some a → a ≡ mark.author → x ≡ e.1.actor
      same_number x a num is =
          let p = number_at authors x a num in
          let r = number_at authors e.1.actor mark.author author_of_last in
          p.1 ∙ ap (λ k. get_or authors k x) is ∙ get_or_default authors mark.author x e.1.actor r.0 ∙ sym r.1

      is_last : (x : List ℕ) (a q : ℕ) → number authors x ≡ Some a → (same_bytes x e.1.actor && e.1.seq == q) ≡ true → (a == mark.author && q == e.1.seq) ≡ true
      is_last x a q num t =
          let parts = and_parts (same_bytes x e.1.actor) (e.1.seq == q) t in
          let actor : x ≡ e.1.actor = same_bytes-true x e.1.actor parts.0 in
          let author : Some a ≡ Some mark.author = sym num ∙ ap (number authors) actor ∙ author_of_last in
          and_from _ _ (eq-eqb a mark.author (cc)) (eq-eqb q e.1.seq (sym (eqb-true e.1.seq q parts.1)))

      by_pair : (x : List ℕ) (a q : ℕ) → number authors x ≡ Some a → (b : Bool) → (a == mark.author && q == e.1.seq) ≡ b → IsLeast (f2 a q) (having g x q)
      by_pair x a q num true t =
          let parts = and_parts (a == mark.author) (q == e.1.seq) t in
          let actor : x ≡ e.1.actor = same_number x a num (eqb-true a mark.author parts.0) in
          let same : (same_bytes x e.1.actor && e.1.seq == q) ≡ true = and_from _ _ (ap (same_bytes x) (sym actor) ∙ nat_list_eq_equiv.refl x) (eq-eqb e.1.seq q (sym (eqb-true q e.1.seq parts.1))) in
          let pushed : having (g ++ e ∷ []) x q ≡ having g x q ++ e.0 ∷ [] = having_push g e.0 e.1 x q ∙ ap (λ b. having g x q ++ cond b (e.0 ∷ []) []) same in
          let one = seqs.once x q in
          let size = ap length pushed ∙ length_push (having g x q) e.0 in
          subst (λ o. IsLeast o (having g x q)) (sym (forgets a q ∙ ap (λ b. cond b None (f1 a q)) t)) (nil_from_length (having g x q) (omega arith))
      by_pair x a q num false t =
          let other : (same_bytes x e.1.actor && e.1.seq == q) ≡ false = elim (cases_Bool (same_bytes x e.1.actor && e.1.seq == q)) [
            | inl s ↦ absurd (both_ways _ t (is_last x a q num s))
            | inr f ↦ f
          ] in
          let pushed : having (g ++ e ∷ []) x q ≡ having g x q = having_push g e.0 e.1 x q ∙ ap (λ b. having g x q ++ cond b (e.0 ∷ []) []) other ∙ append-nil (having g x q) in
          subst (λ o. IsLeast o (having g x q)) (sym (forgets a q ∙ ap (λ b. cond b None (f1 a q)) t)) (subst (IsLeast (f1 a q)) pushed (whole.firsts x a q num))

-- the rest has distinct seqs too
pub seqs_cut : (g : List (Hash × Node)) (e : Hash × Node) → HasDistinctSeqs (g ++ e ∷ []) → HasDistinctSeqs g
seqs_cut g e seqs = record {
  once = λ x q.
      let all = seqs.once x q in
      let size = ap length (having_push g e.0 e.1 x q) ∙ length-append (having g x q) (cond (same_bytes x e.1.actor && e.1.seq == q) (e.0 ∷ []) []) in
      omega arith;
}

-- a list is its last entry behind the others
split_last : {X : Type 0} (xs : List X) (x : X) (n : ℕ) → length xs ≡ suc n → slice_get xs n ≡ Some x → xs ≡ take n xs ++ x ∷ []
split_last xs x n e at =
    let next : n + 1 ≡ length xs = omega arith in
    let here : Some x ≡ Some (get_or xs n x) = sym at ∙ slice_get-get_or xs n x (omega arith) in
    let is : get_or xs n x ≡ x = cc in
    sym (take_all (n + 1) xs (omega arith)) ∙ take_more xs n x (omega arith) ∙ ap (λ y. take n xs ++ y ∷ []) is

module _ (g : List (Hash × Node)) (e : Hash × Node) (n : ℕ) (long : length g ≡ suc n) (at : slice_get g n ≡ Some e) where
  pub whole_shorter : (marks : List Mark) (authors : List (List ℕ)) (f1 f2 : ℕ → ℕ → Option Hash) (mark : Mark) → slice_get marks n ≡ Some mark
      → WholeOf g marks authors f1 → HasDistinctSeqs g → Forgets f1 f2 mark.author e.1.seq → WholeOf (take n g) (take n marks) authors f2
  whole_shorter marks authors f1 f2 mark marked whole seqs forgets =
      let beside = whole.beside in
      let split = split_last g e n long at in
      let marks_split = split_last marks mark n (omega arith) marked in
      whole_cut (take n g) (take n marks) authors f1 f2 e mark (subst (λ m. WholeOf (take n g ++ e ∷ []) m authors f1) marks_split (subst (λ g. WholeOf g marks authors f1) split whole)) (subst HasDistinctSeqs split seqs) forgets

  pub seqs_shorter : HasDistinctSeqs g → HasDistinctSeqs (take n g)
  seqs_shorter seqs = seqs_cut (take n g) e (subst HasDistinctSeqs (split_last g e n long at) seqs)
