-- A part of a valid set that holds the dependencies of its own is a valid set.
use Rattle.std.proofs.Common.{◌≡◌, List, [], ◌∷◌, ◌++◌, filter, Bool, true, refl, sym, ap, ◌∙◌, subst, inl, inr, Contains, IsPermutation}
use Rattle.std.proofs.lemmas.Bool.{cases_Bool}
use Rattle.std.proofs.lemmas.List.{append-nil}
use Rattle.std.proofs.lemmas.List.Elements.{filter-append}
use Rattle.std.proofs.lemmas.List.Sorted.{IsPermutation-sym}
use Rattle.am_types.specs.declared.Hash.{Hash}
use Rattle.am_types.specs.Members.{Member, holds, holds_deps, DepsFirst}
use Rattle.am_types.specs.Ancestors.{is_named, ancestor_hashes, ancestors}
use Rattle.am_types.specs.ValidSets.{JoinInTurn, Valid}
use Rattle.am_laws.proofs.Ancestry.{ancestors_closed, Contains-filter, Contains-from_filter}
use Rattle.am_delivery.proofs.Lists.{Within, Within-add, Contains-none, Contains-here, Contains-later, all_found, all_from, same_members, Within-permutation, Within-permutation_back}
use Rattle.am_delivery.proofs.Members.{among_from, holder, holds_it, distinct_filter, once_from_distinct, distinct_from_once, no_repeat, once_permutation, deps_within}
use Rattle.am_delivery.proofs.SameAncestors.{ancestor_is}
use Rattle.am_delivery.proofs.Reasons.{limits_within}
use Rattle.am_delivery.proofs.Turns.{Good, good, turn_from_deps}

module _ (S : List Member) (p : Member → Bool) (down : (m e : Member) → Contains S m → Contains S e → p m ≡ true → Contains m.change.deps e.hash → p e ≡ true) where
  deps_kept : (before : List Member) (m : Member) → Within before S → Contains S m → p m ≡ true → holds_deps before m.change ≡ true → holds_deps (filter p before) m.change ≡ true
  deps_kept before m b cm pm deps =
      all_from (holds (filter p before)) m.change.deps (λ h d.
      let e = holder before h (all_found (holds before) m.change.deps deps h d) in
      let pe = down m e.0 cm (b e.0 e.1) pm (subst (Contains m.change.deps) (sym e.2) d) in
      subst (λ k. holds (filter p before) k ≡ true) e.2 (holds_it (filter p before) e.0 (Contains-filter p before e.0 e.1 pe)))

  deps_first : (before rest : List Member) → Within before S → Within rest S → JoinInTurn before rest → DepsFirst (filter p before) (filter p rest)
  deps_first before [] b r t = tt
  deps_first before (m ∷ rest) b r t =
      let cm = r m (Contains-here m rest) in
      let again = deps_first (before ++ m ∷ []) rest (Within-add before S m b cm) (λ n c. r n (Contains-later m rest n c)) t.1 in
      let split = filter-append p before (m ∷ []) in
      elim (cases_Bool (p m)) [
        | inl e ↦
            let one : filter p (m ∷ []) ≡ m ∷ [] = simp e refl in
            simp e (deps_kept before m b cm e t.0.deps, subst (λ l. DepsFirst l (filter p rest)) (split ∙ ap (λ l. filter p before ++ l) one) again)
        | inr e ↦
            let none : filter p (m ∷ []) ≡ [] = simp e refl in
            simp e (subst (λ l. DepsFirst l (filter p rest)) (split ∙ ap (λ l. filter p before ++ l) none ∙ append-nil (filter p before)) again)
      ]

  pub part_turn : JoinInTurn [] S → JoinInTurn [] (filter p S)
  part_turn t =
      let gs = good S t in
      turn_from_deps S t (filter p S) (λ n c. (Contains-from_filter p S n c).0) (once_from_distinct _ (distinct_filter p S (distinct_from_once S gs.once)))
      (deps_first [] S (λ n c. absurd (Contains-none n c)) (λ n c. c) t)

pub good_permutation : (C D : List Member) → IsPermutation C D → Good C → Good D
good_permutation C D p g =
    let to = Within-permutation C D p in
    let back = Within-permutation_back C D p in
    let once = once_permutation C D p g.once in
    record {
      once = once;
      seqs = λ m n cm cn a s. g.seqs m n (back m cm) (back n cn) a s;
      limits = limits_within D C (no_repeat D (distinct_from_once D once)) back g.limits;
      closed = λ m c. deps_within C D m.change to (g.closed m (back m c));
    }

pub good_valid : (S : List Member) → Valid S → Good S
good_valid S v = good_permutation v.listing S (IsPermutation-sym S v.listing v.same) (good v.listing v.in_turn)

-- the ancestors of any hashes are a valid set
pub ancestors_valid : (S : List Member) (hs : List Hash) → Valid S → Valid (ancestors S hs)
unfolding ancestors
ancestors_valid S hs v =
    let p = is_named (ancestor_hashes S hs) in
    let l = v.listing in
    let to = Within-permutation S l v.same in
    let back = Within-permutation_back S l v.same in
    let down : (m e : Member) → Contains l m → Contains l e → p m ≡ true → Contains m.change.deps e.hash → p e ≡ true =
    λ m e cm ce pm d. (ancestor_is S hs e (ancestors_closed S hs m e (Contains-filter p S m (back m cm) pm) (among_from m.change.deps e.hash d) (back e ce))).1 in
    let gs = good_valid S v in
    let gl = good l v.in_turn in
    record {
      listing = filter p l;
      same = same_members (filter p S) (filter p l) (no_repeat _ (distinct_filter p S (distinct_from_once S gs.once))) (no_repeat _ (distinct_filter p l (distinct_from_once l gl.once)))
          (λ n c. let f = Contains-from_filter p S n c in Contains-filter p l n (to n f.0) f.1)
          (λ n c. let f = Contains-from_filter p l n c in Contains-filter p S n (back n f.0) f.1);
      in_turn = part_turn l p down v.in_turn;
    }
