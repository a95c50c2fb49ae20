-- Valid sets: each member joins any part of the set that holds its dependencies and not itself.
use Rattle.std.proofs.Common.{ℕ, ◌≡◌, ◌≢◌, List, [], ◌∷◌, ◌++◌, Bool, true, false, Option, Some, None, refl, sym, ap, ◌∙◌, subst, inl, inr, ◌⊎◌, Contains, IsPermutation}
use Rattle.std.proofs.lemmas.List.{append-nil, append_assoc}
use Rattle.std.proofs.lemmas.List.Elements.{Contains-append_left, Contains-push_cases}
use Rattle.am_types.specs.Members.{Member, changes, holds, holds_deps, DepsFirst}
use Rattle.am_types.specs.Ancestors.{ancestors}
use Rattle.am_types.specs.Verdicts.{limit_passed}
use Rattle.am_types.specs.ValidSets.{Joins, JoinInTurn}
use Rattle.am_laws.proofs.VerdictLaws.{fits_by}
use Rattle.am_delivery.proofs.Lists.{Within, Within-add, Contains-none, Contains-here, Contains-later, Contains-cons_cases, all_found}
use Rattle.am_delivery.proofs.Members.{Closed, Unique, Once, deps_within, distinct_from_once, fresh_from_once, once_push, no_repeat, unique}
use Rattle.am_delivery.proofs.SameAncestors.{ancestors_within}
use Rattle.am_delivery.proofs.Reasons.{FitsAncestors, fits_same, fits_over, fits_ancestors, limits_of, limits_within, UniqueSeqs, seq_free}

-- what the members of a valid set have in common
pub record Good (C : List Member) : Type 0 where
  pub once : Once C
  pub seqs : UniqueSeqs C
  pub limits : limit_passed (changes C) ≡ None
  pub closed : Closed C

pub good_none : Good []
good_none = record {
  once = λ h. omega Rattle.std.proofs.Common.arith;
  seqs = λ m n cm cn a s. absurd (Contains-none m cm);
  limits = refl;
  closed = λ m c. absurd (Contains-none m c);
}

pub good_push : (C : List Member) (m : Member) → Good C → Joins C m → Good (C ++ m ∷ [])
good_push C m g j =
    let by = fits_by C m.change j.fits in
    let once : Once (C ++ m ∷ []) = once_push C m g.once j.fresh in
    let more : Within C (C ++ m ∷ []) = λ n c. Contains-append_left C (m ∷ []) n c in
    record {
      once = once;
      seqs = λ k n ck cn a s. elim (Contains-push_cases C m k ck) [
        | inl p ↦ elim (Contains-push_cases C m n cn) [
          | inl q ↦ g.seqs k n p q a s
          | inr f ↦ absurd (seq_free C m.change by.clash k p (a ∙ ap (λ (x : Member). x.change.actor) (sym f)) (s ∙ ap (λ (x : Member). x.change.seq) (sym f)))
        ]
        | inr e ↦ elim (Contains-push_cases C m n cn) [
          | inl q ↦ absurd (seq_free C m.change by.clash n q (sym a ∙ ap (λ (x : Member). x.change.actor) (sym e)) (sym s ∙ ap (λ (x : Member). x.change.seq) (sym e)))
          | inr f ↦ sym e ∙ f
        ]
      ];
      limits = limits_within (C ++ m ∷ []) (m ∷ C) (no_repeat _ (distinct_from_once _ once))
          (λ n cn. elim (Contains-push_cases C m n cn) [ inl p ↦ Contains-later m C n p | inr e ↦ subst (Contains (m ∷ C)) e (Contains-here m C) ])
          (limits_of C m.change by.limits);
      closed = λ n cn. elim (Contains-push_cases C m n cn) [
        | inl p ↦ deps_within C (C ++ m ∷ []) n.change more (g.closed n p)
        | inr e ↦ deps_within C (C ++ m ∷ []) n.change more (subst (λ (x : Member). holds_deps C x.change ≡ true) e j.deps)
      ];
    }

good_all : (before rest : List Member) → Good before → JoinInTurn before rest → Good (before ++ rest)
good_all before [] g t = subst Good (sym (append-nil before)) g
good_all before (m ∷ rest) g t = subst Good (append_assoc before (m ∷ []) rest) (good_all (before ++ m ∷ []) rest (good_push before m g t.0) t.1)

pub good : (C : List Member) → JoinInTurn [] C → Good C
good C t = good_all [] C good_none t

-- a member joined some part
pub record Stood (S : List Member) (m : Member) : Type 0 where
  pub before : List Member
  pub within : Within before S
  pub good : Good before
  pub joins : Joins before m

stood_in : (before rest : List Member) → Good before → JoinInTurn before rest → (m : Member) → Contains rest m → Stood (before ++ rest) m
stood_in before [] g t m c = absurd (Contains-none m c)
stood_in before (x ∷ rest) g t m c = elim (Contains-cons_cases x rest m c) [
  | inl e ↦ record { before = before; within = λ n cn. Contains-append_left before (x ∷ rest) n cn; good = g; joins = subst (Joins before) e t.0 }
  | inr d ↦ subst (λ l. Stood l m) (append_assoc before (x ∷ []) rest) (stood_in (before ++ x ∷ []) rest (good_push before x g t.0) t.1 m d)
]

pub stood : (S : List Member) → JoinInTurn [] S → (m : Member) → Contains S m → Stood S m
stood S t m c = stood_in [] S good_none t m c

-- whether a change fits its ancestors is the same over all closed parts that hold its dependencies
pub fits_elsewhere :
    (D : List Member) → Unique D → (B C : List Member) → Within B D → Within C D → Closed B → Closed C → (m : Member) → holds_deps B m.change ≡ true → holds_deps C m.change ≡ true
    → FitsAncestors (ancestors B m.change.deps) m.change → FitsAncestors (ancestors C m.change.deps) m.change
fits_elsewhere D uniq B C b c cb cc' m db dc f =
    fits_same (ancestors B m.change.deps) (ancestors C m.change.deps) m.change
    (ancestors_within D uniq B C b c cc' m.change.deps (λ h d. all_found (holds C) m.change.deps dc h d))
    (ancestors_within D uniq C B c b cb m.change.deps (λ h d. all_found (holds B) m.change.deps db h d)) f

module _ (S : List Member) (turn : JoinInTurn [] S) where
  pub joins_anywhere : (C : List Member) → Within C S → Good C → (m : Member) → Contains S m → holds C m.hash ≡ false → holds_deps C m.change ≡ true → Joins C m
  joins_anywhere C w g m c fresh deps =
      let st = stood S turn m c in
      let gs = good S turn in
      let uniq = unique S (distinct_from_once S gs.once) in
      let above = fits_elsewhere S uniq st.before C st.within w st.good.closed g.closed m st.joins.deps deps (fits_ancestors st.before m.change st.joins.fits) in
      record {
        fresh = fresh;
        deps = deps;
        hash = st.joins.hash;
        fine = st.joins.fine;
        fits = fits_over S gs.seqs gs.limits C w (no_repeat C (distinct_from_once C g.once)) m c fresh above;
      }

  turn_from : (before L : List Member) → Good before → Within before S → Within L S → Once (before ++ L) → DepsFirst before L → JoinInTurn before L
  turn_from before [] g b l o d = tt
  turn_from before (m ∷ L) g b l o d =
      let cm = l m (Contains-here m L) in
      let j = joins_anywhere before b g m cm (fresh_from_once before m L o) d.0 in
      (j, turn_from (before ++ m ∷ []) L (good_push before m g j) (Within-add before S m b cm) (λ n cn. l n (Contains-later m L n cn)) (subst Once (sym (append_assoc before (m ∷ []) L)) o) d.1)

  -- each listing of a part with dependencies first
  pub turn_from_deps : (L : List Member) → Within L S → Once L → DepsFirst [] L → JoinInTurn [] L
  turn_from_deps L w o d = turn_from [] L good_none (λ n c. absurd (Contains-none n c)) w o d

-- a set that takes each member whose dependencies it holds takes all
pub catch_up :
    (C before rest : List Member) → Good before → Within before C → JoinInTurn before rest
    → ((b : List Member) (m : Member) → Contains rest m → Within b C → Good b → Joins b m → Contains C m) → Within rest C
catch_up C before [] g w t takes n c = absurd (Contains-none n c)
catch_up C before (m ∷ rest) g w t takes n c =
    let cm = takes before m (Contains-here m rest) w g t.0 in
    elim (Contains-cons_cases m rest n c) [
      | inl e ↦ subst (Contains C) e cm
      | inr d ↦ catch_up C (before ++ m ∷ []) rest (good_push before m g t.0) (Within-add before C m w cm) t.1 (λ b k ck wb gb j. takes b k (Contains-later m rest k ck) wb gb j) n d
    ]

pub takes_all :
    (C S : List Member) → JoinInTurn [] S → ((b : List Member) (m : Member) → Contains S m → Within b C → Good b → Joins b m → Contains C m) → Within S C
takes_all C S t takes = catch_up C [] S good_none (λ n c. absurd (Contains-none n c)) t takes
