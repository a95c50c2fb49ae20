-- One step of settling, as the map of the waiting changes and the tracker have it.
use Rattle.std.proofs.Common.{get_or, ℕ, count_by, ◌≤◌, ◌≡◌, ◌≢◌, List, [], ◌∷◌, ◌++◌, map, true, false, not, Option, Some, None, refl, sym, ap, ◌∙◌, subst, inl, inr, All, Contains, option_map}
use Rattle.std.specs.Global.{Box}
use Rattle.std.specs.Box.{box_value}
use Rattle.std.specs.BTreeMap.{BTreeMap, get, is_at, IsOrdered}
use Rattle.std.specs.Map.{keys_of, remove_entry}
use Rattle.std.specs.Ordering.{is_gt}
use Rattle.std.specs.declared.cmp.Ordering.TheVariants.{Less}
use Rattle.std.proofs.lemmas.Bool.{cases_Bool, or_parts, false_from_ne_true}
use Rattle.std.proofs.lemmas.Cmp.{tied_itself}
use Rattle.std.proofs.lemmas.List.Elements.{All-contains, All-filter, Contains-get_or}
use Rattle.std.proofs.lemmas.Map.Views.{btree_map_get_iff}
use Rattle.am_types.specs.declared.Hash.{Hash}
use Rattle.am_types.specs.declared.Change.{Change}
use Rattle.am_types.specs.declared.Verdict.{Verdict}
use Rattle.am_types.specs.declared.Verdict.TheVariants.{Fits}
use Rattle.am_types.specs.declared.Why.{Why}
use Rattle.am_types.specs.declared.Rejected.{Rejected}
use Rattle.am_types.specs.Order.{hash_cmp, same, among}
use Rattle.am_types.specs.Fine.{Fine}
use Rattle.am_types.specs.Members.{Member, hashes, holds, holds_deps}
use Rattle.am_types.specs.Verdicts.{verdict}
use Rattle.am_types.specs.ValidSets.{Valid, Joins}
use Rattle.am_types.specs.Deliver.{Sets, Waits, ready, without, turned_away, admit_by, admit, TakesOne}
use Rattle.am_laws.proofs.Ancestry.{Contains-from_filter}
use Rattle.am_types.proofs.Orders.{hash_total, hash_exact, same_hash-true}
use Rattle.am_delivery.specs.Tracking.{Tracker, Tracks, Takes, Releases}
use Rattle.am_delivery.proofs.Lists.{NoRepeat, Contains-here, Contains-later, Contains-cons_cases, Contains-from_map}
use Rattle.am_delivery.proofs.Members.{Distinct, from_among, distinct_filter}
use Rattle.am_delivery.proofs.Settling.{first_ready, waits_still, fresh_push}
use Rattle.am_delivery.proofs.Steady.{valid_push}
use Rattle.am_delivery.proofs.Tracking.{strict_no_repeat, IsNext, least_is_next, takes_tracks, releases_tracks, enough_missing}
use Rattle.am_delivery.specs.Waiting.{member_of, out_of_box, unboxed, waiting_of, remaining}
use Rattle.am_delivery.proofs.Boxes.{change_at, unboxed_keys, unboxed_remove}

-- ---- the map

hashes_are : (es : List (Hash × Change)) → hashes (map member_of es) ≡ keys_of es
hashes_are [] = refl
hashes_are (e ∷ es) = ap (λ hs. e.0 ∷ hs) (hashes_are es)

distinct_from_hashes : (C : List Member) → NoRepeat (hashes C) → Distinct C
distinct_from_hashes [] nr = tt
distinct_from_hashes (m ∷ C) nr = (false_from_ne_true _ (λ t. nr.0 (from_among (hashes C) m.hash t)), distinct_from_hashes C nr.1)

pub without_none : (h : Hash) (W : List Member) → holds W h ≡ false → without h W ≡ W
without_none h [] f = refl
without_none h (m ∷ W) f =
    let p = or_parts (same hash_cmp h m.hash) (holds W h) f in
    let again : without h W ≡ W = without_none h W p.1 in
    simp p.0 (ap (λ l. m ∷ l) again)

remove_is : (h : Hash) (es : List (Hash × Change)) → Distinct (map member_of es) → map member_of (remove_entry (is_at (hash_cmp h)) es) ≡ without h (map member_of es)
remove_is h [] d = refl
remove_is h (e ∷ es) d =
    let again : map member_of (remove_entry (is_at (hash_cmp h)) es) ≡ without h (map member_of es) = remove_is h es d.1 in
    elim (cases_Bool (same hash_cmp h e.0)) [
      | inl t ↦
          let rest : without h (map member_of es) ≡ map member_of es = without_none h (map member_of es) (subst (λ k. holds (map member_of es) k ≡ false) (sym (same_hash-true h e.0 t)) d.0) in
          simp t (sym rest)
      | inr f ↦ simp f (ap (λ l. member_of e ∷ l) again)
    ]

module _ (w : BTreeMap Hash (Box Change)) (ordered : IsOrdered hash_cmp w) where
  pub distinct : Distinct (waiting_of w)
  distinct = distinct_from_hashes (waiting_of w) (subst NoRepeat (sym (hashes_are (unboxed w.entries) ∙ unboxed_keys w.entries)) (strict_no_repeat (keys_of w.entries) ordered))

  pub removed : (h : Hash) (v : BTreeMap Hash (Box Change)) → v.entries ≡ remove_entry (is_at (hash_cmp h)) w.entries → waiting_of v ≡ without h (waiting_of w)
  removed h v e = ap (λ es. map member_of (unboxed es)) e ∙ ap (map member_of) (unboxed_remove (is_at (hash_cmp h)) w.entries) ∙ remove_is h (unboxed w.entries) distinct

  pub found : (m : Member) → Contains (waiting_of w) m → change_at w m.hash ≡ Some m.change
  found m c =
      let e = Contains-from_map member_of (unboxed w.entries) m c in
      let b = Contains-from_map out_of_box w.entries e.0 e.1 in
      let there = (btree_map_get_iff hash_total hash_exact w ordered b.0.0 b.0.1).1 b.1 in
      subst (λ (k : Member). change_at w k.hash ≡ Some k.change) (ap member_of b.2 ∙ e.2) (ap (option_map box_value) there)

-- ---- the step

-- m is the first that is ready
pub record Turn (C W : List Member) (m : Member) : Type 0 where
  pub waits : Contains W m
  pub deps : holds_deps C m.change ≡ true
  pub first : ready C W ≡ m ∷ ready C (without m.hash W)

module _ (C : List Member) (w : BTreeMap Hash (Box Change)) (ordered : IsOrdered hash_cmp w) (gone : List Hash) (t u : Tracker) (tracks : Tracks C (remaining gone (waiting_of w)) t)
    (waiting : All (Waits C) (remaining gone (waiting_of w)))
    (h : Hash) (first : t.ready ≡ h ∷ u.ready) (above : All (λ g. hash_cmp h g ≡ Less) u.ready) (counts : u.missing ≡ t.missing) (names : u.waiting_for ≡ t.waiting_for) where
  abbrev W : List Member
  W = remaining gone (waiting_of w)

  abbrev apart : Distinct W
  apart = distinct_filter (λ m. not (among hash_cmp gone m.hash)) (waiting_of w) (distinct w ordered)

  differ : (g : Hash) → hash_cmp h g ≡ Less → (g ≢ h)
  differ g l e =
      let a : hash_cmp h h ≡ Less = subst (λ k. hash_cmp h k ≡ Less) e l in
      let b = tied_itself hash_total h in
      cc

  pub least : (g : Hash) → Contains t.ready g → is_gt (hash_cmp h g) ≡ false
  least g c = elim (Contains-cons_cases h u.ready g (subst (λ l. Contains l g) first c)) [
    | inl e ↦ subst (λ k. is_gt (hash_cmp h k) ≡ false) e (ap is_gt (tied_itself hash_total h))
    | inr d ↦ ap is_gt (All-contains (λ g. hash_cmp h g ≡ Less) u.ready g above d)
  ]

  abbrev next : IsNext C W h
  next = least_is_next C W t tracks apart h (subst (λ l. Contains l h) (sym first) (Contains-here h u.ready)) least

  -- the change that is found there is the first ready one
  pub change_is : (o : Option (Box Change)) → o ≡ get hash_cmp w h → option_map box_value o ≡ Some next.next.change
  change_is o e = ap (option_map box_value) e ∙ ap (change_at w) (sym next.hash) ∙ found w ordered next.next (Contains-from_filter (λ m. not (among hash_cmp gone m.hash)) (waiting_of w) next.next next.waits).0

  pub never_none : (o : Option (Box Change)) → o ≡ get hash_cmp w h → o ≡ None → ⊥
  never_none o e f = let g = sym (ap (option_map box_value) f) ∙ change_is o e in cc

  pub turn : (b : Box Change) (c : Change) → Some b ≡ get hash_cmp w h → c ≡ b.value → Turn C W (record { hash = h; change = c })
  turn b c e is =
      let g : Some b.value ≡ Some next.next.change = change_is (Some b) e in
      let same_change : next.next.change ≡ c = cc in
      subst (Turn C W) (λ i. record { hash = next.hash i; change = same_change i }) (record { waits = next.waits; deps = next.deps; first = next.first })

  taken : Takes h t u
  taken = record {
    counts = λ g. ap (λ (f : Hash → ℕ). f g) counts;
    names = λ g. ap (λ (f : Hash → List Hash). f g) names;
    ready = λ g. (
      λ c. (subst (λ l. Contains l g) (sym first) (Contains-later h u.ready g c), differ g (All-contains (λ g. hash_cmp h g ≡ Less) u.ready g above c)),
      λ c. elim (Contains-cons_cases h u.ready g (subst (λ l. Contains l g) first c.0)) [ inl e ↦ absurd (c.1 (sym e)) | inr d ↦ d ],
    );
  }

  module _ (c : Change) (now : Turn C W (record { hash = h; change = c })) where
    abbrev m : Member
    m = record { hash = h; change = c }

    pub tracks_taken : Tracks C (without h W) u
    tracks_taken = takes_tracks C W t tracks m now.waits now.deps u taken

    still_fine : (n : Member) → Contains (without h W) n → Fine n.change
    still_fine n k = (All-contains (Waits C) W n waiting (waits_still m n W k).0).may_come.fine

    is_fresh : holds C h ≡ false
    is_fresh = (All-contains (Waits C) W m waiting now.waits).fresh

    pub enough : (g : Hash) → count_by (same hash_cmp g) (u.waiting_for h) ≤ u.missing g
    enough = enough_missing C (without h W) u tracks_taken still_fine h is_fresh

    pub tracks_released : (v : Tracker) → Releases h u v → Tracks (C ++ m ∷ []) (without h W) v
    tracks_released v r = releases_tracks C (without h W) u tracks_taken still_fine m is_fresh v r

    pub takes_fitting : (R : List Rejected) (D V : List Member) → Fits ≡ verdict C c → D ≡ C ++ m ∷ [] → V ≡ without h W
        → TakesOne (record { closed = C; waiting = W; rejected = R }) (record { closed = D; waiting = V; rejected = R })
    takes_fitting R D V f d v = record {
      first = m;
      others = ready C (without h W);
      are_ready = now.first;
      admits = (λ i. record { closed = d i; waiting = v i; rejected = R }) ∙ ap (λ r. admit_by r m (record { closed = C; waiting = W; rejected = R })) f;
    }

    pub takes_unfitting : (r : Verdict) (why : Why) (R Q : List Rejected) (V : List Member) → r ≡ verdict C c → ((m : Member) (s : Sets) → admit_by r m s ≡ turned_away why m s)
        → V ≡ without h W → Q ≡ R ++ record { hash = h; why = why } ∷ [] → TakesOne (record { closed = C; waiting = W; rejected = R }) (record { closed = C; waiting = V; rejected = Q })
    takes_unfitting r why R Q V f away v q = record {
      first = m;
      others = ready C (without h W);
      are_ready = now.first;
      admits = (λ i. record { closed = C; waiting = v i; rejected = q i }) ∙ sym (away m (record { closed = C; waiting = W; rejected = R })) ∙ ap (λ r. admit_by r m (record { closed = C; waiting = W; rejected = R })) f;
    }

    pub joins : Fits ≡ verdict C c → Joins C m
    joins f =
        let w = All-contains (Waits C) W m waiting now.waits in
        record { hash = w.may_come.hash; fresh = w.fresh; deps = now.deps; fine = w.may_come.fine; fits = sym f }

    pub is_fine : Fine c
    is_fine = (All-contains (Waits C) W m waiting now.waits).may_come.fine

-- ---- from step to step

pub record Kept (s : Sets) : Type 0 where
  pub valid : Valid s.closed
  pub waits : All (Waits s.closed) s.waiting

kept_admit : (s : Sets) (m : Member) (ms : List Member) → ready s.closed s.waiting ≡ m ∷ ms → Kept s → Kept (admit m s)
kept_admit s m ms e y = go (verdict s.closed m.change) refl
  where
    here : Contains s.waiting m × (holds_deps s.closed m.change ≡ true)
    here = first_ready s.closed s.waiting m ms e

    go : (v : Verdict) → verdict s.closed m.change ≡ v → Kept (admit_by v m s)
    go Fits f =
        let first = All-contains (Waits s.closed) s.waiting m y.waits here.0 in
        record {
          valid = valid_push s.closed m y.valid (record { hash = first.may_come.hash; fresh = first.fresh; deps = here.1; fine = first.may_come.fine; fits = f });
          waits = λ k d l.
              let n = get_or (without m.hash s.waiting) k d in
              let c = waits_still m n s.waiting (Contains-get_or (without m.hash s.waiting) k d l) in
              let old = All-contains (Waits s.closed) s.waiting n y.waits c.0 in
              record { may_come = old.may_come; fresh = fresh_push s.closed m n old.fresh c.1 };
        }
    go _ f = record {
      valid = y.valid;
      waits = All-filter (λ n. not (same hash_cmp m.hash n.hash)) (Waits s.closed) s.waiting y.waits;
    }

pub takes_kept : (s t : Sets) → TakesOne s t → Kept s → Kept t
takes_kept s t h y = subst Kept (sym h.admits) (kept_admit s h.first h.others h.are_ready y)
