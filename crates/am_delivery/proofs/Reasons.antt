-- When no reason applies: the reasons that read ancestors depend on the members among these alone, and a part of a set is
-- within the limits where the set is.
use Rattle.std.proofs.Common.{ℕ, ◌≡◌, ◌+◌, ◌-◌, ◌≤◌, ◌^◌, List, [], ◌∷◌, ◌++◌, length, find, true, false, not, ◌&&◌, cond, Bool, Option, Some, None, option_map, unwrap_or, refl, sym, ap, ◌∙◌, subst, inl, inr, Contains, IsPermutation, sum_by, eqb, ltb, leb, arith}
use Rattle.std.specs.Option.{option_or}
use Rattle.std.specs.Bool.{then_some}
use Rattle.std.specs.List.{list_all}
use lib.Pointwise.{bytes_decides}
use Rattle.std.proofs.lemmas.Bool.{cases_Bool, both_ways, false_from_ne_true, and_parts, eqb-true, eq-eqb, le-ltb, ltb-false}
use Rattle.std.proofs.lemmas.List.{length-append, length-map, map-append}
use Rattle.std.proofs.lemmas.List.Sums.{sum_by-append}
use Rattle.std.proofs.lemmas.List.Sorted.{IsPermutation-cons, IsPermutation-map, sum_by-IsPermutation, length_permutation}
use Rattle.am_types.specs.declared.Change.{Change}
use Rattle.am_types.specs.declared.OpId.{OpId}
use Rattle.am_types.specs.declared.ObjId.{ObjId}
use Rattle.am_types.specs.declared.ObjId.TheVariants.{Root, Made}
use Rattle.am_types.specs.declared.Key.{Key}
use Rattle.am_types.specs.declared.Key.TheVariants.{Name, Head, Elem}
use Rattle.am_types.specs.declared.Limit.{Limit}
use Rattle.am_types.specs.declared.Limit.TheVariants.{Changes, Operations, Preds, Links}
use Rattle.am_types.specs.declared.Verdict.TheVariants.{Fits, SeqClash, SeqGap, StartLow, BadReference, Full}
use Rattle.am_types.specs.Order.{hash_cmp, same}
use Rattle.am_types.specs.Actions as actions
use Rattle.am_types.specs.Same.{same_bytes, same_id, same_object, same_key}
use Rattle.am_types.specs.Operations.{Operation, operations, all_operations, slot, max}
use Rattle.am_types.specs.Fine.{pred_count}
use Rattle.am_types.specs.Members.{Member, changes, holds}
use Rattle.am_types.specs.Ancestors.{ancestors}
use Rattle.am_types.specs.Totals.{above, first_some}
use Rattle.am_types.specs.Verdicts.{has_seq, seq_clash, seq_gap, start_low, bad_reference, limit_passed, full, verdict}
use Rattle.am_types.specs.References.{takes, object_takes, element_known, pred_known, has_good_references, first_bad}
use Rattle.am_laws.proofs.VerdictLaws.{fits_by, fits_from}
use Rattle.am_delivery.proofs.Lists.{Within, Within-push, Within-permutation, Within-permutation_back, found_is, NoRepeat, any_same, any_none, none_any, find_none, none_find, left_over, Contains-map, Contains-from_map, Contains-flat_map, Contains-from_flat_map}
use Rattle.am_delivery.proofs.Members.{holds_it}

-- ---- the reasons that read the ancestors

pub record FitsAncestors (A : List Member) (c : Change) : Type 0 where
  pub gap : seq_gap A c ≡ None
  pub low : start_low A c ≡ None
  pub references : bad_reference A c ≡ None

operations_within : (A B : List Member) → Within A B → Within (all_operations (changes A)) (all_operations (changes B))
operations_within A B w x c =
    let d = Contains-from_flat_map operations (changes A) x c in
    let m = Contains-from_map (λ (m : Member). m.change) A d.0 d.1 in
    Contains-flat_map operations (changes B) d.0 x (subst (Contains (changes B)) m.2 (Contains-map (λ (m : Member). m.change) B m.0 (w m.0 m.1))) d.2

module _ (K L : List Operation) (w : Within K L) (v : Within L K) where
  object_same : (o : ObjId) (k : Key) → object_takes K o k ≡ object_takes L o k
  object_same Root k = refl
  object_same (Made o) k = any_same (λ (x : Operation). same_id x.id o && takes x.op.action k) K L w v

  element_same : (o : ObjId) (k : Key) → element_known K o k ≡ element_known L o k
  element_same o (Name n) = refl
  element_same o Head = refl
  element_same o (Elem e) = any_same (λ (x : Operation). same_id x.id e && x.op.insert && same_object x.op.obj o) K L w v

  pred_same : (x : Operation) (p : OpId) → pred_known K x p ≡ pred_known L x p
  pred_same x p = any_same (λ (y : Operation). same_id y.id p && not (eqb y.op.action actions.del) && same_object y.op.obj x.op.obj && same_key (slot y) (slot x)) K L w v

  good_same : (x : Operation) → has_good_references K x ≡ has_good_references L x
  good_same x = λ i. object_same x.op.obj x.op.key i && element_same x.op.obj x.op.key i && list_all (λ p. pred_same x p i) x.op.preds

bad_same : (K L : List Operation) (xs : List Operation) → Within K L → Within L K → first_bad K xs ≡ first_bad L xs
bad_same K L [] w v = refl
bad_same K L (x ∷ xs) w v =
    let again : first_bad (K ++ x ∷ []) xs ≡ first_bad (L ++ x ∷ []) xs = bad_same (K ++ x ∷ []) (L ++ x ∷ []) xs (Within-push K L x w) (Within-push L K x v) in
    let good = good_same K L w v x in
    λ i. cond (good i) (option_map (λ n. n + 1) (again i)) (Some 0)

pub reasons_same : (A B : List Member) (c : Change) → Within A B → Within B A → (seq_gap A c ≡ seq_gap B c) × (start_low A c ≡ start_low B c) × (bad_reference A c ≡ bad_reference B c)
reasons_same A B c w v = (
  λ i. then_some (ltb 1 c.seq && not (any_same (has_seq c.actor (c.seq - 1)) A B w v i)) SeqGap,
  λ i. option_map StartLow (find (λ h. any_same (λ (m : Member). same hash_cmp m.hash h && leb c.start (max m.change)) A B w v i) c.deps),
  ap (option_map BadReference) (bad_same (all_operations (changes A)) (all_operations (changes B)) (operations c) (operations_within A B w) (operations_within B A v)),
)

pub fits_same : (A B : List Member) (c : Change) → Within A B → Within B A → FitsAncestors A c → FitsAncestors B c
fits_same A B c w v f =
    let e = reasons_same A B c w v in
    record { gap = sym e.0 ∙ f.gap; low = sym e.1 ∙ f.low; references = sym e.2 ∙ f.references }

-- ---- the limits

pub record Small (cs : List Change) : Type 0 where
  pub members : length cs ≤ 2 ^ 20
  pub ops : sum_by (λ (c : Change). length c.ops) cs ≤ 2 ^ 22
  pub preds : sum_by (λ (c : Change). pred_count c.ops) cs ≤ 2 ^ 22
  pub links : sum_by (λ (c : Change). length c.deps) cs ≤ 2 ^ 22

below : (most n : ℕ) (l : Limit) → above most n l ≡ None → n ≤ most
below most n l e = elim (cases_Bool (ltb most n)) [
  | inl t ↦ let g = simp t at e in absurd (some_not l g)
  | inr f ↦ ltb-false most n f
]
  where
    some_not : (l : Limit) → Some l ≡ None → ⊥
    some_not l e = cc

not_above : (most n : ℕ) (l : Limit) → n ≤ most → above most n l ≡ None
not_above most n l h = simp (le-ltb most n h) refl

or_none : {X : Type 0} (o p : Option X) → option_or o p ≡ None → (o ≡ None) × (p ≡ None)
or_none None p e = (refl, e)
or_none (Some x) p e = cc

pub small_from : (cs : List Change) → limit_passed cs ≡ None → Small cs
small_from cs e =
    let one = or_none (above (2 ^ 20) (length cs) Changes) _ e in
    let two = or_none (above (2 ^ 22) (sum_by (λ (c : Change). length c.ops) cs) Operations) _ one.1 in
    let three = or_none (above (2 ^ 22) (sum_by (λ (c : Change). pred_count c.ops) cs) Preds) _ two.1 in
    let four = or_none (above (2 ^ 22) (sum_by (λ (c : Change). length c.deps) cs) Links) None three.1 in
    record { members = below _ _ _ one.0; ops = below _ _ _ two.0; preds = below _ _ _ three.0; links = below _ _ _ four.0 }

pub from_small : (cs : List Change) → Small cs → limit_passed cs ≡ None
from_small cs s =
    let one = not_above (2 ^ 20) (length cs) Changes s.members in
    let two = not_above (2 ^ 22) (sum_by (λ (c : Change). length c.ops) cs) Operations s.ops in
    let three = not_above (2 ^ 22) (sum_by (λ (c : Change). pred_count c.ops) cs) Preds s.preds in
    let four = not_above (2 ^ 22) (sum_by (λ (c : Change). length c.deps) cs) Links s.links in
    λ i. option_or (one i) (option_or (two i) (option_or (three i) (option_or (four i) None)))

module _ (C D rest : List Member) (p : IsPermutation D (C ++ rest)) where
  less : (f : Change → ℕ) → sum_by f (changes C) ≤ sum_by f (changes D)
  less f =
      let whole = sum_by-IsPermutation f (changes D) (changes (C ++ rest)) (IsPermutation-map (λ (m : Member). m.change) D (C ++ rest) p) in
      let parts = ap (sum_by f) (map-append (λ (m : Member). m.change) C rest) ∙ sum_by-append f (changes C) (changes rest) in
      omega arith

  fewer : length (changes C) ≤ length (changes D)
  fewer =
      let whole = length_permutation D (C ++ rest) p in
      let parts = length-append C rest in
      let a = length-map C (λ (m : Member). m.change) in
      let b = length-map D (λ (m : Member). m.change) in
      omega arith

  part_small : Small (changes D) → Small (changes C)
  part_small s =
      let a = fewer in
      let b = less (λ (c : Change). length c.ops) in
      let d = less (λ (c : Change). pred_count c.ops) in
      let e = less (λ (c : Change). length c.deps) in
      let sa = s.members in
      let sb = s.ops in
      let sd = s.preds in
      let se = s.links in
      record { members = omega arith; ops = omega arith; preds = omega arith; links = omega arith }

-- a part without repeats is within the limits where the whole is
pub limits_within : (C D : List Member) → NoRepeat C → Within C D → limit_passed (changes D) ≡ None → limit_passed (changes C) ≡ None
limits_within C D nr w e =
    let l = left_over C D nr w in
    from_small (changes C) (part_small C D l.0 l.1 (small_from (changes D) e))

-- ---- seqs

-- one actor and seq, one member
abbrev pub UniqueSeqs : List Member → Type 0
UniqueSeqs C = (m n : Member) → Contains C m → Contains C n → m.change.actor ≡ n.change.actor → m.change.seq ≡ n.change.seq → m ≡ n

seq_is : (actor : List ℕ) (seq : ℕ) (n : Member) → has_seq actor seq n ≡ true → (n.change.actor ≡ actor) × (n.change.seq ≡ seq)
seq_is actor seq n t =
    let p = and_parts (same_bytes n.change.actor actor) (eqb n.change.seq seq) t in
    ((bytes_decides n.change.actor actor).0 p.0, eqb-true n.change.seq seq p.1)

pub seq_free : (C : List Member) (c : Change) → seq_clash C c ≡ None → (n : Member) → Contains C n → n.change.actor ≡ c.actor → n.change.seq ≡ c.seq → ⊥
seq_free C c e n cn a s =
    let none = any_none (has_seq c.actor c.seq) C (find_none (has_seq c.actor c.seq) C (unmapped (find (has_seq c.actor c.seq) C) e)) n cn in
    both_ways (has_seq c.actor c.seq n) none (has n a s)
  where
    unmapped : (o : Option Member) → option_map (λ m. SeqClash m.hash) o ≡ None → o ≡ None
    unmapped None e = refl
    unmapped (Some x) e = cc

    has : (n : Member) → n.change.actor ≡ c.actor → n.change.seq ≡ c.seq → has_seq c.actor c.seq n ≡ true
    has n a s =
        let one : same_bytes n.change.actor c.actor ≡ true = (bytes_decides n.change.actor c.actor).1 a in
        let two : eqb n.change.seq c.seq ≡ true = eq-eqb n.change.seq c.seq s in
        simp (one, two) refl

no_clash : (C : List Member) (c : Change) → ((n : Member) → Contains C n → n.change.actor ≡ c.actor → n.change.seq ≡ c.seq → ⊥) → seq_clash C c ≡ None
no_clash C c free =
    ap (option_map (λ (m : Member). SeqClash m.hash))
    (none_find (has_seq c.actor c.seq) C (none_any (has_seq c.actor c.seq) C
    (λ n cn. false_from_ne_true _ (λ t. let s = seq_is c.actor c.seq n t in free n cn s.0 s.1))))

-- what fits by its ancestors fits, where it and the set are within what is within the limits and has no clash
pub fits_over :
    (D : List Member) → UniqueSeqs D → limit_passed (changes D) ≡ None → (C : List Member) → Within C D → NoRepeat C → (m : Member) → Contains D m → holds C m.hash ≡ false
    → FitsAncestors (ancestors C m.change.deps) m.change → verdict C m.change ≡ Fits
fits_over D seqs limits C w nr m dm fresh f =
    let c = m.change in
    let free : (n : Member) → Contains C n → n.change.actor ≡ c.actor → n.change.seq ≡ c.seq → ⊥ = λ n cn a s. both_ways (holds C m.hash) fresh (subst (λ (k : Member). holds C k.hash ≡ true) (seqs n m (w n cn) dm a s) (holds_it C n cn)) in
    let whole : Within (m ∷ C) D = λ n cn. elim (Rattle.am_delivery.proofs.Lists.Contains-cons_cases m C n cn) [ inl e ↦ subst (Contains D) e dm | inr d ↦ w n d ] in
    let alone : NoRepeat (m ∷ C) = (λ k. both_ways (holds C m.hash) fresh (holds_it C m k), nr) in
    fits_from C c (record {
      clash = no_clash C c free;
      gap = f.gap;
      low = f.low;
      references = f.references;
      limits = ap (option_map Full) (limits_within (m ∷ C) D alone whole limits);
    })

pub fits_ancestors : (C : List Member) (c : Change) → verdict C c ≡ Fits → FitsAncestors (ancestors C c.deps) c
fits_ancestors C c e = let f = fits_by C c e in record { gap = f.gap; low = f.low; references = f.references }

pub limits_of : (C : List Member) (c : Change) → full C c ≡ None → limit_passed (c ∷ changes C) ≡ None
limits_of C c e = unmapped (limit_passed (c ∷ changes C)) e
  where
    unmapped : (o : Option Limit) → option_map Full o ≡ None → o ≡ None
    unmapped None e = refl
    unmapped (Some x) e = cc

-- ---- one verdict, however the set is listed

pub find_same : {X : Type 0} (p : X → Bool) (xs ys : List X) → ((x y : X) → Contains xs x → Contains xs y → p x ≡ true → p y ≡ true → x ≡ y) → Within xs ys → Within ys xs → find p xs ≡ find p ys
find_same {X} p xs ys one w v = go (find p xs) (find p ys) refl refl
  where
    go : (o q : Option X) → find p xs ≡ o → find p ys ≡ q → o ≡ q
    go None None e f = refl
    go None (Some y) e f = let r = found_is p ys y f in absurd (both_ways (p y) (any_none p xs (find_none p xs e) y (v y r.0)) r.1)
    go (Some x) None e f = let r = found_is p xs x e in absurd (both_ways (p x) (any_none p ys (find_none p ys f) x (w x r.0)) r.1)
    go (Some x) (Some y) e f = let r = found_is p xs x e in let q = found_is p ys y f in ap Some (one x y r.0 (v y q.0) r.1 q.1)

limits_same : (cs ds : List Change) → IsPermutation cs ds → limit_passed cs ≡ limit_passed ds
limits_same cs ds p =
    let a = sym (length_permutation cs ds p) in
    let b = sym (sum_by-IsPermutation (λ (c : Change). length c.ops) cs ds p) in
    let d = sym (sum_by-IsPermutation (λ (c : Change). pred_count c.ops) cs ds p) in
    let e = sym (sum_by-IsPermutation (λ (c : Change). length c.deps) cs ds p) in
    λ i. first_some (above (2 ^ 20) (a i) Changes ∷ above (2 ^ 22) (b i) Operations ∷ above (2 ^ 22) (d i) Preds ∷ above (2 ^ 22) (e i) Links ∷ [])

pub verdict_same :
    (C D : List Member) (c : Change) → UniqueSeqs C → IsPermutation C D → Within (ancestors C c.deps) (ancestors D c.deps) → Within (ancestors D c.deps) (ancestors C c.deps)
    → verdict C c ≡ verdict D c
unfolding verdict
verdict_same C D c seqs p w v =
    let r = reasons_same (ancestors C c.deps) (ancestors D c.deps) c w v in
    let one : (x y : Member) → Contains C x → Contains C y → has_seq c.actor c.seq x ≡ true → has_seq c.actor c.seq y ≡ true → x ≡ y =
    λ x y cx cy hx hy. let a = seq_is c.actor c.seq x hx in let b = seq_is c.actor c.seq y hy in seqs x y cx cy (a.0 ∙ sym b.0) (a.1 ∙ sym b.1) in
    let clash : seq_clash C c ≡ seq_clash D c = ap (option_map (λ (m : Member). SeqClash m.hash)) (find_same (has_seq c.actor c.seq) C D one (Within-permutation C D p) (Within-permutation_back C D p)) in
    let limits : full C c ≡ full D c = ap (option_map Full) (limits_same (c ∷ changes C) (c ∷ changes D) (IsPermutation-cons c (changes C) (changes D) (IsPermutation-map (λ (m : Member). m.change) C D p))) in
    λ i. unwrap_or (first_some (clash i ∷ r.0 i ∷ r.1 i ∷ r.2 i ∷ limits i ∷ [])) Fits
