-- The closed set of the tests: its loops, and its verdicts.
use Rattle.std.proofs.Common.{ℕ, ◌≡◌, ◌+◌, ◌-◌, ◌<◌, ◌≤◌, ◌^◌, List, [], ◌∷◌, ◌++◌, length, take, drop, get_or, find, Bool, true, false, not, ◌&&◌, cond, ltb, leb, eqb, Option, Some, None, is_some, option_map, Bor, refl, sym, ap, ◌∙◌, subst, Contains, sum_by, inl, inr, arith}
use Rattle.std.specs.Option.{option_or}
use Rattle.std.specs.Bool.{then_some}
use Rattle.std.specs.List.{list_any}
use Rattle.std.proofs.lemmas.Bool.{and_parts, eqb-true, ltb-true, leb-true, not-false, false_from_ne_true}
use Rattle.std.proofs.lemmas.List.{map-append, take_more, take-append-drop, at_drop_more, length-map, take_all}
use Rattle.std.proofs.lemmas.List.Folds.{find-append}
use Rattle.std.proofs.lemmas.List.Sums.{sum_by-le}
use Rattle.std.proofs.lemmas.List.Elements.{Contains-get_or}
use Rattle.am_types.specs.declared.Hash.{Hash}
use Rattle.am_types.specs.declared.Change.{Change}
use Rattle.am_types.specs.declared.Op.{Op}
use Rattle.am_types.specs.declared.Verdict.TheVariants.{Fits, SeqClash, SeqGap, StartLow, BadReference, Full}
use Rattle.am_types.specs.Order.{hash_cmp, same}
use Rattle.am_types.specs.Fine.{pred_count}
use Rattle.am_types.specs.Operations.{max, numbered, all_operations}
use Rattle.am_types.specs.Members.{Member, changes, member, holds}
use Rattle.am_types.specs.Same.{same_change}
use Rattle.am_types.proofs.Orders.{same_hash-true}
use Rattle.am_types.specs.Ancestors.{ancestors, ancestor_hashes, is_named}
use Rattle.am_types.specs.References.{first_bad}
use Rattle.am_types.specs.Verdicts.{has_seq, seq_clash, verdict}
use Rattle.am_laws.proofs.Ancestry.{Contains-from_filter}
use Rattle.am_laws.proofs.VerdictLaws.{fits_from}
use Rattle.am_history_tests.specs.DeliverySamples.{bare, isnt_bare}
use Rattle.am_delivery.specs.Waiting.{member_of, members_of}
use Rattle.am_delivery.proofs.Lists.{Contains-cons_cases, Contains-from_map, any_none, none_any, find_none, none_find, found_is}
use Rattle.am_delivery.proofs.Members.{holds_it}
use Rattle.am_delivery.proofs.Steady.{absent}
use Rattle.am_delivery.proofs.Reasons.{from_small}

-- ---- loops

module _ (p : Member → Bool) (es : List (Hash × Change)) (i : ℕ) (x : Hash × Change) (is : x ≡ get_or es i x) (low : i < length es) (had : find p (members_of (take i es)) ≡ None) where
  more : take (i + 1) es ≡ take i es ++ x ∷ []
  more = take_more es i x low ∙ ap (λ y. take i es ++ y ∷ []) (sym is)

  whole : es ≡ take i es ++ x ∷ drop (i + 1) es
  whole = sym (take-append-drop i es) ∙ at_drop_more (λ l. take i es ++ l) es i x low ∙ ap (λ y. take i es ++ y ∷ drop (i + 1) es) (sym is)

  pub none_further : p (member_of x) ≡ false → find p (members_of (take (i + 1) es)) ≡ None
  none_further other =
      ap (λ l. find p (members_of l)) more
      ∙ ap (find p) (map-append member_of (take i es) (x ∷ []))
      ∙ find-append p (members_of (take i es)) (member_of x ∷ [])
      ∙ (λ t. option_or (had t) (cond (other t) (Some (member_of x)) None))

  pub found_here : p (member_of x) ≡ true → find p (members_of es) ≡ Some (member_of x)
  found_here this =
      ap (λ l. find p (members_of l)) whole
      ∙ ap (find p) (map-append member_of (take i es) (x ∷ drop (i + 1) es))
      ∙ find-append p (members_of (take i es)) (member_of x ∷ members_of (drop (i + 1) es))
      ∙ (λ t. option_or (had t) (cond (this t) (Some (member_of x)) (find p (members_of (drop (i + 1) es)))))

pub all_passed : (p : Member → Bool) (es : List (Hash × Change)) (i : ℕ) → length es ≤ i → find p (members_of (take i es)) ≡ None → find p (members_of es) ≡ None
all_passed p es i l had = ap (λ k. find p (members_of k)) (sym (take_all i es l)) ∙ had

-- ---- verdicts

record Bare (c : Change) : Type 0 where
  seq : c.seq ≡ 1
  start : c.start ≡ 1
  ops : c.ops ≡ []
  deps : length c.deps < 2

no_ops : (ops : List Op) → length ops ≡ 0 → ops ≡ []
no_ops [] e = refl
no_ops (op ∷ ops) e = absurd (omega arith)

bare_from : (c : Change) → bare c ≡ true → Bare c
bare_from c t =
    let one = and_parts (eqb c.seq 1) _ t in
    let two = and_parts (eqb c.start 1) _ one.1 in
    let three = and_parts (eqb (length c.ops) 0) _ two.1 in
    record { seq = eqb-true c.seq 1 one.0; start = eqb-true c.start 1 two.0; ops = no_ops c.ops (eqb-true (length c.ops) 0 three.0); deps = ltb-true (length c.deps) 2 three.1 }

module _ (C : List Member) (c : Change) (few : length C ≤ 1000) (is : bare c ≡ true) (are : find isnt_bare C ≡ None) where
  one : Bare c
  one = bare_from c is

  all : (m : Member) → Contains C m → Bare m.change
  all m k = bare_from m.change (not-false (bare m.change) (any_none isnt_bare C (find_none isnt_bare C are) m k))

  each_bare : (d : Change) → Contains (c ∷ changes C) d → Bare d
  each_bare d k = elim (Contains-cons_cases c (changes C) d k) [
    | inl e ↦ subst Bare e one
    | inr r ↦ let m = Contains-from_map (λ (m : Member). m.change) C d r in subst Bare m.2 (all m.0 m.1)
  ]

  within : (hs : List Hash) (m : Member) → Contains (ancestors C hs) m → Contains C m
  unfolding ancestors
  within hs m k = (Contains-from_filter (is_named (ancestor_hashes C hs)) C m k).0

  above_all : (hs : List Hash) (h : Hash) → list_any (λ (m : Member). same hash_cmp m.hash h && leb c.start (max m.change)) (ancestors C hs) ≡ false
  above_all hs h = none_any (λ (m : Member). same hash_cmp m.hash h && leb c.start (max m.change)) (ancestors C hs) (λ m k.
      let b = all m (within hs m k) in
      let none : length m.change.ops ≡ 0 = ap length b.ops in
      false_from_ne_true _ (λ t. let low = leb-true c.start (max m.change) (and_parts (same hash_cmp m.hash h) _ t).1 in let from = one.start in let start = b.start in absurd (omega arith)))

  most : (f : Change → ℕ) → ((d : Change) → Bare d → f d ≤ 1) → sum_by f (c ∷ changes C) ≤ 2 ^ 22
  most f le =
      let sum = sum_by-le f 1 (c ∷ changes C) (λ k d l. le _ (each_bare _ (Contains-get_or (c ∷ changes C) k d l))) in
      let long = length-map C (λ (m : Member). m.change) in
      omega arith

  abbrev A : List Member
  A = ancestors C c.deps

  pub fits : find (has_seq c.actor c.seq) C ≡ None → verdict C c ≡ Fits
  fits none = fits_from C c (record {
    clash = ap (option_map (λ (m : Member). SeqClash m.hash)) none;
    gap = ap (λ n. then_some (ltb 1 n && not (list_any (has_seq c.actor (n - 1)) A)) SeqGap) one.seq;
    low = ap (option_map StartLow) (none_find (λ h. list_any (λ (m : Member). same hash_cmp m.hash h && leb c.start (max m.change)) A) c.deps (none_any (λ h. list_any (λ (m : Member). same hash_cmp m.hash h && leb c.start (max m.change)) A) c.deps (λ h k. above_all c.deps h)));
    references = ap (λ ops. option_map BadReference (first_bad (all_operations (changes A)) (numbered c.start c.actor ops))) one.ops;
    limits = ap (option_map Full) (from_small (c ∷ changes C) (record {
      members = let long = length-map C (λ (m : Member). m.change) in omega arith;
      ops = most (λ (d : Change). length d.ops) (λ d b. let none : length d.ops ≡ 0 = ap length b.ops in omega arith);
      preds = most (λ (d : Change). pred_count d.ops) (λ d b. let none : pred_count d.ops ≡ 0 = ap pred_count b.ops in omega arith);
      links = most (λ (d : Change). length d.deps) (λ d b. let few = b.deps in omega arith);
    }));
  })

pub clashes : (C : List Member) (c : Change) (h : Hash) → option_map (λ (m : Member). m.hash) (find (has_seq c.actor c.seq) C) ≡ Some h → verdict C c ≡ SeqClash h
unfolding verdict
clashes C c h e =
    let first : seq_clash C c ≡ Some (SeqClash h) = by (find (has_seq c.actor c.seq) C) e in
    rw first refl
  where
    by : (o : Option Member) → option_map (λ (m : Member). m.hash) o ≡ Some h → option_map (λ (m : Member). SeqClash m.hash) o ≡ Some (SeqClash h)
    by None e = cc
    by (Some m) e = let f : m.hash ≡ h = cc in ap (λ g. Some (SeqClash g)) f

pub none_from : {X : Type 0} (o : Option X) → is_some o ≡ false → o ≡ None
none_from None e = refl
none_from (Some x) e = cc

pub none_mapped : (o : Option Member) → None ≡ option_map (λ (m : Member). m.hash) o → o ≡ None
none_mapped None e = refl
none_mapped (Some m) e = cc

-- ---- what is held

mapped : {X : Type 0} (f : Change → X) (o : Option Member) → option_map (λ (m : Member). f m.change) o ≡ option_map f (option_map (λ (m : Member). m.change) o)
mapped f None = refl
mapped f (Some m) = refl

some_lent : (o : Option (Bor Change)) → is_some o ≡ is_some (option_map (λ (c : Bor Change). c.now) o)
some_lent None = refl
some_lent (Some c) = refl

module _ (C : List Member) (h : Hash) where
  some_member : (o : Option Member) → member C h ≡ o → is_some (option_map (λ (m : Member). m.change) o) ≡ holds C h
  some_member None e = sym (absent C h e)
  some_member (Some m) e =
      let k = found_is (λ (n : Member). same hash_cmp h n.hash) C m e in
      sym (subst (λ g. holds C g ≡ true) (sym (same_hash-true h m.hash k.1)) (holds_it C m k.0))

  pub held_is : (o : Option (Bor Change)) → option_map (λ (c : Bor Change). c.now) o ≡ option_map (λ (m : Member). m.change) (member C h) → is_some o ≡ holds C h
  held_is o e = some_lent o ∙ ap is_some e ∙ some_member (member C h) refl

  pub held_same : (d c : Change) → Some d ≡ option_map (λ (m : Member). m.change) (member C h) → option_map (λ (m : Member). same_change m.change c) (member C h) ≡ Some (same_change d c)
  held_same d c e = mapped (λ d. same_change d c) (member C h) ∙ ap (option_map (λ d. same_change d c)) (sym e)
