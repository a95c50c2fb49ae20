-- Waiting changes without those whose hashes were put down.
use Rattle.std.proofs.Common.{ℕ, ◌≡◌, ◌<◌, ◌+◌, ◌||◌, length, take, get_or, List, [], ◌∷◌, ◌++◌, filter, Bool, true, false, not, refl, sym, ap, ◌∙◌, subst, inl, inr, IsPermutation, BTreeMap}
use Rattle.std.specs.Global.{Box}
use Rattle.std.specs.BTreeMap.{insert_entry, is_at, IsOrdered}
use Rattle.std.specs.Map.{remove_entry}
use Rattle.std.specs.Ordering.{is_eq, match_ordering}
use Rattle.std.specs.declared.cmp.Ordering.{Ordering}
use Rattle.std.specs.declared.cmp.Ordering.TheVariants.{Less, Equal, Greater}
use Rattle.std.proofs.lemmas.Bool.{cases_Bool, or_parts, both_ways}
use Rattle.std.proofs.lemmas.List.{take_more}
use Rattle.std.proofs.lemmas.List.Elements.{Contains-append_right}
use Rattle.std.proofs.lemmas.List.Folds.{list_any-append}
use Rattle.am_types.specs.declared.Hash.{Hash}
use Rattle.am_types.specs.declared.Change.{Change}
use Rattle.am_types.specs.Order.{hash_cmp, same, among}
use Rattle.am_types.specs.Members.{Member, holds}
use Rattle.am_types.specs.Deliver.{without}
use Rattle.am_laws.proofs.Ancestry.{Contains-from_filter}
use Rattle.am_types.proofs.Orders.{same_hash-true, same_hash_itself}
use Rattle.am_delivery.specs.Tracking.{Tracker, Tracks}
use Rattle.am_delivery.specs.Waiting.{member_of, members_of, unboxed, waiting_of, remaining}
use Rattle.am_delivery.proofs.Lists.{same_truth, Contains-here, Within-permutation, Within-permutation_back}
use Rattle.am_delivery.proofs.Members.{among_from, not_held_within, holds_within}
use Rattle.am_delivery.proofs.Steps.{without_none, removed}

pub remaining_nil : (W : List Member) → remaining [] W ≡ W
remaining_nil [] = refl
remaining_nil (m ∷ W) = ap (λ l. m ∷ l) (remaining_nil W)

same_turned : (a b : Hash) → same hash_cmp a b ≡ same hash_cmp b a
same_turned a b = same_truth (same hash_cmp a b) (same hash_cmp b a)
    (λ t. subst (λ k. same hash_cmp b k ≡ true) (sym (same_hash-true a b t)) (same_hash_itself b))
    (λ t. subst (λ k. same hash_cmp a k ≡ true) (sym (same_hash-true b a t)) (same_hash_itself a))

more_among : (hs : List Hash) (h k : Hash) → among hash_cmp (hs ++ h ∷ []) k ≡ (among hash_cmp hs k || same hash_cmp h k)
more_among [] h k =
    let turned : same hash_cmp k h ≡ same hash_cmp h k = same_turned k h in
    elim (cases_Bool (same hash_cmp k h)) [ inl t ↦ let u : same hash_cmp h k ≡ true = sym turned ∙ t in simp (t, u) | inr f ↦ let u : same hash_cmp h k ≡ false = sym turned ∙ f in simp (f, u) ]
more_among (g ∷ hs) h k =
    let again : among hash_cmp (hs ++ h ∷ []) k ≡ (among hash_cmp hs k || same hash_cmp h k) = more_among hs h k in
    elim (cases_Bool (same hash_cmp k g)) [ inl t ↦ simp t refl | inr f ↦ simp f again ]

-- one more hash is put down
pub remaining_more : (hs : List Hash) (h : Hash) (W : List Member) → remaining (hs ++ h ∷ []) W ≡ without h (remaining hs W)
remaining_more hs h [] = refl
remaining_more hs h (m ∷ W) =
    let again : remaining (hs ++ h ∷ []) W ≡ without h (remaining hs W) = remaining_more hs h W in
    let test = more_among hs h m.hash in
    elim (cases_Bool (among hash_cmp hs m.hash)) [
      | inl t ↦ let e : among hash_cmp (hs ++ h ∷ []) m.hash ≡ true = test ∙ ap (λ b. b || same hash_cmp h m.hash) t in simp (e, t) again
      | inr f ↦
          let e : among hash_cmp (hs ++ h ∷ []) m.hash ≡ same hash_cmp h m.hash = test ∙ ap (λ b. b || same hash_cmp h m.hash) f in
          elim (cases_Bool (same hash_cmp h m.hash)) [
            | inl t ↦ let u = e ∙ t in simp (u, f, t) again
            | inr g ↦ let u = e ∙ g in simp (u, f, g) (ap (λ l. m ∷ l) again)
          ]
    ]

-- the hashes are put down in two lists
pub remaining_both : (hs gs : List Hash) (W : List Member) → remaining gs (remaining hs W) ≡ remaining (hs ++ gs) W
remaining_both hs gs [] = refl
remaining_both hs gs (m ∷ W) =
    let again : remaining gs (remaining hs W) ≡ remaining (hs ++ gs) W = remaining_both hs gs W in
    let test : among hash_cmp (hs ++ gs) m.hash ≡ (among hash_cmp hs m.hash || among hash_cmp gs m.hash) = list_any-append (same hash_cmp m.hash) hs gs in
    elim (cases_Bool (among hash_cmp hs m.hash)) [
      | inl t ↦ let e : among hash_cmp (hs ++ gs) m.hash ≡ true = test ∙ ap (λ b. b || among hash_cmp gs m.hash) t in simp (e, t) again
      | inr f ↦
          let e : among hash_cmp (hs ++ gs) m.hash ≡ among hash_cmp gs m.hash = test ∙ ap (λ b. b || among hash_cmp gs m.hash) f in
          elim (cases_Bool (among hash_cmp gs m.hash)) [
            | inl t ↦ let u = e ∙ t in simp (u, f, t) again
            | inr g ↦ let u = e ∙ g in simp (u, f, g) (ap (λ l. m ∷ l) again)
          ]
    ]

-- those of the first list are taken out, and then those of the second
pub both_left : (hs gs ks ls : List Hash) (W V U : List Member) → ks ≡ hs → ls ≡ gs → V ≡ remaining ks W → U ≡ remaining ls V → U ≡ remaining (hs ++ gs) W
both_left hs gs ks ls W V U k l v u = u ∙ (λ i. remaining (l i) (v i)) ∙ ap (λ h. remaining gs (remaining h W)) k ∙ remaining_both hs gs W

filters_turned : (p q : Member → Bool) (W : List Member) → filter p (filter q W) ≡ filter q (filter p W)
filters_turned p q [] = refl
filters_turned p q (m ∷ W) =
    let again : filter p (filter q W) ≡ filter q (filter p W) = filters_turned p q W in
    elim (cases_Bool (p m)) [
      | inl t ↦ elim (cases_Bool (q m)) [ inl u ↦ simp (t, u) (ap (λ l. m ∷ l) again) | inr g ↦ simp (t, g) again ]
      | inr f ↦ elim (cases_Bool (q m)) [ inl u ↦ simp (f, u) again | inr g ↦ simp (f, g) again ]
    ]

-- one more hash is put down in the first list
pub gone_first : (w : BTreeMap Hash (Box Change)) (hs gs new : List Hash) (h : Hash) → new ≡ hs ++ h ∷ [] → remaining (new ++ gs) (waiting_of w) ≡ without h (remaining (hs ++ gs) (waiting_of w))
gone_first w hs gs new h e =
    let W : List Member = waiting_of w in
    ap (λ l. remaining (l ++ gs) W) e ∙ sym (remaining_both (hs ++ h ∷ []) gs W) ∙ ap (remaining gs) (remaining_more hs h W)
    ∙ filters_turned (λ m. not (among hash_cmp gs m.hash)) (λ m. not (same hash_cmp h m.hash)) (remaining hs W) ∙ ap (without h) (remaining_both hs gs W)

-- or in the second
pub gone_second : (w : BTreeMap Hash (Box Change)) (hs gs new : List Hash) (h : Hash) → new ≡ gs ++ h ∷ [] → remaining (hs ++ new) (waiting_of w) ≡ without h (remaining (hs ++ gs) (waiting_of w))
gone_second w hs gs new h e =
    let W : List Member = waiting_of w in
    ap (λ l. remaining (hs ++ l) W) e ∙ sym (remaining_both hs (gs ++ h ∷ []) W) ∙ remaining_more gs h (remaining hs W) ∙ ap (without h) (remaining_both hs gs W)

-- the changes with some hashes are taken out one by one
pub removed_next : (W : List Member) (w v : BTreeMap Hash (Box Change)) (hs : List Hash) (i : ℕ) (d : Hash) → i < length hs → waiting_of w ≡ remaining (take i hs) W → IsOrdered hash_cmp w
    → v.entries ≡ remove_entry (is_at (hash_cmp (get_or hs i d))) w.entries → waiting_of v ≡ remaining (take (i + 1) hs) W
removed_next W w v hs i d l had ordered e =
    removed w ordered (get_or hs i d) v e ∙ ap (without (get_or hs i d)) had ∙ sym (remaining_more (take i hs) (get_or hs i d) W) ∙ ap (λ gs. remaining gs W) (sym (take_more hs i d l))

-- where the hash isn't there, nothing changes
pub remaining_absent : (hs : List Hash) (h : Hash) (W : List Member) → holds W h ≡ false → remaining (hs ++ h ∷ []) W ≡ remaining hs W
remaining_absent hs h W f =
    remaining_more hs h W ∙ without_none h (remaining hs W) (not_held_within (remaining hs W) W h (λ k c. (Contains-from_filter (λ (m : Member). not (among hash_cmp hs m.hash)) W k c).0) f)

module _ (p : Member → Bool) (h : Hash) (c : Change) (fails : (d : Change) → p (record { hash = h; change = d }) ≡ false) where
  dropped_by : (o : Ordering) (e : Hash × Change) (es : List (Hash × Change)) → hash_cmp h e.0 ≡ o → holds (members_of (e ∷ es)) h ≡ false
      → (holds (members_of es) h ≡ false → filter p (members_of (insert_entry hash_cmp es h c)) ≡ filter p (members_of es))
      → filter p (members_of (match_ordering o ((h, c) ∷ e ∷ es) ((e.0, c) ∷ es) (e ∷ insert_entry hash_cmp es h c))) ≡ filter p (members_of (e ∷ es))
  dropped_by Less e es f n again = let here = fails c in simp here refl
  dropped_by Equal e es f n again = absurd (both_ways (same hash_cmp h e.0) (or_parts (same hash_cmp h e.0) (holds (members_of es) h) n).0 (ap is_eq f))
  dropped_by Greater e es f n again =
      let rest = again (or_parts (same hash_cmp h e.0) (holds (members_of es) h) n).1 in
      elim (cases_Bool (p (member_of e))) [ inl t ↦ simp t (ap (λ l. member_of e ∷ l) rest) | inr g ↦ simp g rest ]

  dropped : (es : List (Hash × Change)) → holds (members_of es) h ≡ false → filter p (members_of (insert_entry hash_cmp es h c)) ≡ filter p (members_of es)
  dropped [] n = let here = fails c in simp here refl
  dropped (e ∷ es) n = dropped_by (hash_cmp h e.0) e es refl n (dropped es)

-- a change that came and whose hash was put down
pub remaining_inserted : (hs : List Hash) (w : BTreeMap Hash (Box Change)) (es : List (Hash × Change)) (h : Hash) (c : Change) → holds (waiting_of w) h ≡ false → es ≡ insert_entry hash_cmp (unboxed w.entries) h c
    → remaining (hs ++ h ∷ []) (members_of es) ≡ remaining hs (waiting_of w)
remaining_inserted hs w es h c n e =
    let there : among hash_cmp (hs ++ h ∷ []) h ≡ true = among_from (hs ++ h ∷ []) h (Contains-append_right hs (h ∷ []) h (Contains-here h [])) in
    ap (λ fs. remaining (hs ++ h ∷ []) (members_of fs)) e ∙ dropped (λ m. not (among hash_cmp (hs ++ h ∷ []) m.hash)) h c (λ d. ap not there) (unboxed w.entries) n ∙ remaining_absent hs h (waiting_of w) n

-- what is tracked doesn't depend on how the waiting changes are listed
pub tracks_permuted : (C V W : List Member) (t : Tracker) → IsPermutation V W → Tracks C V t → Tracks C W t
tracks_permuted C V W t p tracks =
    let to = Within-permutation V W p in
    let back = Within-permutation_back V W p in
    record {
      counts = λ m c. tracks.counts m (back m c);
      names = λ h f m c. tracks.names h f m (back m c);
      named = λ h g f c. holds_within V W g to (tracks.named h g f c);
      ready = λ m c. tracks.ready m (back m c);
      queued = λ g c. holds_within V W g to (tracks.queued g c);
      once = tracks.once;
    }
