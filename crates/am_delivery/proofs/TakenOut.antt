-- Changes that are taken out one after another.
use Rattle.std.proofs.Common.{ℕ, ◌≡◌, ◌<◌, ◌+◌, length, take, get_or, List, [], ◌∷◌, ◌++◌, filter, true, false, not, Option, Some, None, option_map, refl, sym, ap, ◌∙◌, subst, inl, inr, Contains, BTreeMap}
use Rattle.std.specs.Global.{Box}
use Rattle.std.specs.Box.{box_value}
use Rattle.std.specs.BTreeMap.{get, IsOrdered}
use Rattle.std.proofs.lemmas.Bool.{both_ways, or_parts, false_from_ne_true}
use Rattle.std.proofs.lemmas.List.{append-nil, append_assoc, map-append, take_more}
use Rattle.std.proofs.lemmas.List.Elements.{Contains-append_cases}
use Rattle.std.proofs.lemmas.Map.Views.{btree_map_get_iff}
use Rattle.am_types.specs.declared.Hash.{Hash}
use Rattle.am_types.specs.declared.Change.{Change}
use Rattle.am_types.specs.Order.{hash_cmp, same, among}
use Rattle.am_types.specs.Members.{Member, hashes, member, holds}
use Rattle.am_types.specs.Deliver.{without}
use Rattle.am_types.proofs.Orders.{hash_total, hash_exact, same_hash-true, same_hash_itself}
use Rattle.am_laws.proofs.Ancestry.{Contains-from_filter}
use Rattle.am_delivery.specs.Waiting.{member_of, members_of, out_of_box, unboxed, waiting_of, remaining, taken_out}
use Rattle.am_delivery.proofs.Lists.{Contains-none, Contains-cons_cases, Contains-map}
use Rattle.am_delivery.proofs.Members.{Distinct, holds_it, distinct_filter}
use Rattle.am_delivery.proofs.Steady.{absent}
use Rattle.am_delivery.proofs.Steps.{distinct}
use Rattle.am_delivery.proofs.Arrivals.{looked_in, change_of}
use Rattle.am_delivery.proofs.Leaving.{remaining_nil, remaining_more, remaining_both}

-- the members with the hash h
abbrev with_hash : Hash → List Member → List Member
with_hash h W = filter (λ m. same hash_cmp h m.hash) W

none_with : (h : Hash) (W : List Member) → holds W h ≡ false → with_hash h W ≡ []
none_with h [] f = refl
none_with h (m ∷ W) f =
    let p = or_parts (same hash_cmp h m.hash) (holds W h) f in
    let again : with_hash h W ≡ [] = none_with h W p.1 in
    simp p.0 again

-- where no two have one hash, each is the only one with its own
one_with : (W : List Member) → Distinct W → (m : Member) → Contains W m → with_hash m.hash W ≡ m ∷ []
one_with [] d m c = absurd (Contains-none m c)
one_with (n ∷ W) d m c =
    let again : Contains W m → with_hash m.hash W ≡ m ∷ [] = one_with W d.1 m in
    elim (Contains-cons_cases n W m c) [
      | inl e ↦
          let rest : with_hash n.hash W ≡ [] = none_with n.hash W d.0 in
          let here = same_hash_itself n.hash in
          let alone : with_hash n.hash (n ∷ W) ≡ n ∷ [] = simp here (ap (λ l. n ∷ l) rest) in
          subst (λ (k : Member). with_hash k.hash (n ∷ W) ≡ k ∷ []) e alone
      | inr k ↦
          let f : same hash_cmp m.hash n.hash ≡ false = false_from_ne_true _ (λ t. both_ways (holds W n.hash) d.0 (subst (λ g. holds W g ≡ true) (same_hash-true m.hash n.hash t) (holds_it W m k))) in
          simp f (again k)
    ]

remaining_first : (g : Hash) (hs : List Hash) (W : List Member) → remaining hs (without g W) ≡ remaining (g ∷ hs) W
remaining_first g hs W = ap (remaining hs) (ap (without g) (sym (remaining_nil W)) ∙ sym (remaining_more [] g W)) ∙ remaining_both (g ∷ []) hs W

-- one more hash
taken_more : (hs : List Hash) (h : Hash) (W : List Member) → taken_out (hs ++ h ∷ []) W ≡ taken_out hs W ++ with_hash h (remaining hs W)
taken_more [] h W = append-nil (with_hash h W) ∙ ap (with_hash h) (sym (remaining_nil W))
taken_more (g ∷ hs) h W =
    ap (λ l. with_hash g W ++ l) (taken_more hs h (without g W))
    ∙ sym (append_assoc (with_hash g W) (taken_out hs (without g W)) (with_hash h (remaining hs (without g W))))
    ∙ ap (λ V. (with_hash g W ++ taken_out hs (without g W)) ++ with_hash h V) (remaining_first g hs W)

-- the change that joins is the next that is taken out
pub joins_next : (w : BTreeMap Hash (Box Change)) → IsOrdered hash_cmp w → (hs gs : List Hash) (m : Member) → Contains (remaining (hs ++ gs) (waiting_of w)) m
    → (C D E : List Member) → D ≡ C ++ taken_out hs (waiting_of w) → E ≡ D ++ m ∷ [] → (new : List Hash) → new ≡ hs ++ m.hash ∷ [] → E ≡ C ++ taken_out new (waiting_of w)
joins_next w ordered hs gs m c C D E d e new n =
    let W : List Member = waiting_of w in
    let within : Contains (remaining hs W) m = (Contains-from_filter (λ (k : Member). not (among hash_cmp gs k.hash)) (remaining hs W) m (subst (λ V. Contains V m) (sym (remaining_both hs gs W)) c)).0 in
    let apart : Distinct (remaining hs W) = distinct_filter (λ (k : Member). not (among hash_cmp hs k.hash)) W (distinct w ordered) in
    e ∙ ap (λ l. l ++ m ∷ []) d ∙ append_assoc C (taken_out hs W) (m ∷ [])
    ∙ ap (λ V. C ++ (taken_out hs W ++ V)) (sym (one_with (remaining hs W) apart m within))
    ∙ ap (λ l. C ++ l) (sym (taken_more hs m.hash W)) ∙ ap (λ l. C ++ taken_out l W) (sym n)

-- and its hash the next of theirs
pub named_next : (w : BTreeMap Hash (Box Change)) → IsOrdered hash_cmp w → (hs gs : List Hash) (m : Member) → Contains (remaining (hs ++ gs) (waiting_of w)) m
    → (new : List Hash) → new ≡ hs ++ m.hash ∷ [] → hashes (taken_out hs (waiting_of w)) ≡ hs → hashes (taken_out new (waiting_of w)) ≡ new
named_next w ordered hs gs m c new n had =
    let out : List Member = taken_out hs (waiting_of w) in
    let more : out ++ m ∷ [] ≡ taken_out new (waiting_of w) = joins_next w ordered hs gs m c [] out (out ++ m ∷ []) refl refl new n in
    ap hashes (sym more) ∙ map-append (λ (k : Member). k.hash) out (m ∷ []) ∙ ap (λ l. l ++ m.hash ∷ []) had ∙ sym n

-- ---- what is taken out was there

pub taken_within : (hs : List Hash) (W : List Member) (m : Member) → Contains (taken_out hs W) m → Contains W m
taken_within [] W m c = absurd (Contains-none m c)
taken_within (h ∷ hs) W m c =
    let others : Contains (taken_out hs (without h W)) m → Contains (without h W) m = taken_within hs (without h W) m in
    elim (Contains-append_cases (with_hash h W) (taken_out hs (without h W)) m c) [
      | inl a ↦ (Contains-from_filter (λ (k : Member). same hash_cmp h k.hash) W m a).0
      | inr b ↦ (Contains-from_filter (λ (k : Member). not (same hash_cmp h k.hash)) W m (others b)).0
    ]

no_member : (o : Option Member) → option_map change_of o ≡ None → o ≡ None
no_member None e = refl
no_member (Some m) e = cc

-- the changes with the hashes hs are moved behind T, one by one
module _ (W T : List Member) (w : BTreeMap Hash (Box Change)) (ordered : IsOrdered hash_cmp w) (hs : List Hash) (i : ℕ) (d : Hash) (l : i < length hs) (had : waiting_of w ≡ remaining (take i hs) W) where
  abbrev h : Hash
  h = get_or hs i d

  behind : (ms : List Member) → with_hash h (waiting_of w) ≡ ms → (old : List Member) → old ≡ T ++ taken_out (take i hs) W → old ++ ms ≡ T ++ taken_out (take (i + 1) hs) W
  behind ms e old is =
      ap (λ k. k ++ ms) is ∙ append_assoc T (taken_out (take i hs) W) ms
      ∙ ap (λ V. T ++ (taken_out (take i hs) W ++ V)) (sym e ∙ ap (with_hash h) had)
      ∙ ap (λ k. T ++ k) (sym (taken_more (take i hs) h W)) ∙ ap (λ gs. T ++ taken_out gs W) (sym (take_more hs i d l))

  pub moved : (b : Box Change) → get hash_cmp w h ≡ Some b → (old new : List (Hash × Box Change)) → new ≡ old ++ (h, b) ∷ []
      → members_of (unboxed old) ≡ T ++ taken_out (take i hs) W → members_of (unboxed new) ≡ T ++ taken_out (take (i + 1) hs) W
  moved b e old new n is =
      let m : Member = member_of (out_of_box (h, b)) in
      let within : Contains (unboxed w.entries) (out_of_box (h, b)) = Contains-map out_of_box w.entries (h, b) ((btree_map_get_iff hash_total hash_exact w ordered h b).0 e) in
      let there : Contains (waiting_of w) m = Contains-map member_of (unboxed w.entries) (out_of_box (h, b)) within in
      let more : unboxed new ≡ unboxed old ++ out_of_box (h, b) ∷ [] = ap unboxed n ∙ map-append out_of_box old ((h, b) ∷ []) in
      ap members_of more ∙ map-append member_of (unboxed old) (out_of_box (h, b) ∷ []) ∙ behind (m ∷ []) (one_with (waiting_of w) (distinct w ordered) m there) (members_of (unboxed old)) is

  pub none_moved : get hash_cmp w h ≡ None → (old : List (Hash × Box Change)) → members_of (unboxed old) ≡ T ++ taken_out (take i hs) W → members_of (unboxed old) ≡ T ++ taken_out (take (i + 1) hs) W
  none_moved e old is =
      let none : with_hash h (waiting_of w) ≡ [] = none_with h (waiting_of w) (absent (waiting_of w) h (no_member (member (waiting_of w) h) (sym (looked_in w h) ∙ ap (option_map box_value) e))) in
      sym (append-nil (members_of (unboxed old))) ∙ behind [] none (members_of (unboxed old)) is
