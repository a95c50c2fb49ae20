-- Changes that are picked by their hashes.
use Rattle.std.proofs.Common.{ℕ, zero, suc, arith, ◌≡◌, ◌<◌, ◌+◌, List, [], ◌∷◌, ◌++◌, length, map, filter, find, get_or, take, not, Bool, true, false, Option, Some, None, option_map, refl, sym, ap, ◌∙◌, subst, All, Contains}
use Rattle.std.specs.List.{slice_get}
use Rattle.std.specs.List.Sorted.{IsStrictlySortedBy}
use Rattle.std.specs.declared.cmp.Ordering.TheVariants.{Less}
use Rattle.std.proofs.lemmas.Bool.{both_ways}
use Rattle.std.proofs.lemmas.List.{map-append, take_more, length-map}
use Rattle.std.proofs.lemmas.List.Elements.{filter_agree, filter-append, All-contains}
use Rattle.std.proofs.lemmas.List.Sorted.{Contains-permutation, list_any-IsPermutation, IsPermutation-map, IsPermutation-sym}
use Rattle.std.proofs.lemmas.Map.Keys.{sorted_head, sorted_tail}
use Rattle.std.proofs.lemmas.Option.{slice_get-map, slice_get-get_or}
use Rattle.am_types.specs.declared.Hash.{Hash}
use Rattle.am_types.specs.declared.Change.{Change}
use Rattle.am_types.specs.Order.{hash_cmp, same, among, sorted_by, Ascends}
use Rattle.am_types.specs.Members.{Member, hashes, changes, member, holds}
use Rattle.am_types.specs.Same.{same_change}
use Rattle.am_types.specs.Ancestors.{ancestors}
use Rattle.am_types.specs.Canonical.{canonical_cmp, order}
use Rattle.am_types.specs.Deliver.{MayCome}
use Rattle.am_types.specs.Fine.{Fine}
use Rattle.am_types.specs.ValidSets.{Valid}
use Rattle.am_types.proofs.Sorting.{IsPermutation-sorted_by}
use Rattle.am_laws.specs.Laws.{ListingIsFree, SortingIsFree}
use Rattle.am_laws.proofs.SharedAncestors.{ancestors_keep_order}
use Rattle.am_change.specs.Contents.{chunk}
use Rattle.am_graph.specs.declared.Node.{Node}
use Rattle.am_graph.specs.Graphs.{nodes, is_held}
use Rattle.am_graph.proofs.Held.{is_held-nodes}
use Rattle.am_delivery.specs.Waiting.{member_of, members_of}
use Rattle.am_delivery.proofs.Lists.{Within, Contains-here, Contains-later, found_is, find_none, any_none}
use Rattle.am_delivery.proofs.Members.{Unique, holds_it}
use Rattle.am_store.specs.Saved.{chunk_in}
use Rattle.am_types.proofs.Orders.{same_hash-true, same_hash_itself}
use Rattle.am_delivery.proofs.Steady.{absent}

abbrev change_of : Member → Change
change_of m = m.change

-- what a look-up gives
abbrev pub found : List Member → Hash → Option Change
found C h = option_map change_of (member C h)

-- entries without their hashes
pub bare_members : (es : List (Hash × Change)) → map (λ (e : Hash × Change). e.1) es ≡ changes (members_of es)
bare_members [] = refl
bare_members (e ∷ es) = ap (λ l. e.1 ∷ l) (bare_members es)

-- ---- one change

pub place_within : (es : List (Hash × Change)) (place : ℕ) → place < length (members_of es) → place < length es
place_within es place l = let n = length-map es member_of in omega arith

pub entry_found : (es : List (Hash × Change)) (h : Hash) (place : ℕ) (d : Hash × Change) → place < length (members_of es) → member (members_of es) h ≡ slice_get (members_of es) place → found (members_of es) h ≡ Some (get_or es place d).1
entry_found es h place d l e =
    ap (option_map change_of) (e ∙ slice_get-map member_of es place ∙ ap (option_map member_of) (slice_get-get_or es place d (place_within es place l)))

-- a look-up tells whether the change that it gives is equal to another
pub told_same : (es : List (Hash × Change)) (h : Hash) (c d : Change) → found (members_of es) h ≡ Some d → option_map (λ m. same_change m.change c) (member (members_of es) h) ≡ Some (same_change d c)
told_same es h c d = told (member (members_of es) h)
  where
    told : (o : Option Member) → option_map change_of o ≡ Some d → option_map (λ (m : Member). same_change m.change c) o ≡ Some (same_change d c)
    told None e = cc
    told (Some m) e = let is : m.change ≡ d = cc in ap (λ x. Some (same_change x c)) is

pub none_held : (C : List Member) (h : Hash) → member C h ≡ None → holds C h ≡ true → ⊥
none_held C h e t = both_ways (holds C h) (absent C h e) t

-- the chunk of what a look-up gives
pub chunk_found : (C : List Member) (h : Hash) (c : Change) (bytes : List ℕ) → found C h ≡ Some c → bytes ≡ chunk c → Some bytes ≡ chunk_in C h
chunk_found C h c bytes e is = told (member C h) e
  where
    told : (o : Option Member) → option_map change_of o ≡ Some c → Some bytes ≡ option_map (λ (m : Member). chunk m.change) o
    told None e = cc
    told (Some m) e = let same : m.change ≡ c = cc in ap (λ (b : List ℕ). Some b) (is ∙ ap chunk (sym same))

-- no chunk, where the hash isn't held
pub none_chunk : (C : List Member) (h : Hash) → holds C h ≡ false → None ≡ chunk_in C h
none_chunk C h f = told (member C h) refl
  where
    told : (o : Option Member) → member C h ≡ o → None ≡ option_map (λ (m : Member). chunk m.change) o
    told None e = refl
    told (Some m) e =
        let there = found_is (λ (n : Member). same hash_cmp h n.hash) C m e in
        absurd (both_ways (holds C h) f (subst (λ g. holds C g ≡ true) (sym (same_hash-true h m.hash there.1)) (holds_it C m there.0)))

pub fine_found : (C : List Member) (h : Hash) (c : Change) → found C h ≡ Some c → All MayCome C → Fine c
fine_found C h c e all = told (member C h) refl e
  where
    told : (o : Option Member) → member C h ≡ o → option_map change_of o ≡ Some c → Fine c
    told None at e = cc
    told (Some m) at e =
        let is : m.change ≡ c = cc in
        subst Fine is (All-contains MayCome C m all (found_is (λ (n : Member). same hash_cmp h n.hash) C m at).0).fine

-- ---- the changes with some hashes

pub member_is : (C : List Member) → Unique C → (m : Member) → Contains C m → member C m.hash ≡ Some m
member_is C one m c = go (member C m.hash) refl
  where
    p : Member → Bool
    p n = same hash_cmp m.hash n.hash

    go : (o : Option Member) → member C m.hash ≡ o → o ≡ Some m
    go None e = absurd (both_ways (p m) (any_none p C (find_none p C e) m c) (same_hash_itself m.hash))
    go (Some n) e = let f = found_is p C n e in ap Some (one n m f.0 c (sym (same_hash-true m.hash n.hash f.1)))

pub some_once : {X : Type 0} (xs ys : List X) → map (λ x. Some x) xs ≡ map (λ x. Some x) ys → xs ≡ ys
some_once [] [] e = refl
some_once [] (y ∷ ys) e = cc
some_once (x ∷ xs) [] e = cc
some_once (x ∷ xs) (y ∷ ys) e =
    let again : map (λ x. Some x) xs ≡ map (λ x. Some x) ys → xs ≡ ys = some_once xs ys in
    let first : Some x ≡ Some y = cc in
    let head : x ≡ y = cc in
    let tail : xs ≡ ys = again (cc) in
    λ i. head i ∷ tail i

all_found : (C : List Member) → Unique C → (xs : List Member) → Within xs C → map (found C) (hashes xs) ≡ map (λ c. Some c) (changes xs)
all_found C one [] w = refl
all_found C one (m ∷ xs) w =
    let here : found C m.hash ≡ Some m.change = ap (option_map change_of) (member_is C one m (w m (Contains-here m xs))) in
    let again = all_found C one xs (λ n c. w n (Contains-later m xs n c)) in
    λ i. here i ∷ again i

pub in_order : (C : List Member) → Within (order C) C
unfolding order
in_order C m c = Contains-permutation (order C) C m (IsPermutation-sym C (order C) (IsPermutation-sorted_by (canonical_cmp C) C)) c

-- ---- ancestors

of_ancestors : (C : List Member) (heads found_hashes : List Hash) → found_hashes ≡ sorted_by hash_cmp (hashes (ancestors C heads)) → filter (λ m. among hash_cmp found_hashes m.hash) C ≡ ancestors C heads
of_ancestors C heads hs e =
    let A : List Member = ancestors C heads in
    let tests : (m : Member) → among hash_cmp hs m.hash ≡ holds A m.hash = λ m. ap (λ l. among hash_cmp l m.hash) e ∙ sym (list_any-IsPermutation (same hash_cmp m.hash) (hashes A) (sorted_by hash_cmp (hashes A)) (IsPermutation-sorted_by hash_cmp (hashes A))) in
    filter_agree (λ (m : Member). among hash_cmp hs m.hash) (λ (m : Member). holds A m.hash) tests C ∙ sym (ancestors_keep_order C heads)

-- and in canonical order
pub of_ordered : SortingIsFree → ListingIsFree → (C : List Member) → Valid C → (heads found_hashes : List Hash) → found_hashes ≡ sorted_by hash_cmp (hashes (ancestors C heads))
    → filter (λ m. among hash_cmp found_hashes m.hash) (order C) ≡ ancestors (order C) heads
unfolding order
of_ordered sorts law C v heads hs e =
    let seen = (law C (order C) v (IsPermutation-sorted_by (canonical_cmp C) C)).at heads in
    let same = IsPermutation-map (λ (m : Member). m.hash) (ancestors C heads) (ancestors (order C) heads) seen.members in
    of_ancestors (order C) heads hs (e ∙ sym (sorts.1.once (hashes (ancestors C heads)) (hashes (ancestors (order C) heads)) same))

pub more_among : (hs : List Hash) (es : List (Hash × Change)) (i : ℕ) (d : Hash × Change) → i < length es → (b : Bool) → among hash_cmp hs (get_or es i d).0 ≡ b → (cs ds : List Change)
    → cs ≡ changes (filter (λ m. among hash_cmp hs m.hash) (members_of (take i es))) → ds ≡ Rattle.std.proofs.Common.cond b (cs ++ (get_or es i d).1 ∷ []) cs
    → ds ≡ changes (filter (λ m. among hash_cmp hs m.hash) (members_of (take (i + 1) es)))
more_among hs es i d l b test cs ds had new =
    let p : Member → Bool = λ m. among hash_cmp hs m.hash in
    let e = get_or es i d in
    let split : filter p (members_of (take (i + 1) es)) ≡ filter p (members_of (take i es)) ++ filter p (member_of e ∷ []) =
    ap (λ l. filter p (members_of l)) (take_more es i d l) ∙ ap (filter p) (map-append member_of (take i es) (e ∷ [])) ∙ filter-append p (members_of (take i es)) (member_of e ∷ []) in
    let last : changes (filter p (member_of e ∷ [])) ≡ Rattle.std.proofs.Common.cond b (e.1 ∷ []) [] = go b test in
    new ∙ by b cs (e.1 ∷ []) ∙ (λ j. had j ++ sym last j) ∙ sym (map-append change_of (filter p (members_of (take i es))) (filter p (member_of e ∷ []))) ∙ ap changes (sym split)
  where
    go : (b : Bool) → among hash_cmp hs (get_or es i d).0 ≡ b → changes (filter (λ (m : Member). among hash_cmp hs m.hash) (member_of (get_or es i d) ∷ [])) ≡ Rattle.std.proofs.Common.cond b ((get_or es i d).1 ∷ []) []
    go true t = simp t refl
    go false t = simp t refl

    by : (b : Bool) (xs ys : List Change) → Rattle.std.proofs.Common.cond b (xs ++ ys) xs ≡ xs ++ Rattle.std.proofs.Common.cond b ys []
    by true xs ys = refl
    by false xs ys = sym (Rattle.std.proofs.lemmas.List.append-nil xs)

-- ---- the graph's tests are the set's

pub all_held : (g : List (Hash × Node)) (C : List Member) (hs : List Hash) → g ≡ nodes C → All (λ h. is_held g h ≡ true) hs → All (λ h. holds C h ≡ true) hs
all_held g C hs e a k d l = sym (is_held-nodes C (get_or hs k d)) ∙ ap (λ g. is_held g (get_or hs k d)) (sym e) ∙ a k d l

pub first_missing : (g : List (Hash × Node)) (C : List Member) (hs : List Hash) → g ≡ nodes C → find (λ h. not (is_held g h)) hs ≡ find (λ h. not (holds C h)) hs
first_missing g C hs e = ap (λ g. find (λ h. not (is_held g h)) hs) e ∙ find_same hs
  where
    find_same : (hs : List Hash) → find (λ h. not (is_held (nodes C) h)) hs ≡ find (λ h. not (holds C h)) hs
    find_same [] = refl
    find_same (h ∷ hs) = let again = find_same hs in λ i. Rattle.std.proofs.Common.cond (not (is_held-nodes C h i)) (Some h) (again i)

-- ---- ascending hashes

pub ascend : (hs : List Hash) → IsStrictlySortedBy hash_cmp hs → Ascends hash_cmp hs
ascend [] s k d l = absurd (omega arith)
ascend (x ∷ []) s k d l = absurd (omega arith)
ascend (x ∷ y ∷ hs) s zero d l = (sorted_head hash_cmp x (y ∷ hs) s).0
ascend (x ∷ y ∷ hs) s (suc k) d l =
    let again : hash_cmp (get_or (y ∷ hs) k d) (get_or (y ∷ hs) (k + 1) d) ≡ Less = ascend (y ∷ hs) (sorted_tail hash_cmp x (y ∷ hs) s) k d (omega arith) in
    let next : suc (k + 1) ≡ suc k + 1 = omega arith in
    subst (λ n. hash_cmp (get_or (y ∷ hs) k d) (get_or (x ∷ y ∷ hs) n d) ≡ Less) next again
