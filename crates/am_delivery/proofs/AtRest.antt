-- The changes that have joined, lent from the waiting ones.
use Rattle.std.proofs.Common.{◌≡◌, List, [], ◌∷◌, ◌++◌, map, Option, Some, None, option_map, refl, sym, ap, ◌∙◌, All, Contains, BTreeMap, Bor}
use Rattle.std.specs.Global.{Box}
use Rattle.std.specs.BTreeMap.{IsOrdered}
use Rattle.std.proofs.lemmas.Bool.{both_ways}
use Rattle.std.proofs.lemmas.List.{map-append}
use Rattle.std.proofs.lemmas.List.Elements.{All-contains}
use Rattle.am_types.specs.declared.Hash.{Hash}
use Rattle.am_types.specs.declared.Change.{Change}
use Rattle.am_types.specs.Order.{hash_cmp, same}
use Rattle.am_types.specs.Members.{Member, hashes, changes, member}
use Rattle.am_types.proofs.Lists.{all_of}
use Rattle.am_types.proofs.Orders.{same_hash-true, same_hash_itself}
use Rattle.am_delivery.specs.Waiting.{waiting_of, taken_out, AreLent}
use Rattle.am_delivery.proofs.Lists.{Within, Contains-here, Contains-later, found_is, find_none, any_none}
use Rattle.am_delivery.proofs.Members.{Unique, unique}
use Rattle.am_delivery.proofs.Boxes.{change_at}
use Rattle.am_delivery.proofs.Steps.{distinct}
use Rattle.am_delivery.proofs.Arrivals.{looked_in}
use Rattle.am_delivery.proofs.TakenOut.{taken_within}

some_once : {X : Type 0} (xs ys : List X) → map (λ x. Some x) xs ≡ map (λ x. Some x) ys → xs ≡ ys
some_once [] [] e = refl
some_once [] (y ∷ ys) e = cc
some_once (x ∷ xs) [] e = cc
some_once (x ∷ xs) (y ∷ ys) e =
    let again : map (λ x. Some x) xs ≡ map (λ x. Some x) ys → xs ≡ ys = some_once xs ys in
    let first : Some x ≡ Some y = cc in
    let head : x ≡ y = cc in
    let tail : xs ≡ ys = again (cc) in
    λ i. head i ∷ tail i

member_is : (C : List Member) → Unique C → (m : Member) → Contains C m → member C m.hash ≡ Some m
member_is C one m c = go (member C m.hash) refl
  where
    go : (o : Option Member) → member C m.hash ≡ o → o ≡ Some m
    go None e = absurd (both_ways (same hash_cmp m.hash m.hash) (any_none (λ (n : Member). same hash_cmp m.hash n.hash) C (find_none (λ (n : Member). same hash_cmp m.hash n.hash) C e) m c) (same_hash_itself m.hash))
    go (Some n) e = let f = found_is (λ (k : Member). same hash_cmp m.hash k.hash) C n e in ap Some (one n m f.0 c (sym (same_hash-true m.hash n.hash f.1)))

abbrev found : List Member → Hash → Option Change
found C h = option_map (λ m. m.change) (member C h)

all_found : (C : List Member) → Unique C → (xs : List Member) → Within xs C → map (found C) (hashes xs) ≡ map (λ c. Some c) (changes xs)
all_found C one [] w = refl
all_found C one (m ∷ xs) w =
    let here : found C m.hash ≡ Some m.change = ap (option_map (λ (n : Member). n.change)) (member_is C one m (w m (Contains-here m xs))) in
    let again = all_found C one xs (λ n c. w n (Contains-later m xs n c)) in
    λ i. here i ∷ again i

-- those with the hashes hs are taken out, one for each hash
module _ (w : BTreeMap Hash (Box Change)) (ordered : IsOrdered hash_cmp w) (hs : List Hash) (named : hashes (taken_out hs (waiting_of w)) ≡ hs) where
  abbrev out : List Member
  out = taken_out hs (waiting_of w)

  within : Within out (waiting_of w)
  within m c = taken_within hs (waiting_of w) m c

  pub are_changes : (cs : List Change) → map (λ c. Some c) cs ≡ map (found (waiting_of w)) hs → changes out ≡ cs
  are_changes cs e = sym (some_once cs (changes out) (e ∙ ap (map (found (waiting_of w))) (sym named) ∙ all_found (waiting_of w) (unique (waiting_of w) (distinct w ordered)) out within))

  pub each_admitted : (P : Member → Type 0) → All P (waiting_of w) → All P out
  each_admitted P all = all_of P out (λ m c. All-contains P (waiting_of w) m all (within m c))

-- lent values, one by one
pub lent_some : {X : Type 0} (cs : List (Bor X)) → map (λ c. Some c) (map (λ (c : Bor X). c.now) cs) ≡ map (λ (c : Bor X). Some c.now) cs
lent_some [] = refl
lent_some (c ∷ cs) = ap (λ l. Some c.now ∷ l) (lent_some cs)

-- one more is lent
pub lent_more : (w : BTreeMap Hash (Box Change)) (old new : List (Bor Change)) (hs ks : List Hash) (h : Hash) (c : Bor Change) → new ≡ old ++ c ∷ [] → ks ≡ hs ++ h ∷ [] → Some c.now ≡ change_at w h
    → AreLent old hs (waiting_of w) → AreLent new ks (waiting_of w)
lent_more w old new hs ks h c n k e had =
    let last : Some c.now ≡ found (waiting_of w) h = e ∙ looked_in w h in
    ap (map (λ (x : Bor Change). Some x.now)) n ∙ map-append (λ (x : Bor Change). Some x.now) old (c ∷ [])
    ∙ (λ i. had i ++ last i ∷ [])
    ∙ sym (map-append (found (waiting_of w)) hs (h ∷ [])) ∙ ap (map (found (waiting_of w))) (sym k)

pub within_all : (P : Member → Type 0) (V E : List Member) → ((m : Member) → Contains V m → Contains E m) → All P E → All P V
within_all P V E w all = all_of P V (λ m c. All-contains P E m all (w m c))
