-- Changes beside their hashes, and hashes in a set.
use Rattle.std.proofs.Common.{ℕ, ◌≡◌, ◌<◌, ◌+◌, ◌||◌, List, [], ◌∷◌, ◌++◌, length, get_or, take, Bool, true, false, BTreeSet, refl, sym, ap, ◌∙◌, subst, inl, inr, All}
use Rattle.std.specs.BTreeSet.{contains, Updates}
use Rattle.std.specs.Map.{keys_of}
use Rattle.std.proofs.lemmas.Bool.{cases_Bool, or_right}
use Rattle.std.proofs.lemmas.Cmp.{eq_by_cmp_equiv}
use Rattle.std.proofs.lemmas.List.{map-append, take_more}
use Rattle.std.proofs.lemmas.List.Elements.{All-push}
use Rattle.std.proofs.lemmas.List.Folds.{list_any_more}
use Rattle.am_types.specs.declared.Hash.{Hash}
use Rattle.am_types.specs.declared.Change.{Change}
use Rattle.am_types.specs.Bytes.{IsHash}
use Rattle.am_types.specs.Fine.{Fine}
use Rattle.am_types.specs.Order.{hash_cmp, same, among}
use Rattle.am_types.specs.Members.{hashes}
use Rattle.am_types.specs.Deliver.{MayCome}
use Rattle.am_types.proofs.Orders.{hash_total, same_hash-true}
use Rattle.am_change.specs.Contents.{hash}
use Rattle.am_delivery.specs.Waiting.{member_of, members_of}
use Rattle.am_change.specs.Hashes.{with_hash, with_hashes}

module _ (pairs : List (Hash × Change)) (cs : List Change) (i : ℕ) (d : Change) (l : i < length cs) (h : Hash) (c : Change) (own : h.0 ≡ hash (get_or cs i d)) (twin : c ≡ get_or cs i d) where
  pub more_hashed : members_of pairs ≡ with_hashes (take i cs) → members_of (pairs ++ (h, c) ∷ []) ≡ with_hashes (take (i + 1) cs)
  more_hashed had =
      let one : member_of (h, c) ≡ with_hash (get_or cs i d) = λ j. record { hash = record { 0 = own j }; change = twin j } in
      map-append member_of pairs ((h, c) ∷ []) ∙ (λ j. had j ++ one j ∷ []) ∙ sym (map-append with_hash (take i cs) (get_or cs i d ∷ [])) ∙ ap with_hashes (sym (take_more cs i d l))

  pub more_may_come : All MayCome (members_of pairs) → IsHash h → Fine (get_or cs i d) → All MayCome (members_of (pairs ++ (h, c) ∷ []))
  more_may_come had is fine =
      subst (All MayCome) (sym (map-append member_of pairs ((h, c) ∷ [])))
      (All-push MayCome (members_of pairs) (member_of (h, c)) had (record { hash = is; fine = subst Fine (sym twin) fine }))

pub keys_hashes : (es : List (Hash × Change)) → keys_of es ≡ hashes (members_of es)
keys_hashes [] = refl
keys_hashes (e ∷ es) = ap (λ hs. e.0 ∷ hs) (keys_hashes es)

or_nothing : (a : Bool) → (a || false) ≡ a
or_nothing true = refl
or_nothing false = refl

pub set_more : (old new : BTreeSet Hash) (hs : List Hash) (i : ℕ) (d : Hash) → i < length hs → Updates hash_cmp old new (get_or hs i d) true
    → ((h : Hash) → contains hash_cmp old h ≡ among hash_cmp (take i hs) h) → (h : Hash) → contains hash_cmp new h ≡ among hash_cmp (take (i + 1) hs) h
set_more old new hs i d l u had h =
    let p = get_or hs i d in
    let more = list_any_more (same hash_cmp h) hs i d l in
    elim (cases_Bool (same hash_cmp h p)) [
      | inl t ↦ ap (contains hash_cmp new) (same_hash-true h p t) ∙ u.1 ∙ sym (or_right (among hash_cmp (take i hs) h) (same hash_cmp h p) t) ∙ sym more
      | inr n ↦ u.2 h ((eq_by_cmp_equiv hash_total).symm p h ∙ n) ∙ had h ∙ sym (or_nothing (among hash_cmp (take i hs) h)) ∙ ap (λ b. among hash_cmp (take i hs) h || b) (sym n) ∙ sym more
    ]
