-- Entries of a map in order.
use Rattle.std.proofs.Common.{◌≡◌, List, [], ◌∷◌, ◌++◌, refl, ap, ◌∙◌}
use Rattle.std.specs.BTreeMap.{insert_entry}
use Rattle.std.specs.Map.{keys_of}
use Rattle.std.specs.List.Sorted.{IsStrictlySortedBy}
use Rattle.std.specs.Ordering.{match_ordering, ordering_reverse}
use Rattle.std.specs.declared.cmp.Ordering.TheVariants.{Less, Greater}
use Rattle.std.proofs.lemmas.List.Elements.{All-contains, All-from_recursion, Contains-append_right}
use Rattle.std.proofs.lemmas.Map.Keys.{sorted_head, sorted_tail}
use Rattle.am_types.specs.declared.Hash.{Hash}
use Rattle.am_types.specs.declared.Change.{Change}
use Rattle.am_types.specs.Order.{hash_cmp}
use Rattle.am_types.proofs.Orders.{hash_total}
use Rattle.am_delivery.proofs.Lists.{Contains-here, Contains-map}

-- a key above all others goes last
pub insert_last : (ys rest : List (Hash × Change)) (x : Hash × Change) → IsStrictlySortedBy hash_cmp (keys_of (ys ++ x ∷ rest)) → insert_entry hash_cmp ys x.0 x.1 ≡ ys ++ x ∷ []
insert_last [] rest x s = refl
insert_last (e ∷ ys) rest x s =
    let again = insert_last ys rest x (sorted_tail hash_cmp e.0 (keys_of (ys ++ x ∷ rest)) s) in
    let later = All-from_recursion (λ g. hash_cmp e.0 g ≡ Less) (keys_of (ys ++ x ∷ rest)) (sorted_head hash_cmp e.0 (keys_of (ys ++ x ∷ rest)) s) in
    let there = Contains-map (λ (f : Hash × Change). f.0) (ys ++ x ∷ rest) x (Contains-append_right ys (x ∷ rest) x (Contains-here x rest)) in
    let above : hash_cmp e.0 x.0 ≡ Less = All-contains (λ g. hash_cmp e.0 g ≡ Less) (keys_of (ys ++ x ∷ rest)) x.0 later there in
    let turned : hash_cmp x.0 e.0 ≡ Greater = hash_total.antisymm x.0 e.0 ∙ ap ordering_reverse above in
    ap (λ o. match_ordering o ((x.0, x.1) ∷ e ∷ ys) ((e.0, x.1) ∷ ys) (e ∷ insert_entry hash_cmp ys x.0 x.1)) turned ∙ ap (λ l. e ∷ l) again
