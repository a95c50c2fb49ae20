-- The entries of a map of changes, in the map's order.
use Rattle.std.proofs.Common.{◌≡◌, List, [], ◌∷◌, ◌++◌, refl, ap, ◌∙◌, subst, All}
use Rattle.std.specs.Map.{keys_of}
use Rattle.std.specs.List.Sorted.{IsStrictlySortedBy}
use Rattle.std.specs.Ordering.{on, is_gt}
use Rattle.std.proofs.lemmas.List.Elements.{All-contains, Contains-append_right}
use Rattle.std.proofs.lemmas.Map.Keys.{sorted_head, sorted_tail}
use Rattle.am_types.specs.declared.Hash.{Hash}
use Rattle.am_types.specs.declared.Change.{Change}
use Rattle.am_types.specs.Fine.{Fine}
use Rattle.am_types.specs.Members.{Member}
use Rattle.am_types.specs.Order.{hash_cmp, put_in_order, sorted_by}
use Rattle.am_delivery.specs.Waiting.{member_of, members_of}
use Rattle.am_delivery.proofs.Lists.{Contains-here, Contains-map}

-- the next entry is that of a fine change, where all are
pub next_fine : (es ys rest : List (Hash × Change)) (x : Hash × Change) → es ≡ ys ++ x ∷ rest → All (λ (m : Member). Fine m.change) (members_of es) → Fine x.1
next_fine es ys rest x e all =
    All-contains (λ (m : Member). Fine m.change) (members_of (ys ++ x ∷ rest)) (member_of x) (subst (λ l. All (λ (m : Member). Fine m.change) (members_of l)) e all)
    (Contains-map member_of (ys ++ x ∷ rest) x (Contains-append_right ys (x ∷ rest) x (Contains-here x rest)))

-- entries whose keys ascend are sorted
pub stay : (es : List (Hash × Change)) → IsStrictlySortedBy hash_cmp (keys_of es) → sorted_by (on (λ (m : Member). m.hash) hash_cmp) (members_of es) ≡ members_of es
stay [] s = refl
stay (e ∷ []) s = refl
stay (e ∷ f ∷ es) s =
    let again = stay (f ∷ es) (sorted_tail hash_cmp e.0 (keys_of (f ∷ es)) s) in
    let below = ap is_gt (sorted_head hash_cmp e.0 (keys_of (f ∷ es)) s).0 in
    ap (put_in_order (on (λ (m : Member). m.hash) hash_cmp) (member_of e)) again ∙ simp below refl
