-- What is lent ascends where the values that it stands for do.
use Rattle.std.proofs.Common.{◌+◌, List, [], ◌∷◌, map, sym, ◌∙◌, arith}
use Rattle.std.specs.Ordering.{on}
use Rattle.std.specs.declared.cmp.Ordering.{Ordering}
use Rattle.std.proofs.lemmas.List.{get_or-map, length-map}
use Rattle.am_types.specs.Order.{Ascends}

module _ {X Y : Type 0} (f : X → Y) (cmp : Y → Y → Ordering) where
  pub ascends_map : (xs : List X) → Ascends (on f cmp) xs → Ascends cmp (map f xs)
  ascends_map [] a k d l = absurd (omega arith)
  ascends_map (x ∷ xs) a k d l =
      let n = length-map (x ∷ xs) f in
      let p = get_or-map f (x ∷ xs) k x d (omega arith) in
      let q = get_or-map f (x ∷ xs) (k + 1) x d (omega arith) in
      (λ j. cmp (p j) (q j)) ∙ a k x (omega arith)

  pub ascends_back : (xs : List X) → Ascends cmp (map f xs) → Ascends (on f cmp) xs
  ascends_back xs a k d l =
      let n = length-map xs f in
      let p = get_or-map f xs k d (f d) (omega arith) in
      let q = get_or-map f xs (k + 1) d (f d) (omega arith) in
      sym (λ j. cmp (p j) (q j)) ∙ a k (f d) (omega arith)
