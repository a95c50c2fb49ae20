-- Lists that ascend, told element by element.
--     Chain cmp xs            each of xs is below the next
--     ChainFrom cmp x xs      and x is below the first
use Rattle.std.specs.Prelude.{◌≡◌, List, [], ◌∷◌}
use Rattle.std.specs.declared.cmp.Ordering.{Ordering}
use Rattle.std.specs.declared.cmp.Ordering.TheVariants.{Less}

abbrev pub ChainFrom : {X : Type 0} → (X → X → Ordering) → X → List X → Type 0
ChainFrom cmp x [] = Unit {0}
ChainFrom cmp x (y ∷ ys) = (cmp x y ≡ Less) × ChainFrom cmp y ys

abbrev pub Chain : {X : Type 0} → (X → X → Ordering) → List X → Type 0
Chain cmp [] = Unit {0}
Chain cmp (x ∷ xs) = ChainFrom cmp x xs
