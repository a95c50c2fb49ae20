-- Worked examples of the walk with a stack.
use Rattle.std.proofs.Common.{ℕ, ◌≡◌, List, [], ◌∷◌, map, true, false, None, refl}
use Rattle.am_types.specs.declared.OpId.{OpId}
use Rattle.am_types.specs.declared.ObjId.TheVariants.{Root}
use Rattle.am_types.specs.declared.Key.{Key}
use Rattle.am_types.specs.declared.Key.TheVariants.{Head, Elem}
use Rattle.am_types.specs.Operations.{Operation}
use Rattle.am_merge.specs.Turns.{grown, id_of_turn}

abbrev i : ℕ → OpId
i n = record { counter = n; actor = [] }

-- the element n, inserted behind what the key names
abbrev put : ℕ → Key → Operation
put n k = record {
  id = i n;
  op = record { obj = Root; key = k; insert = true; action = 1; value = record { kind = 0; raw = [] }; preds = []; expand = false; mark = None };
}

abbrev behind : ℕ → Key
behind n = Elem (i n)

abbrev after : List OpId → List Operation → List OpId
after fs xs = map id_of_turn (grown fs xs)

-- a new first element stands before a lesser old one
first : after (i 1 ∷ []) (put 2 Head ∷ put 3 (behind 1) ∷ []) ≡ i 2 ∷ i 1 ∷ i 3 ∷ []
first = refl

-- of those behind 1 the greatest comes first, old or new
between : after (i 1 ∷ i 4 ∷ []) (put 3 (behind 1) ∷ put 5 (behind 1) ∷ []) ≡ i 1 ∷ i 5 ∷ i 4 ∷ i 3 ∷ []
between = refl

-- what hangs on a new element comes with it
nested : after (i 1 ∷ i 4 ∷ []) (put 3 (behind 1) ∷ put 5 (behind 1) ∷ put 6 (behind 5) ∷ put 7 (behind 4) ∷ []) ≡ i 1 ∷ i 5 ∷ i 6 ∷ i 4 ∷ i 7 ∷ i 3 ∷ []
nested = refl

-- from nothing
alone : after [] (put 1 Head ∷ put 2 (behind 1) ∷ put 3 Head ∷ put 4 (behind 1) ∷ []) ≡ i 3 ∷ i 1 ∷ i 4 ∷ i 2 ∷ []
alone = refl
