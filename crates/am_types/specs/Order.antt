-- Orders, and lists that are in order.
--     bytes_cmp           byte by byte, a list before what it begins
--     hash_cmp            the order of hashes: by their bytes
--     id_cmp              the order of ids: by counter, then by the bytes of the actor
--     object_cmp          the order of objects: the root first, then by id
--     same cmp x y        neither is below the other
--     among cmp xs x      x is among xs
--     sorted_by cmp xs    xs in ascending order
--     Ascends cmp xs      each of xs is below the next
--     put_in_order cmp x xs     x put at its place among the ascending xs
-- The order of ids is that of the Automerge Binary Document Format (Lamport timestamps). The others are choices of
-- amstore's profile.
use Rattle.std.specs.Prelude.{ℕ, Bool, ◌≡◌, List, [], ◌∷◌, length, if◌then◌else◌}
use Rattle.std.specs.List.{list_any, AllAdjacentBelow}
use Rattle.std.specs.Ordering.{nat_cmp, ordering_then, is_eq, is_gt}
use Rattle.std.specs.declared.cmp.Ordering.{Ordering}
use Rattle.std.specs.declared.cmp.Ordering.TheVariants.{Less, Equal, Greater}
use Rattle.std.specs.Cmp.Lexicographic.{slice_cmp}
use Rattle.am_types.specs.Records.{OpId, Hash, ObjId, Root, Made}

abbrev pub bytes_cmp : List ℕ → List ℕ → Ordering
bytes_cmp = slice_cmp nat_cmp

abbrev pub hash_cmp : Hash → Hash → Ordering
hash_cmp a b = bytes_cmp a.0 b.0

abbrev pub id_cmp : OpId → OpId → Ordering
id_cmp a b = ordering_then (nat_cmp a.counter b.counter) (bytes_cmp a.actor b.actor)

abbrev pub object_cmp : ObjId → ObjId → Ordering
object_cmp Root Root = Equal
object_cmp Root (Made b) = Less
object_cmp (Made a) Root = Greater
object_cmp (Made a) (Made b) = id_cmp a b

abbrev pub same : {X : Type 0} → (X → X → Ordering) → X → X → Bool
same cmp x y = is_eq (cmp x y)

abbrev pub among : {X : Type 0} → (X → X → Ordering) → List X → X → Bool
among cmp xs x = list_any (same cmp x) xs

-- x at its place in an ascending list, before those that tie with it
abbrev pub put_in_order : {X : Type 0} → (X → X → Ordering) → X → List X → List X
put_in_order cmp x [] = x ∷ []
put_in_order cmp x (y ∷ ys) = if is_gt (cmp x y) then y ∷ put_in_order cmp x ys else x ∷ y ∷ ys

abbrev pub sorted_by : {X : Type 0} → (X → X → Ordering) → List X → List X
sorted_by cmp [] = []
sorted_by cmp (x ∷ xs) = put_in_order cmp x (sorted_by cmp xs)

abbrev pub Ascends : {X : Type 0} → (X → X → Ordering) → List X → Type 0
Ascends cmp xs = AllAdjacentBelow (λ x y. cmp x y ≡ Less) xs (length xs)
