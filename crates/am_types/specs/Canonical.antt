-- The canonical order of changes. (A choice of amstore's profile.)
--     depth C c     0 without dependencies, else one more than the greatest depth of a dependency of c in C
--     order C       the members of C by depth, then by actor, then by seq, then by hash
-- The definition counts along the chains of dependencies, of which none is longer than the set; a law says that it is
-- "one more than the greatest depth of a dependency". In a valid set no two members have one actor and seq; elsewhere
-- the hash decides, so that the order of a set never depends on its listing.
use Rattle.std.specs.Prelude.{ℕ, zero, suc, ◌+◌, List, length, map, filter, fold, max as larger}
use Rattle.std.specs.Ordering.{nat_cmp, on, then_cmp}
use Rattle.std.specs.declared.cmp.Ordering.{Ordering}
use Rattle.am_types.specs.Records.{Change}
use Rattle.am_types.specs.Order.{bytes_cmp, hash_cmp, among, sorted_by}
use Rattle.am_types.specs.Members.{Member}

-- the greatest of these numbers, or 0
abbrev pub largest : List ℕ → ℕ
largest ns = fold larger 0 ns

-- the members that c depends on
abbrev pub dependencies : List Member → Change → List Member
dependencies C c = filter (λ m. among hash_cmp c.deps m.hash) C

-- along chains of at most n dependencies
abbrev pub depth_within : ℕ → List Member → Change → ℕ
depth_within zero C c = 0
depth_within (suc n) C c = largest (map (λ m. depth_within n C m.change + 1) (dependencies C c))

unfoldable pub depth : List Member → Change → ℕ
depth C c = depth_within (length C) C c

abbrev pub canonical_cmp : List Member → Member → Member → Ordering
canonical_cmp C =
    then_cmp (on (λ m. depth C m.change) nat_cmp)
    (then_cmp (on (λ m. m.change.actor) bytes_cmp)
    (then_cmp (on (λ m. m.change.seq) nat_cmp)
    (on (λ m. m.hash) hash_cmp)))

unfoldable pub order : List Member → List Member
order C = sorted_by (canonical_cmp C) C
