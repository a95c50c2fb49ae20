-- The table of a larger set, from what the smaller one has and the added members.
--     moved L M i         the place in M of the i-th member of L
--     order_after C E     the members of C ++ E in canonical order
--     heads_after C E     its heads
--     table_after C E     what the canonical document of C ++ E says
use Rattle.std.specs.Prelude.{ℕ, not, List, ◌++◌, map, filter, slice_get, option_map, unwrap_or}
use Rattle.std.specs.List.{dedup}
use Rattle.am_types.specs.declared.Hash.{Hash}
use Rattle.am_types.specs.declared.Table.{Table}
use Rattle.am_types.specs.Order.{bytes_cmp, hash_cmp, sorted_by}
use Rattle.am_types.specs.Same.{same_bytes}
use Rattle.am_types.specs.Operations.{all_operations}
use Rattle.am_types.specs.Members.{Member, changes, heads, is_dependency}
use Rattle.am_types.specs.Canonical.{canonical_cmp, order}
use Rattle.am_types.specs.Documents.{index, metas, used_actors, unless_empty}
use Rattle.am_types.specs.Rows.{rows}
use Rattle.am_merge.specs.Merge.{merge}
use Rattle.am_merge.specs.Slots.{rows_after}

-- 0 stands where L has no i-th member
abbrev pub moved : List Member → List Member → ℕ → ℕ
moved L M i = unwrap_or (option_map (λ m. index M m.hash) (slice_get L i)) 0

abbrev pub order_after : List Member → List Member → List Member
order_after C E = merge (canonical_cmp (C ++ E)) (order C) (sorted_by (canonical_cmp (C ++ E)) E)

abbrev pub heads_after : List Member → List Member → List Hash
heads_after C E = merge hash_cmp (filter (λ h. not (is_dependency E h)) (heads C)) (heads E)

abbrev pub table_after : List Member → List Member → Table
table_after C E = record {
  actors = dedup same_bytes (merge bytes_cmp (used_actors C) (used_actors E));
  heads = heads_after C E;
  metas = metas (order_after C E);
  rows = rows_after (all_operations (changes E)) (rows (all_operations (changes C)));
  suffix = unless_empty (map (index (order_after C E)) (heads_after C E));
}
