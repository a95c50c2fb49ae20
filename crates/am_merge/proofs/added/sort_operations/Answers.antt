use Rattle.std.proofs.Common.{map, ap, sym, ◌∙◌}
use Rattle.am_types.specs.Operations.{operation_cmp}
use Rattle.am_places.specs.Numbered.{operation_of}
use Rattle.am_places.proofs.Stable.{sorted_by-map}
use Rattle.am_merge.proofs.HasCounter.{by_id_first}
use Rattle.am_merge.proofs.added.sort_operations.Goals as goal

pub sort_by_counter-requires : goal.sort_by_counter-requires
sort_by_counter-requires c = by_id_first

pub returns : goal.returns
returns c = ap (map operation_of) c.in_ok-sort_by_counter.ensures ∙ sym (sorted_by-map operation_cmp operation_of c.args.all.now.items)
