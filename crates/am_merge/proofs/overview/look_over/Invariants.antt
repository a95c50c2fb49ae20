use Rattle.std.proofs.Common.{◌≡◌, All, filter, map, take}
use Rattle.am_places.specs.Numbered.{operation_of}
use Rattle.am_merge.specs.Aims.{AreAims, means_element, means_id}
use Rattle.am_merge.specs.Naming.{predecessors, references}
use Rattle.am_merge.specs.Starts.{Stands}
use Rattle.am_merge.specs.Walk.{gives_value, inserts, starts}
use Rattle.am_merge.proofs.Aimed.{operation_in}
use Rattle.am_merge.proofs.overview.look_over.Given as goal

abbrev pub invariant-loop-place : goal.invariant-loop-place
invariant-loop-place l = record {
  named : AreAims means_id (map operation_of l.operations) (predecessors (take l.place (map operation_of l.operations))) l.named.items;
  hung : AreAims means_element (map operation_of l.operations) (references (filter inserts (take l.place (map operation_of l.operations)))) l.hung.items;
  values : AreAims means_element (map operation_of l.operations) (references (filter gives_value (take l.place (map operation_of l.operations)))) l.values.items;
  starts : map operation_in l.starts.items ≡ filter starts (take l.place (map operation_of l.operations));
  stand : All (Stands (map operation_of l.operations)) l.starts.items;
}
