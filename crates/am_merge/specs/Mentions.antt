-- What is sorted before the tables are made of it.
--     mentioned m     what the code's record stands for
use Rattle.am_places.specs.Numbered.{operation_of}
use Rattle.am_merge.specs.Naming.{Named, object_if}
use Rattle.am_merge.specs.declared.mentions.Mention.{Mention}

abbrev pub mentioned : Mention → Named
mentioned m = record { obj = object_if m.hangs (operation_of m.operation.now); id = m.id.now; operation = operation_of m.operation.now }
