-- What a borrowed form stands for.
--     slot_shown, fact_shown     the plain slot or fact that was lent
use Rattle.am_types.specs.declared.Key.{Key}
use Rattle.am_types.specs.declared.Key.TheVariants as key
use Rattle.am_types.specs.Views.{id_of, object_of}
use Rattle.am_fits.specs.declared.seen.SlotRef.{SlotRef}
use Rattle.am_fits.specs.declared.seen.SlotRef.TheVariants.{Name, Head, Elem}
use Rattle.am_fits.specs.declared.seen.Seen.{Seen}
use Rattle.am_fits.specs.Facts.{Fact}

abbrev pub slot_shown : SlotRef → Key
slot_shown (Name n) = key.Name n.now
slot_shown Head = key.Head
slot_shown (Elem r) = key.Elem (id_of r)

abbrev pub fact_shown : Seen → Fact
fact_shown s = record { object = object_of s.object; slot = slot_shown s.slot; action = s.action; insert = s.insert }
