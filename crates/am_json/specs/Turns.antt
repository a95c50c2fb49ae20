-- Words of private clauses: how the kept entries of an object are gone through.
--     Turn                  letters with their bytes, and the slot behind them
--     goes_on_in e ss       with the stretches ss the slot of e goes on: letters end it
--     turn_with ss w        the turn of the stretches ss of one slot, where w wins
--     turns ss              the stretches of an object, cut where the slot changes
--     turn_of g             the turn that a group stands for
--     slots_of ts           the slots behind the letters
--     all_slots ts          all slots: each letter's own, and the others
--     turn_text ts          what the turns add to a string
--     letter_items bs ds    the bytes bs, each as a string, before the items ds
--     turn_items f ts       the turns as items: the letters, and what f shows of the slots
--     between es fs         what was handed out of es, if fs are left behind one more
use Rattle.std.specs.Prelude.{ℕ, ◌==◌, ◌&&◌, ◌-◌, Bool, false, List, [], ◌∷◌, ◌++◌, map, flat_map, length, take, if◌then◌else◌}
use Rattle.serde_json.specs.Data.{Data, string, Items, item, no_items}
use Rattle.am_types.specs.declared.Entry.{Entry}
use Rattle.am_types.specs.Same.{same_key}
use Rattle.am_json.specs.declared.groups.Group.{Group}
use Rattle.am_json.specs.Entries.{Slot}
use Rattle.am_json.specs.Shown.{piece}
use Rattle.am_json.specs.Stretches.{Stretch, heads}

pub record Turn : Type 0 where
  pub letters : List Entry
  pub bytes : List ℕ
  pub slot : Slot

abbrev pub goes_on_in : Entry → List Stretch → Bool
goes_on_in e [] = false
goes_on_in e (s ∷ ss) = length s.bytes == 0 && same_key s.entry.slot e.slot

abbrev pub first_letters : List Stretch → List Entry
first_letters [] = []
first_letters (s ∷ ss) = s.letters

abbrev pub first_bytes : List Stretch → List ℕ
first_bytes [] = []
first_bytes (s ∷ ss) = s.bytes

abbrev pub turn_with : List Stretch → Entry → Turn
turn_with ss w = record { letters = first_letters ss; bytes = first_bytes ss; slot = record { winner = w; entries = heads ss } }

abbrev pub with_stretch : Stretch → List Turn → List Turn
with_stretch s [] = []
with_stretch s (t ∷ ts) = record { letters = s.letters; bytes = s.bytes; slot = record { winner = t.slot.winner; entries = s.entry ∷ t.slot.entries } } ∷ ts

abbrev pub turns : List Stretch → List Turn
turns [] = []
turns (s ∷ ss) = if goes_on_in s.entry ss then with_stretch s (turns ss) else turn_with (s ∷ []) s.entry ∷ turns ss

abbrev pub turn_of : Group → Turn
turn_of g = turn_with g.entries.now g.winner.now.entry

abbrev pub slots_of : List Turn → List Slot
slots_of ts = map (λ t. t.slot) ts

abbrev pub alone : Entry → Slot
alone e = record { winner = e; entries = e ∷ [] }

abbrev pub all_slots : List Turn → List Slot
all_slots [] = []
all_slots (t ∷ ts) = map alone t.letters ++ t.slot ∷ all_slots ts

abbrev pub turn_text : List Turn → List ℕ
turn_text ts = flat_map (λ t. t.bytes ++ piece t.slot.winner) ts

abbrev pub letter_items : List ℕ → Items → Items
letter_items [] ds = ds
letter_items (b ∷ bs) ds = item (string (b ∷ [])) (letter_items bs ds)

abbrev pub turn_items : (Slot → Data) → List Turn → Items
turn_items f [] = no_items
turn_items f (t ∷ ts) = letter_items t.bytes (item (f t.slot) (turn_items f ts))

abbrev pub between : List Entry → List Entry → List Entry
between es fs = take (length es - 1 - length fs) es
