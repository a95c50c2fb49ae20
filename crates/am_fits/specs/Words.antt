-- How an index keeps ids, objects and slots: texts stand once in a list, and are known by their places there.
--     text_at ts n        the text with the number n, or the empty one
--     Grows old new       each text keeps its number
--     Words               the actors and the names of an index
--     id_in w k, object_in w k, slot_in w k, fact_in w k     what a key means
--     IsIdOf w k i ..     k is the key of the id i
--     IsLast w l          l has an actor and its number
use Rattle.std.specs.Prelude.{ℕ, ◌≡◌, List, [], All, Some, slice_index_or, ⊤}
use Rattle.am_types.specs.declared.OpId.{OpId}
use Rattle.am_types.specs.declared.ObjId.{ObjId}
use Rattle.am_types.specs.declared.ObjId.TheVariants as object
use Rattle.am_types.specs.declared.Key.{Key}
use Rattle.am_types.specs.declared.Key.TheVariants as key
use Rattle.am_graph.specs.Reaches.{number}
use Rattle.am_fits.specs.declared.table.IdKey.{IdKey}
use Rattle.am_fits.specs.declared.table.ObjectKey.{ObjectKey}
use Rattle.am_fits.specs.declared.table.ObjectKey.TheVariants.{Root, Made}
use Rattle.am_fits.specs.declared.table.SlotKey.{SlotKey}
use Rattle.am_fits.specs.declared.table.SlotKey.TheVariants.{Name, Head, Elem}
use Rattle.am_fits.specs.declared.table.Kept.{Kept}
use Rattle.am_fits.specs.declared.table.Texts.{Texts}
use Rattle.am_fits.specs.declared.table.Last.{Last}
use Rattle.am_fits.specs.Facts.{Fact}

abbrev pub text_at : List (List ℕ) → ℕ → List ℕ
text_at ts n = slice_index_or ts n []

abbrev pub Grows : List (List ℕ) → List (List ℕ) → Type 0
Grows old new = (t : List ℕ) (n : ℕ) → number old t ≡ Some n → number new t ≡ Some n

pub record Words : Type 0 where
  pub authors : List (List ℕ)
  pub names : List (List ℕ)

abbrev pub words_of : Texts → Words
words_of t = record { authors = t.authors; names = t.names }

pub record WordsGrow (old new : Words) : Type 0 where
  pub authors : Grows old.authors new.authors
  pub names : Grows old.names new.names

-- ---- what a key means

abbrev pub id_in : Words → IdKey → OpId
id_in w k = record { counter = k.counter; actor = text_at w.authors k.author }

abbrev pub object_in : Words → ObjectKey → ObjId
object_in w Root = object.Root
object_in w (Made k) = object.Made (id_in w k)

abbrev pub slot_in : Words → SlotKey → Key
slot_in w (Name n) = key.Name (text_at w.names n)
slot_in w Head = key.Head
slot_in w (Elem k) = key.Elem (id_in w k)

abbrev pub fact_in : Words → Kept → Fact
fact_in w k = record { object = object_in w k.object; slot = slot_in w k.slot; action = k.action; insert = k.insert }

abbrev pub entry_in : Words → IdKey × Kept → OpId × Fact
entry_in w e = (id_in w e.0, fact_in w e.1)

-- ---- which key stands for what

abbrev pub IsLast : Words → Last → Type 0
IsLast w l = number w.authors l.actor.now ≡ Some l.author

abbrev pub IsIdOf : Words → IdKey → OpId → Type 0
IsIdOf w k i = (number w.authors i.actor ≡ Some k.author) × (k.counter ≡ i.counter)

abbrev pub IsObjectOf : Words → ObjectKey → ObjId → Type 0
IsObjectOf w Root object.Root = ⊤
IsObjectOf w Root (object.Made i) = ⊥
IsObjectOf w (Made k) object.Root = ⊥
IsObjectOf w (Made k) (object.Made i) = IsIdOf w k i

abbrev pub IsSlotOf : Words → SlotKey → Key → Type 0
IsSlotOf w (Name n) (key.Name t) = number w.names t ≡ Some n
IsSlotOf w (Name n) key.Head = ⊥
IsSlotOf w (Name n) (key.Elem i) = ⊥
IsSlotOf w Head (key.Name t) = ⊥
IsSlotOf w Head key.Head = ⊤
IsSlotOf w Head (key.Elem i) = ⊥
IsSlotOf w (Elem k) (key.Name t) = ⊥
IsSlotOf w (Elem k) key.Head = ⊥
IsSlotOf w (Elem k) (key.Elem i) = IsIdOf w k i

pub record IsFactOf (w : Words) (k : Kept) (f : Fact) : Type 0 where
  pub object : IsObjectOf w k.object f.object
  pub slot : IsSlotOf w k.slot f.slot
  pub action : k.action ≡ f.action
  pub insert : k.insert ≡ f.insert

-- the keys of an entry stand for what they mean
abbrev pub IsKept : Words → IdKey × Kept → Type 0
IsKept w e = IsIdOf w e.0 (id_in w e.0) × IsFactOf w e.1 (fact_in w e.1)

pub record AreKept (w : Words) (es : List (IdKey × Kept)) : Type 0 where
  pub each : All (IsKept w) es
