-- How entries are kept: letters that come right before an entry are kept as their bytes. Words of private clauses.
--     Stretch               letters (none, mostly), their bytes, and the entry behind them
--     bare e                the entry e, with no letters before it
--     spread ss             the entries of stretches, one after another
--     heads ss              those that come behind the letters
--     stands_in o s         the stretch s stands in the object o
--     closes e              no inserted entry comes behind e in its slot
--     ends_closed ss        the last entry closes its slot, or there is none
--     AreRuns ss            the letters of each are letters of its object, and with letters its entry is inserted too
--     AreApart ss           where letters come behind an entry, it closes its slot
--     ArePlain ss           there are no letters
--     AreKept form ss       all of it, for a text of that form: a text that shows ids keeps no letters
use Rattle.std.specs.Prelude.{◌≡◌, ◌⊎◌, ℕ, Bool, true, not, List, [], ◌∷◌, ◌++◌, map, IsTrue}
use Rattle.std.specs.Ordering.{is_lt}
use Rattle.am_types.specs.Letters.{IsRun}
use Rattle.am_types.specs.Order.{id_cmp}
use Rattle.am_types.specs.declared.OpId.{OpId}
use Rattle.am_types.specs.declared.ObjId.{ObjId}
use Rattle.am_types.specs.declared.Key.{Key}
use Rattle.am_types.specs.declared.Key.TheVariants.{Name, Head, Elem}
use Rattle.am_types.specs.declared.Entry.{Entry}
use Rattle.am_types.specs.EntryOrder.{IsInOrder}
use Rattle.am_json.specs.declared.form.Form.{Form}
use Rattle.am_json.specs.declared.form.Form.TheVariants as forms
use Rattle.am_json.specs.Entries.{is_in}

pub record Stretch : Type 0 where
  pub letters : List Entry
  pub bytes : List ℕ
  pub entry : Entry

abbrev pub bare : Entry → Stretch
bare e = record { letters = []; bytes = []; entry = e }

abbrev pub spread : List Stretch → List Entry
spread [] = []
spread (s ∷ ss) = s.letters ++ s.entry ∷ spread ss

abbrev pub heads : List Stretch → List Entry
heads ss = map (λ s. s.entry) ss

abbrev pub stands_in : ObjId → Stretch → Bool
stands_in o s = is_in o s.entry

-- a later entry of a slot has a greater id, and an inserted one has the id of its element
abbrev pub closes_slot : Key → OpId → Bool
closes_slot (Name n) i = true
closes_slot Head i = true
closes_slot (Elem j) i = not (is_lt (id_cmp i j))

abbrev pub closes : Entry → Bool
closes e = closes_slot e.slot e.id

abbrev pub ends_closed : List Stretch → Bool
ends_closed [] = true
ends_closed (s ∷ []) = closes s.entry
ends_closed (s ∷ t ∷ ss) = ends_closed (t ∷ ss)

abbrev pub AreRuns : List Stretch → Type 0
AreRuns [] = Unit {0}
AreRuns (s ∷ ss) = IsRun s.letters s.bytes s.entry × AreRuns ss

abbrev pub IsApart : Entry → List Stretch → Type 0
IsApart e [] = Unit {0}
IsApart e (s ∷ ss) = (s.letters ≡ []) ⊎ IsTrue (closes e)

abbrev pub AreApart : List Stretch → Type 0
AreApart [] = Unit {0}
AreApart (s ∷ ss) = IsApart s.entry ss × AreApart ss

abbrev pub ArePlain : List Stretch → Type 0
ArePlain [] = Unit {0}
ArePlain (s ∷ ss) = (s.letters ≡ []) × ArePlain ss

pub record AreKept (form : Form) (ss : List Stretch) : Type 0 where
  pub ordered : IsInOrder (spread ss)
  pub runs : AreRuns ss
  pub apart : AreApart ss
  pub plain : form ≡ forms.All → ArePlain ss
