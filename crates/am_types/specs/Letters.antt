-- Entries that are letters of a list or a text.
--     IsInserted e          the entry e stands in the slot of the element that its own operation inserted
--     IsLetter o e b        e is such an entry of the object o, and sets the ASCII letter b
--     AreLetters o es bs    the entries es are such letters, of the bytes bs
--     IsRun es bs e         es are letters, of the bytes bs, in the object of the entry e, which comes behind them; e
--                           stands in the slot of its own element too, if there are any
use Rattle.std.specs.Prelude.{◌≡◌, ◌<◌, ℕ, List, [], ◌∷◌, ◌⊎◌}
use Rattle.am_types.specs.Actions as actions
use Rattle.am_types.specs.Records.{ObjId, Elem, Entry}

abbrev pub IsInserted : Entry → Type 0
IsInserted e = e.slot ≡ Elem e.id

pub record IsLetter (o : ObjId) (e : Entry) (b : ℕ) : Type 0 where
  pub object : e.obj ≡ o
  pub inserted : IsInserted e
  pub action : e.action ≡ actions.set
  pub value : e.value ≡ record { kind = 6; raw = b ∷ [] }
  pub ascii : b < 128

abbrev pub AreLetters : ObjId → List Entry → List ℕ → Type 0
AreLetters o [] [] = Unit {0}
AreLetters o [] (b ∷ bs) = ⊥
AreLetters o (e ∷ es) [] = ⊥
AreLetters o (e ∷ es) (b ∷ bs) = IsLetter o e b × AreLetters o es bs

pub record IsRun (es : List Entry) (bs : List ℕ) (e : Entry) : Type 0 where
  pub letters : AreLetters e.obj es bs
  pub behind : (es ≡ []) ⊎ IsInserted e
