-- What the canonical documents of two of the worked examples say.
use Rattle.std.proofs.Common.{ℕ, ◌≡◌, List, [], ◌∷◌, Some, pos, refl}
use Rattle.am_types.specs.Actions as actions
use Rattle.am_laws.specs.Records.{OpId, Root, Name, Head, Elem, Op, Meta, Row, Table}
use Rattle.am_types.specs.Rows.{rows}
use Rattle.am_types.specs.Elements.{elements}
use Rattle.am_types.specs.Canonical.{depth, order}
use Rattle.am_types.specs.Documents.{table}
use Rattle.am_laws.proofs.SampleHashes.{h_a2, h_t2, h_t3}
use Rattle.am_laws.proofs.Samples.{aa, bb, cc, id, op, insertion, value, nothing, letter, key_a, the_text, a1, a2, t1, t2, t3}

-- a change row without a message
abbrev meta : List ℕ → ℕ → ℕ → List ℕ → Meta
meta actor seq max deps = record { actor = actor; seq = seq; max = max; time = pos 0; message = []; deps = deps; extra = [] }

-- the row of an operation with this id and these successors
abbrev row : OpId → Op → List OpId → Row
row id op succs = record { obj = op.obj; key = op.key; id = id; insert = op.insert; action = op.action; value = op.value; succs = succs; expand = op.expand; mark = op.mark }

-- ---- a key that was set twice

abbrev key_set_twice : Table
key_set_twice = record {
  actors = aa ∷ [];
  heads = h_a2 ∷ [];
  metas = meta aa 1 1 [] ∷ meta aa 2 2 (0 ∷ []) ∷ [];
  rows =
      row (id 1 aa) (op Root key_a actions.set (value 3 (1 ∷ [])) []) (id 2 aa ∷ [])
      ∷ row (id 2 aa) (op Root key_a actions.set (value 3 (2 ∷ [])) []) []
      ∷ [];
  suffix = Some (1 ∷ []);
}

table_of_sets : table (a1 ∷ a2 ∷ []) ≡ key_set_twice
unfolding table order depth rows elements
table_of_sets = refl

-- however the set is listed
table_of_sets_too : table (a2 ∷ a1 ∷ []) ≡ key_set_twice
unfolding table order depth rows elements
table_of_sets_too = refl

-- ---- two people type at one place

table_of_text : table (t3 ∷ t2 ∷ t1 ∷ []) ≡ record {
  actors = aa ∷ bb ∷ cc ∷ [];
  heads = h_t3 ∷ h_t2 ∷ [];
  metas = meta aa 1 3 [] ∷ meta bb 1 4 (0 ∷ []) ∷ meta cc 1 4 (0 ∷ []) ∷ [];
  rows =
      row (id 1 aa) (op Root (Name (0x74 ∷ [])) actions.make_text nothing []) []
      ∷ row (id 2 aa) (insertion the_text Head actions.set (letter 0x61)) []
      ∷ row (id 4 cc) (insertion the_text (Elem (id 2 aa)) actions.set (letter 0x79)) []
      ∷ row (id 4 bb) (insertion the_text (Elem (id 2 aa)) actions.set (letter 0x78)) []
      ∷ row (id 3 aa) (insertion the_text (Elem (id 2 aa)) actions.set (letter 0x62)) []
      ∷ [];
  suffix = Some (2 ∷ 1 ∷ []);
}
unfolding table order depth rows elements
table_of_text = refl
