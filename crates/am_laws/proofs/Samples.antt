-- The changes of the worked examples.
--     a1, a1x       set the root key a to 1, or to 2; they have one actor and seq
--     a2            sets a to 2 after a1
--     t1            makes the text ab at the key t; t2 and t3 insert x and y after its a
--     k1            sets a counter to 10; k2 adds 5, k3 adds -3, k4 deletes it
--     k5            sets a counter to 2 ^ 63 - 1; k6 adds 5
use Rattle.std.proofs.Common.{ℕ, List, [], ◌∷◌, true, false, None, pos}
use Rattle.am_types.specs.Actions as actions
use Rattle.am_laws.specs.Records.{OpId, Hash, ObjId, Root, Made, Key, Name, Head, Elem, RawValue, Op, Change}
use Rattle.am_types.specs.Members.{Member}
use Rattle.am_laws.proofs.SampleHashes.{h_a1, h_a1x, h_a2, h_t1, h_t2, h_t3, h_k1, h_k2, h_k3, h_k4, h_k5, h_k6}

-- ---- how they are written

abbrev pub aa : List ℕ
aa = 0xaa ∷ []

abbrev pub bb : List ℕ
bb = 0xbb ∷ []

abbrev pub cc : List ℕ
cc = 0xcc ∷ []

abbrev pub id : ℕ → List ℕ → OpId
id counter actor = record { counter = counter; actor = actor }

abbrev pub value : ℕ → List ℕ → RawValue
value kind raw = record { kind = kind; raw = raw }

abbrev pub nothing : RawValue
nothing = value 0 []

abbrev pub op : ObjId → Key → ℕ → RawValue → List OpId → Op
op o k a v preds = record { obj = o; key = k; insert = false; action = a; value = v; preds = preds; expand = false; mark = None }

abbrev pub insertion : ObjId → Key → ℕ → RawValue → Op
insertion o k a v = record { obj = o; key = k; insert = true; action = a; value = v; preds = []; expand = false; mark = None }

abbrev pub change : List Hash → List ℕ → ℕ → ℕ → List Op → Change
change deps actor seq start ops = record { deps = deps; actor = actor; seq = seq; start = start; time = pos 0; message = []; ops = ops; extra = [] }

-- ---- a key

abbrev pub key_a : Key
key_a = Name (0x61 ∷ [])

abbrev pub a1 : Member
a1 = record { hash = h_a1; change = change [] aa 1 1 (op Root key_a actions.set (value 3 (1 ∷ [])) [] ∷ []) }

abbrev pub a1x : Member
a1x = record { hash = h_a1x; change = change [] aa 1 1 (op Root key_a actions.set (value 3 (2 ∷ [])) [] ∷ []) }

abbrev pub a2 : Member
a2 = record { hash = h_a2; change = change (h_a1 ∷ []) aa 2 2 (op Root key_a actions.set (value 3 (2 ∷ [])) (id 1 aa ∷ []) ∷ []) }

-- ---- a text

abbrev pub the_text : ObjId
the_text = Made (id 1 aa)

abbrev pub letter : ℕ → RawValue
letter c = value 6 (c ∷ [])

abbrev pub t1 : Member
t1 = record {
  hash = h_t1;
  change = change [] aa 1 1 (
      op Root (Name (0x74 ∷ [])) actions.make_text nothing []
      ∷ insertion the_text Head actions.set (letter 0x61)
      ∷ insertion the_text (Elem (id 2 aa)) actions.set (letter 0x62)
      ∷ []);
}

abbrev pub t2 : Member
t2 = record { hash = h_t2; change = change (h_t1 ∷ []) bb 1 4 (insertion the_text (Elem (id 2 aa)) actions.set (letter 0x78) ∷ []) }

abbrev pub t3 : Member
t3 = record { hash = h_t3; change = change (h_t1 ∷ []) cc 1 4 (insertion the_text (Elem (id 2 aa)) actions.set (letter 0x79) ∷ []) }

-- ---- a counter

abbrev pub key_n : Key
key_n = Name (0x6e ∷ [])

abbrev pub k1 : Member
k1 = record { hash = h_k1; change = change [] aa 1 1 (op Root key_n actions.set (value 8 (0x0a ∷ [])) [] ∷ []) }

abbrev pub k2 : Member
k2 = record { hash = h_k2; change = change (h_k1 ∷ []) bb 1 2 (op Root key_n actions.inc (value 4 (0x05 ∷ [])) (id 1 aa ∷ []) ∷ []) }

abbrev pub k3 : Member
k3 = record { hash = h_k3; change = change (h_k1 ∷ []) cc 1 2 (op Root key_n actions.inc (value 4 (0x7d ∷ [])) (id 1 aa ∷ []) ∷ []) }

abbrev pub k4 : Member
k4 = record { hash = h_k4; change = change (h_k3 ∷ h_k2 ∷ []) aa 2 3 (op Root key_n actions.del nothing (id 1 aa ∷ []) ∷ []) }

abbrev pub k5 : Member
k5 = record {
  hash = h_k5;
  change = change [] aa 1 1 (op Root key_n actions.set (value 8 (0xff ∷ 0xff ∷ 0xff ∷ 0xff ∷ 0xff ∷ 0xff ∷ 0xff ∷ 0xff ∷ 0xff ∷ 0x00 ∷ [])) [] ∷ []);
}

abbrev pub k6 : Member
k6 = record { hash = h_k6; change = change (h_k5 ∷ []) bb 1 2 (op Root key_n actions.inc (value 4 (0x05 ∷ [])) (id 1 aa ∷ []) ∷ []) }
