-- Generated changes: three actors write one text together, in rounds, and each change of a round comes after those of
-- the round before.
--     actor j               a1, b2 or c3, by its number
--     first                 the change 0: it makes the text, and sets the counter n to 0
--     in_round r j deps     the change of the actor j in the round r
--     made n                the first n of these changes
use Rattle.std.specs.Prelude.{ℕ, zero, suc, ◌+◌, ◌-◌, ◌*◌, ◌%◌, ◌==◌, List, [], ◌∷◌, true, false, None, codes, pos, if◌then◌else◌}
use Rattle.std.specs.BTreeSet.{insert_key}
use Rattle.am_leb.specs.Leb.{uleb}
use Rattle.am_types.specs.Actions as actions
use Rattle.am_types.specs.declared.Hash.{Hash}
use Rattle.am_types.specs.declared.OpId.{OpId}
use Rattle.am_types.specs.declared.ObjId.{ObjId}
use Rattle.am_types.specs.declared.ObjId.TheVariants.{Root, Made}
use Rattle.am_types.specs.declared.Key.{Key}
use Rattle.am_types.specs.declared.Key.TheVariants.{Name, Head, Elem}
use Rattle.am_types.specs.declared.RawValue.{RawValue}
use Rattle.am_types.specs.declared.Op.{Op}
use Rattle.am_types.specs.declared.Change.{Change}
use Rattle.am_types.specs.Order.{hash_cmp}
use Rattle.am_change.specs.Hashes.{own_hash}

abbrev pub actor : ℕ → List ℕ
actor j = (if j == 0 then 0xa1 else (if j == 1 then 0xb2 else 0xc3)) ∷ []

abbrev pub id : ℕ → ℕ → OpId
id counter j = record { counter = counter; actor = actor j }

abbrev pub value : ℕ → List ℕ → RawValue
value kind raw = record { kind = kind; raw = raw }

abbrev pub op : ObjId → Key → ℕ → RawValue → List OpId → Op
op object key action v preds = record { obj = object; key = key; insert = false; action = action; value = v; preds = preds; expand = false; mark = None }

abbrev pub change : List Hash → ℕ → ℕ → ℕ → List Op → Change
change deps j seq start ops = record { deps = deps; actor = actor j; seq = seq; start = start; time = pos 0; message = []; ops = ops; extra = [] }

abbrev pub key : List ℕ → Key
key name = Name name

-- ---- the first change

abbrev pub makes_text : Op
makes_text = op Root (key (codes "text")) actions.make_text (value 0 []) []

abbrev pub sets_counter : Op
sets_counter = op Root (key (codes "n")) actions.set (value 8 (0 ∷ [])) []

abbrev pub first : Change
first = change [] 0 1 1 (makes_text ∷ sets_counter ∷ [])

-- ---- the changes of the rounds, from 1 on; that of the actor j in the round r starts at 3 * r

abbrev pub the_text : ObjId
the_text = Made (id 1 0)

-- the element that the actor inserted in the round before
abbrev pub last : ℕ → ℕ → OpId
last r j = id (3 * r - 3) j

abbrev pub letter : ℕ → ℕ → ℕ
letter r j = 97 + (r + j) % 26

-- behind its last letter, or at the front
abbrev pub inserts : ℕ → ℕ → Op
inserts r j = record (op the_text (if r == 1 then Head else Elem (last r j)) actions.set (value 6 (letter r j ∷ [])) []) { insert = true }

abbrev pub counts : Op
counts = op Root (key (codes "n")) actions.inc (value 4 (1 ∷ [])) (id 2 0 ∷ [])

-- what the three changes of the round q set the key k to
abbrev pub set_in : ℕ → List OpId
set_in q = id (3 * q + 2) 0 ∷ id (3 * q + 2) 1 ∷ id (3 * q + 2) 2 ∷ []

-- no round that is a multiple of 3 sets k
abbrev pub set_before : ℕ → List OpId
set_before r = if r == 1 then [] else (if (r - 1) % 3 == 0 then set_in (r - 2) else set_in (r - 1))

abbrev pub sets : ℕ → Op
sets r = op Root (key (codes "k")) actions.set (value 3 (uleb r)) (set_before r)

abbrev pub deletes : ℕ → ℕ → Op
deletes r j = op the_text (Elem (last r j)) actions.del (value 0 []) (last r j ∷ [])

abbrev pub ends : ℕ → ℕ → Op
ends r j = if r % 3 == 0 then deletes r j else sets r

abbrev pub in_round : ℕ → ℕ → List Hash → Change
in_round r j deps = change deps j (if j == 0 then r + 1 else r) (3 * r) (inserts r j ∷ counts ∷ ends r j ∷ [])

-- ---- all of them

-- the next changes, from that of the actor j in the round r on; before and here are the hashes of the round before, and
-- of this one so far, each in ascending order and once
unfoldable pub made_from : ℕ → ℕ → List Hash → List Hash → ℕ → List Change
made_from r j before here zero = []
made_from r j before here (suc n) =
    let with_this : List Hash = insert_key hash_cmp here (own_hash (in_round r j before)) in
    in_round r j before ∷ (if j == 2 then made_from (r + 1) 0 with_this [] n else made_from r (j + 1) before with_this n)

abbrev pub made : ℕ → List Change
made zero = []
made (suc n) = first ∷ made_from 1 0 (own_hash first ∷ []) [] n
