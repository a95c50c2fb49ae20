-- Lists of insertions, each behind one of those before it. Here `ids` are the ids of what was inserted before.
--     AreInTurn ids ns           each of ns goes behind one before it, whose id is less, or to the front, and its id is new
--     AreOperations ids ns xs    the operations xs are these insertions: their ids, and their references as keys
--     walked ids fs ns           the elements fs, and those of ns, each put in its turn
use Rattle.std.specs.Prelude.{◌≡◌, ◌++◌, List, [], ◌∷◌, ⊤}
use Rattle.std.specs.List.{Contains}
use Rattle.am_types.specs.declared.OpId.{OpId}
use Rattle.am_types.specs.Operations.{Operation}
use Rattle.am_chain.specs.declared.whole.Insertion.{Insertion}
use Rattle.am_chain.specs.Passing.{put_passing}
use Rattle.am_chain.specs.Sequences.{IsNodeBelow, key_of_node}

abbrev pub id_inserted : Insertion → OpId
id_inserted n = n.id

abbrev pub AreInTurn : List OpId → List Insertion → Type 0
AreInTurn ids [] = ⊤
AreInTurn ids (n ∷ ns) = IsNodeBelow ids n.id n.after × (¬ Contains ids n.id) × AreInTurn (ids ++ n.id ∷ []) ns

abbrev pub AreOperations : List OpId → List Insertion → List Operation → Type 0
AreOperations ids [] [] = ⊤
AreOperations ids [] (x ∷ xs) = ⊥
AreOperations ids (n ∷ ns) [] = ⊥
AreOperations ids (n ∷ ns) (x ∷ xs) = (x.id ≡ n.id) × (x.op.key ≡ key_of_node ids n.after) × AreOperations (ids ++ n.id ∷ []) ns xs

abbrev pub walked : List OpId → List OpId → List Insertion → List OpId
walked ids fs [] = fs
walked ids fs (n ∷ ns) = walked (ids ++ n.id ∷ []) (put_passing (key_of_node ids n.after) n.id fs) ns
