-- Whether what an operation names is there. (Automerge Binary Document Format, "operations".)
--     has_good_references known x     x names only what is among the known operations, and fits it
--     first_bad known xs              the place of the first of xs whose references are bad, where those before it in xs
--                                     are known too
use Rattle.std.specs.Prelude.{ℕ, ◌+◌, Bool, true, not, ◌&&◌, ◌||◌, ◌==◌, List, [], ◌∷◌, ◌++◌, Option, Some, None, option_map, if◌then◌else◌}
use Rattle.std.specs.List.{list_any, list_all}
use Rattle.am_types.specs.Actions as actions
use Rattle.am_types.specs.Records.{OpId, ObjId, Root, Made, Key, Name, Head, Elem}
use Rattle.am_types.specs.Same.{same_id, same_object, same_key}
use Rattle.am_types.specs.Operations.{Operation, slot}

-- what the action a makes takes such a key: maps and tables take names, lists and texts take elements
abbrev pub takes : ℕ → Key → Bool
takes a (Name n) = a == actions.make_map || a == actions.make_table
takes a Head = a == actions.make_list || a == actions.make_text
takes a (Elem i) = a == actions.make_list || a == actions.make_text

-- the object is the root or was made by a known operation, and takes the key
abbrev pub object_takes : List Operation → ObjId → Key → Bool
object_takes known Root k = takes actions.make_map k
object_takes known (Made o) k = list_any (λ x. same_id x.id o && takes x.op.action k) known

-- an element was made by a known insertion into the same object
abbrev pub element_known : List Operation → ObjId → Key → Bool
element_known known o (Name n) = true
element_known known o Head = true
element_known known o (Elem e) = list_any (λ x. same_id x.id e && x.op.insert && same_object x.op.obj o) known

-- a predecessor is a known operation in the same slot of the same object, and no deletion
abbrev pub pred_known : List Operation → Operation → OpId → Bool
pred_known known x p = list_any (λ y. same_id y.id p && not (y.op.action == actions.del) && same_object y.op.obj x.op.obj && same_key (slot y) (slot x)) known

abbrev pub has_good_references : List Operation → Operation → Bool
has_good_references known x =
    object_takes known x.op.obj x.op.key && element_known known x.op.obj x.op.key
    && list_all (pred_known known x) x.op.preds

abbrev pub first_bad : List Operation → List Operation → Option ℕ
first_bad known [] = None
first_bad known (x ∷ xs) =
    if has_good_references known x then option_map (λ i. i + 1) (first_bad (known ++ x ∷ []) xs) else Some 0
