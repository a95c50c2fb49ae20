-- The order of the elements of a list or a text. (Automerge Binary Document Format, "element order"; the algorithm is
-- known as RGA.)
--     insertions A o     the insertions into the object o, in ascending id
--     elements A o       the elements of o in order: each insertion in turn directly after its reference, or first
--     part q A           the operations of A whose ids the test q passes
--     RespectsReferences q A     with an operation of A, q passes its reference
-- An insertion whose reference isn't there, or whose key is a name, puts nothing in: in a valid set there is none, as a law
-- says, since the reference of each is known and has a lesser id. So a statement about `put_after` wants "the reference is
-- there".
use Rattle.std.specs.Prelude.{Bool, true, ◌≡◌, ◌&&◌, Contains, ⊤, List, [], ◌∷◌, filter, fold, if◌then◌else◌}
use Rattle.am_types.specs.Records.{OpId, ObjId, Key, Name, Head, Elem}
use Rattle.am_types.specs.Same.{same_id, same_object}
use Rattle.am_types.specs.Operations.{Operation, ascending}

abbrev pub inserts_into : ObjId → Operation → Bool
inserts_into o x = x.op.insert && same_object x.op.obj o

abbrev pub insertions : List Operation → ObjId → List Operation
insertions A o = filter (inserts_into o) (ascending A)

-- e directly after r
abbrev pub put_after : OpId → OpId → List OpId → List OpId
put_after r e [] = []
put_after r e (f ∷ fs) = if same_id f r then f ∷ e ∷ fs else f ∷ put_after r e fs

-- e directly after its reference, or first
abbrev pub put_at : Key → OpId → List OpId → List OpId
put_at Head e fs = e ∷ fs
put_at (Elem r) e fs = put_after r e fs
put_at (Name n) e fs = fs

unfoldable pub elements : List Operation → ObjId → List OpId
elements A o = fold (λ fs x. put_at x.op.key x.id fs) [] (insertions A o)

-- ---- parts

-- the operations whose ids the test q passes
abbrev pub part : (OpId → Bool) → List Operation → List Operation
part q A = filter (λ x. q x.id) A

-- the reference of such a key passes q
abbrev pub HasReference : (OpId → Bool) → Key → Type 0
HasReference q Head = ⊤
HasReference q (Elem r) = q r ≡ true
HasReference q (Name n) = ⊤

-- what passes q has a reference that passes q
abbrev pub IsAnchored : (OpId → Bool) → Operation → Type 0
IsAnchored q x = q x.id ≡ true → HasReference q x.op.key

abbrev pub RespectsReferences : (OpId → Bool) → List Operation → Type 0
RespectsReferences q A = (x : Operation) → Contains A x → IsAnchored q x
