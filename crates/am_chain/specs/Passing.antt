-- Where a new element of a list stands. (Automerge Binary Document Format, "element order": of the elements that were
-- inserted behind the same one, the greatest id stands first.)
--     put_below e fs          e before the first of fs that isn't greater, or last
--     put_passing k e fs      the same, sought from directly behind the element that k names
--     put_in_turn xs          the ids of some insertions, each put so in turn
--     IsAboveReference x      the id of the insertion x is greater than its reference
--     RefersBack xs           none of the insertions refers to a later one
--     RefersNot xs ys         none of xs refers to one of ys
--     into o A                the insertions into the object o among A
use Rattle.std.specs.Prelude.{◌≡◌, ◌≢◌, List, [], ◌∷◌, fold, filter, if◌then◌else◌, ⊤}
use Rattle.std.specs.List.{AllByRecursion}
use Rattle.std.specs.Ordering.{is_gt}
use Rattle.std.specs.declared.cmp.Ordering.TheVariants.{Less}
use Rattle.am_types.specs.declared.OpId.{OpId}
use Rattle.am_types.specs.declared.ObjId.{ObjId}
use Rattle.am_types.specs.declared.Key.{Key}
use Rattle.am_types.specs.declared.Key.TheVariants.{Name, Head, Elem}
use Rattle.am_types.specs.Elements.{inserts_into}
use Rattle.am_types.specs.Order.{id_cmp}
use Rattle.am_types.specs.Same.{same_id}
use Rattle.am_types.specs.Operations.{Operation}

abbrev pub put_below : OpId → List OpId → List OpId
put_below e [] = e ∷ []
put_below e (f ∷ fs) = if is_gt (id_cmp f e) then f ∷ put_below e fs else e ∷ f ∷ fs

abbrev pub put_below_after : OpId → OpId → List OpId → List OpId
put_below_after r e [] = []
put_below_after r e (f ∷ fs) = if same_id f r then f ∷ put_below e fs else f ∷ put_below_after r e fs

abbrev pub put_passing : Key → OpId → List OpId → List OpId
put_passing Head e fs = put_below e fs
put_passing (Elem r) e fs = put_below_after r e fs
put_passing (Name n) e fs = fs

abbrev pub put_in_turn : List OpId → List Operation → List OpId
put_in_turn fs xs = fold (λ es x. put_passing x.op.key x.id es) fs xs

-- an element is greater than the one that it refers to
abbrev pub IsAbove : OpId → Key → Type 0
IsAbove e Head = ⊤
IsAbove e (Elem r) = id_cmp r e ≡ Less
IsAbove e (Name n) = ⊤

abbrev pub IsAboveReference : Operation → Type 0
IsAboveReference x = IsAbove x.id x.op.key

abbrev pub RefersBack : List Operation → Type 0
RefersBack [] = ⊤
RefersBack (x ∷ xs) = AllByRecursion (λ y. x.op.key ≢ Elem y.id) xs × RefersBack xs

-- none of xs refers to one of ys
abbrev pub RefersNot : List Operation → List Operation → Type 0
RefersNot xs ys = AllByRecursion (λ x. AllByRecursion (λ y. x.op.key ≢ Elem y.id) ys) xs

-- the insertions into o
abbrev pub into : ObjId → List Operation → List Operation
into o A = filter (inserts_into o) A
