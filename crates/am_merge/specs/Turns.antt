-- The elements of a larger list, in one walk over those of the smaller, with a stack of new insertions that wait.
--     Turn                     what comes next: an old element, or a new insertion
--     named_by k x             k is the reference of the insertion x
--     children k xs            the insertions of xs whose reference is k
--     others k xs              those with another reference
--     pushed xs waiting        the insertions xs put on the stack one after the other
--     turns n fs waiting xs    the next n turns, where fs are the old elements that are left, waiting is the stack, its top
--                              first, and xs are the new insertions whose reference hasn't come
--     grown fs xs              all turns, where fs are the old elements, and xs, in ascending id, the new insertions
--     going fs waiting xs      all turns that are left
--     comes_first waiting fs   the top of the stack comes before the first of the old elements fs
--     id_of_turn t             the element that comes with the turn t
--     arrivals ts              the new insertions among the turns
-- Before an old element each new one comes that waits on top of the stack and has a greater id; behind each element that
-- comes, its children are put on the stack, so that the greatest is on top. Each turn takes an old element or a new
-- insertion, so that there are as many as these together.
use Rattle.std.specs.Prelude.{ℕ, zero, suc, ◌+◌, Bool, true, false, not, List, [], ◌∷◌, length, filter, if◌then◌else◌}
use Rattle.std.specs.Ordering.{is_gt}
use Rattle.am_types.specs.declared.OpId.{OpId}
use Rattle.am_types.specs.declared.Key.{Key}
use Rattle.am_types.specs.declared.Key.TheVariants.{Head, Elem}
use Rattle.am_types.specs.Order.{id_cmp}
use Rattle.am_types.specs.Same.{same_key}
use Rattle.am_types.specs.Operations.{Operation}

pub data Turn : Type 0 where
  Old : (element : OpId) → Turn
  New : (insertion : Operation) → Turn

abbrev pub named_by : Key → Operation → Bool
named_by k x = same_key x.op.key k

abbrev pub children : Key → List Operation → List Operation
children k xs = filter (named_by k) xs

abbrev pub others : Key → List Operation → List Operation
others k xs = filter (λ x. not (named_by k x)) xs

abbrev pub pushed : List Operation → List Operation → List Operation
pushed [] waiting = waiting
pushed (x ∷ xs) waiting = pushed xs (x ∷ waiting)

abbrev pub turns : ℕ → List OpId → List Operation → List Operation → List Turn
turns zero fs waiting xs = []
turns (suc n) [] [] xs = []
turns (suc n) [] (y ∷ waiting) xs = New y ∷ turns n [] (pushed (children (Elem y.id) xs) waiting) (others (Elem y.id) xs)
turns (suc n) (f ∷ fs) [] xs = Old f ∷ turns n fs (pushed (children (Elem f) xs) []) (others (Elem f) xs)
turns (suc n) (f ∷ fs) (y ∷ waiting) xs =
    if is_gt (id_cmp y.id f) then New y ∷ turns n (f ∷ fs) (pushed (children (Elem y.id) xs) waiting) (others (Elem y.id) xs)
    else Old f ∷ turns n fs (pushed (children (Elem f) xs) (y ∷ waiting)) (others (Elem f) xs)

abbrev pub grown : List OpId → List Operation → List Turn
grown fs xs = turns (length fs + length xs) fs (pushed (children Head xs) []) (others Head xs)

abbrev pub going : List OpId → List Operation → List Operation → List Turn
going fs waiting xs = turns (length fs + (length waiting + length xs)) fs waiting xs

abbrev pub comes_first : List Operation → List OpId → Bool
comes_first [] fs = false
comes_first (y ∷ waiting) [] = true
comes_first (y ∷ waiting) (f ∷ fs) = is_gt (id_cmp y.id f)

abbrev pub id_of_turn : Turn → OpId
id_of_turn (Old f) = f
id_of_turn (New x) = x.id

abbrev pub arrivals : List Turn → List Operation
arrivals [] = []
arrivals (Old f ∷ ts) = arrivals ts
arrivals (New x ∷ ts) = x ∷ arrivals ts
