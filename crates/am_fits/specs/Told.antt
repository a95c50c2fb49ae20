-- References, by what is told of single ids.
--     Telling                 K i p tells whether an operation with the id i is known that passes the test p
--     good_by K x             x has good references, where K tells what is known
--     ancestor_fact clock fs i    what the clock and the facts fs say of an ancestors' operation with the id i
--     own_fact c k i          what is said of the operation with the id i, where it is among the first k of the change c
--     told clock fs c k       what both tell
use Rattle.std.specs.Prelude.{ℕ, ◌≡◌, ◌+◌, ◌-◌, ◌<◌, ◌==◌, Bool, true, false, not, ◌&&◌, ◌||◌, nat_le, nat_lt, List, length, slice_get, slice_index_or, Option, None, option_map, if◌then◌else◌}
use Rattle.std.specs.List.{list_all}
use Rattle.std.specs.Option.{option_map_or}
use Rattle.am_types.specs.declared.OpId.{OpId}
use Rattle.am_types.specs.declared.ObjId.{ObjId}
use Rattle.am_types.specs.declared.ObjId.TheVariants.{Root, Made}
use Rattle.am_types.specs.declared.Key.{Key}
use Rattle.am_types.specs.declared.Key.TheVariants.{Name, Head, Elem}
use Rattle.am_types.specs.declared.Op.{Op}
use Rattle.am_types.specs.declared.Change.{Change}
use Rattle.am_types.specs.Actions as actions
use Rattle.am_types.specs.Operations.{Operation, slot}
use Rattle.am_types.specs.References.{takes}
use Rattle.am_types.specs.Same.{same_bytes, same_object, same_key}
use Rattle.am_graph.specs.declared.reach.Reach.{Reach}
use Rattle.am_graph.specs.Clocks.{covers}
use Rattle.am_fits.specs.Facts.{Fact, fact_of, fact_with}

abbrev pub Telling : Type 0
Telling = OpId → (Fact → Bool) → Bool

abbrev pub object_by : Telling → ObjId → Key → Bool
object_by K Root k = takes actions.make_map k
object_by K (Made o) k = K o (λ f. takes f.action k)

-- f is an insertion into the object o
abbrev pub inserts : ObjId → Fact → Bool
inserts o f = f.insert && same_object f.object o

abbrev pub element_by : Telling → ObjId → Key → Bool
element_by K o (Name n) = true
element_by K o Head = true
element_by K o (Elem e) = K e (inserts o)

-- f is no deletion, and is in the slot s of the object o
abbrev pub gives_to : ObjId → Key → Fact → Bool
gives_to o s f = not (f.action == actions.del) && same_object f.object o && same_key f.slot s

abbrev pub preds_by : Telling → ObjId → Key → List OpId → Bool
preds_by K o s ps = list_all (λ p. K p (gives_to o s)) ps

abbrev pub good_by : Telling → Operation → Bool
good_by K x = object_by K x.op.obj x.op.key && element_by K x.op.obj x.op.key && preds_by K x.op.obj (slot x) x.op.preds

-- ---- what is known of single ids

abbrev pub ancestor_fact : List (List ℕ × Reach) → List (OpId × Fact) → OpId → Option Fact
ancestor_fact clock fs i = if covers clock i then fact_with fs i else None

-- the operation op of the change c at the place k
abbrev pub own : Change → ℕ → Op → Operation
own c k op = record { id = record { counter = c.start + k; actor = c.actor }; op = op }

abbrev pub own_fact : Change → ℕ → OpId → Option Fact
own_fact c k i =
    if same_bytes i.actor c.actor && nat_le c.start i.counter && nat_lt (i.counter - c.start) k
    then option_map (λ op. fact_of (record { id = i; op = op })) (slice_get c.ops (i.counter - c.start)) else None

abbrev pub told : List (List ℕ × Reach) → List (OpId × Fact) → Change → ℕ → Telling
told clock fs c k i p = option_map_or p (own_fact c k i) false || option_map_or p (ancestor_fact clock fs i) false

-- the operation of c at the place k has good references, or has none
abbrev pub IsGoodAt : List (List ℕ × Reach) → List (OpId × Fact) → Change → ℕ → Type 0
IsGoodAt clock fs c k = (d : Op) → good_by (told clock fs c k) (own c k (slice_index_or c.ops k d)) ≡ true

abbrev pub IsBadAt : List (List ℕ × Reach) → List (OpId × Fact) → Change → ℕ → Type 0
IsBadAt clock fs c k = (d : Op) → good_by (told clock fs c k) (own c k (slice_index_or c.ops k d)) ≡ false

-- the first place with bad references
pub record IsFirstBad (clock : List (List ℕ × Reach)) (fs : List (OpId × Fact)) (c : Change) (k : ℕ) : Type 0 where
  pub within : k < length c.ops
  pub bad : IsBadAt clock fs c k
  pub before : (j : ℕ) → j < k → IsGoodAt clock fs c j
