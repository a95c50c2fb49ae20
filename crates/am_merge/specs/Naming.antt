-- What added operations name. Here A are operations.
--     Named              an operation beside what it names: an element of an object, or a predecessor
--     named_of n         what the code's record stands for
--     named_key, key_cmp, named_cmp     by the id that is named, then by object
--     is_named o i n     n names the id i in o
--     references A       the operations of A that name elements, beside these
--     predecessors A     the operations of A, beside each of their predecessors; no object is told
--     AreTables A t      t has both, sorted: those of `hanging A`, and of A
--     IsSeam p xs k      p holds right before the place k of xs, and not there
--     counters_in ns     the counters of the ids that are named
--     AreCounters t cs   cs are the counters that both tables name, ascending
use Rattle.std.specs.Prelude.{ℕ, Bool, true, false, ◌≡◌, ◌≤◌, ◌<◌, ◌+◌, ◌&&◌, List, [], ◌∷◌, ◌++◌, length, map, slice_index_or, IsPermutation}
use Rattle.std.specs.List.{flat_map}
use Rattle.std.specs.List.Sorted.{IsSorted}
use Rattle.std.specs.Ordering.{nat_cmp, on, then_cmp}
use Rattle.std.specs.declared.cmp.Ordering.{Ordering}
use Rattle.am_types.specs.declared.OpId.{OpId}
use Rattle.am_types.specs.declared.ObjId.{ObjId}
use Rattle.am_types.specs.declared.ObjId.TheVariants.{Root}
use Rattle.am_types.specs.declared.Key.{Key}
use Rattle.am_types.specs.declared.Key.TheVariants.{Name, Head, Elem}
use Rattle.am_types.specs.Order.{id_cmp, object_cmp, sorted_by}
use Rattle.am_types.specs.Same.{same_id, same_object}
use Rattle.am_types.specs.Operations.{Operation, ascending}
use Rattle.am_types.specs.Views.{id_of}
use Rattle.am_places.specs.Numbered.{operation_of}
use Rattle.am_places.specs.Sound.{HaveDistinctPreds}
use Rattle.am_merge.specs.Walk.{hanging}
use Rattle.am_merge.specs.declared.naming.Naming.{Naming}
use Rattle.am_merge.specs.declared.naming.Tables.{Tables}

pub record Named : Type 0 where
  pub obj : ObjId
  pub id : OpId
  pub operation : Operation

-- the object of an operation, or the root
abbrev pub object_if : Bool → Operation → ObjId
object_if true x = x.op.obj
object_if false x = Root

abbrev pub named_of : Naming → Named
named_of n = record { obj = object_if n.hangs (operation_of n.operation); id = id_of n.id; operation = operation_of n.operation }

abbrev pub key_cmp : ObjId × OpId → ObjId × OpId → Ordering
key_cmp = then_cmp (on (λ k. k.1) id_cmp) (on (λ k. k.0) object_cmp)

abbrev pub named_key : Named → ObjId × OpId
named_key n = (n.obj, n.id)

abbrev pub named_cmp : Named → Named → Ordering
named_cmp = on named_key key_cmp

abbrev pub is_named : ObjId → OpId → Named → Bool
is_named o i n = same_object n.obj o && same_id n.id i

abbrev pub reference_of : Operation → Key → List Named
reference_of x (Name n) = []
reference_of x Head = []
reference_of x (Elem e) = record { obj = x.op.obj; id = e; operation = x } ∷ []

abbrev pub reference : Operation → List Named
reference x = reference_of x x.op.key

abbrev pub references : List Operation → List Named
references A = flat_map reference A

abbrev pub naming_each : Operation → List Named
naming_each x = map (λ p. record { obj = Root; id = p; operation = x }) x.op.preds

abbrev pub predecessors : List Operation → List Named
predecessors A = flat_map naming_each A

pub record AreTables (A : List Operation) (t : Tables) : Type 0 where
  pub named : map named_of t.named.items ≡ sorted_by named_cmp (predecessors A)
  pub hanging_is : map named_of t.hanging.items ≡ sorted_by named_cmp (references (hanging A))
  pub ascends : ascending A ≡ A
  pub distinct : HaveDistinctPreds A

abbrev pub counters_in : List Naming → List ℕ
counters_in ns = map (λ n. n.id.counter) ns

pub record AreCounters (t : Tables) (cs : List ℕ) : Type 0 where
  pub ascend : IsSorted nat_cmp cs
  pub all : IsPermutation (counters_in t.named.items ++ counters_in t.hanging.items) cs

abbrev pub IsSeam : {X : Type 0} → (X → Bool) → List X → ℕ → Type 0
IsSeam {X} p xs k =
    (k ≤ length xs)
    × ((j : ℕ) (d : X) → j + 1 ≡ k → p (slice_index_or xs j d) ≡ true)
    × ((d : X) → k < length xs → p (slice_index_or xs k d) ≡ false)
