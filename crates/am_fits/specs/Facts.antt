-- What references ask of operations.
--     Fact               an operation's object, slot and action, and whether it inserts
--     fact_of x          that of the operation x
--     facts_of cs        those of the operations of the changes cs, in order, each beside the operation's id
--     fact_with fs i     the first among fs that stands beside the id i
use Rattle.std.specs.Prelude.{ℕ, Bool, List, map, Option}
use Rattle.std.specs.Map.{lookup}
use Rattle.am_types.specs.declared.OpId.{OpId}
use Rattle.am_types.specs.declared.ObjId.{ObjId}
use Rattle.am_types.specs.declared.Key.{Key}
use Rattle.am_types.specs.declared.Change.{Change}
use Rattle.am_types.specs.Same.{same_id}
use Rattle.am_types.specs.Operations.{Operation, all_operations, slot}

pub record Fact : Type 0 where
  pub object : ObjId
  pub slot : Key
  pub action : ℕ
  pub insert : Bool

abbrev pub fact_of : Operation → Fact
fact_of x = record { object = x.op.obj; slot = slot x; action = x.op.action; insert = x.op.insert }

abbrev pub facts : List Operation → List (OpId × Fact)
facts xs = map (λ x. (x.id, fact_of x)) xs

abbrev pub facts_of : List Change → List (OpId × Fact)
facts_of cs = facts (all_operations cs)

abbrev pub fact_with : List (OpId × Fact) → OpId → Option Fact
fact_with fs i = lookup (λ j. same_id j i) fs
