-- Where the kept entries of each object begin. Words of private clauses.
--     start_at bs n k      where the block k of n stretches begins; behind the last block: n
--     object_at bs k       the object of the block k
--     AreBlocks bs es      the blocks bs part the stretches es by their objects, which ascend
use Rattle.std.specs.Prelude.{◌≡◌, ◌<◌, ◌≤◌, ℕ, zero, suc, List, [], ◌∷◌, length, get_or}
use Rattle.std.specs.declared.cmp.Ordering.TheVariants.{Less}
use Rattle.am_types.specs.declared.ObjId.{ObjId}
use Rattle.am_types.specs.declared.ObjId.TheVariants.{Root}
use Rattle.am_types.specs.Order.{object_cmp}
use Rattle.am_types.specs.Views.{object_of}
use Rattle.am_json.specs.declared.blocks.Block.{Block}
use Rattle.am_json.specs.Stretches.{Stretch}

abbrev pub start_at : List Block → ℕ → ℕ → ℕ
start_at [] n k = n
start_at (b ∷ bs) n zero = b.start
start_at (b ∷ bs) n (suc k) = start_at bs n k

abbrev pub object_at : List Block → ℕ → ObjId
object_at [] k = Root
object_at (b ∷ bs) zero = object_of b.object
object_at (b ∷ bs) (suc k) = object_at bs k

pub record AreBlocks (bs : List Block) (es : List Stretch) : Type 0 where
  pub first : start_at bs (length es) 0 ≡ 0
  pub some : (k : ℕ) → k < length bs → start_at bs (length es) k < start_at bs (length es) (suc k)
  pub alike : (k i : ℕ) (e : Stretch) → k < length bs → start_at bs (length es) k ≤ i → i < start_at bs (length es) (suc k) → (get_or es i e).entry.obj ≡ object_at bs k
  pub apart : (j k : ℕ) → j < k → k < length bs → object_cmp (object_at bs j) (object_at bs k) ≡ Less
