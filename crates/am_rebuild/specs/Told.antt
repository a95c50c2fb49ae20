-- Whether rows tell just the operations that are rebuilt from them.
--     AreNumbered rows a l h   the ids of the actor a from above the counter l up to h count up by one to h, as those of the
--                              operations that are told of them do
--     FindsOps rows a l h o    o are these operations, or None, where a counter is missing
--     starts_at is n           the first of the ids, if there is one, has the counter n
--     ids_behind last is       how many ids stand in the ascending list that aren't the last
--     differ_from last is      no id of the ascending list is that before it, nor the first the last
--     TellsRest rows n         the rows have or name n ids, are each one operation's that isn't a deletion, with ascending
--                              succs, and are in order
--     TellsIds rows told       told is the number for which this is so, or None, where it is so for none
use Rattle.std.specs.Prelude.{ℕ, ◌+◌, ◌-◌, ◌==◌, ◌≡◌, ◌≢◌, ◌↔◌, ◌&&◌, Bool, true, false, not, List, [], ◌∷◌, length, map, filter, All, AllPairs, Option, Some, None, MatchOption, if◌then◌else◌}
use Rattle.am_types.specs.Actions as actions
use Rattle.am_types.specs.declared.OpId.{OpId}
use Rattle.am_types.specs.declared.Op.{Op}
use Rattle.am_types.specs.declared.Row.{Row}
use Rattle.am_types.specs.Order.{id_cmp, Ascends}
use Rattle.am_types.specs.Same.{same_id}
use Rattle.am_types.specs.Operations.{numbered}
use Rattle.am_histories.specs.Rebuilt.{ids, is_within, ops_within}
use Rattle.am_histories.specs.RowOrder.{RowsInOrder}

abbrev pub AreNumbered : List Row → List ℕ → ℕ → ℕ → Type 0
AreNumbered rows actor low high =
    filter (is_within actor low high) (ids rows)
    ≡ map (λ x. x.id) (numbered (high + 1 - length (ops_within rows actor low high)) actor (ops_within rows actor low high))

abbrev pub FindsOps : List Row → List ℕ → ℕ → ℕ → Option (List Op) → Type 0
FindsOps rows actor low high found =
    MatchOption found (AreNumbered rows actor low high → ⊥) (λ ops. AreNumbered rows actor low high × (ops ≡ ops_within rows actor low high))

abbrev pub starts_at : List OpId → ℕ → Bool
starts_at [] n = true
starts_at (i ∷ is) n = i.counter == n

abbrev pub is_last : Option OpId → OpId → Bool
is_last None i = false
is_last (Some last) i = same_id last i

abbrev pub ids_behind : Option OpId → List OpId → ℕ
ids_behind last [] = 0
ids_behind last (i ∷ is) = if is_last last i then ids_behind last is else ids_behind (Some i) is + 1

abbrev pub differ_from : Option OpId → List OpId → Bool
differ_from last [] = true
differ_from last (i ∷ is) = not (is_last last i) && differ_from (Some i) is

pub record TellsRest (rows : List Row) (n : ℕ) : Type 0 where
  pub count : length (ids rows) ≡ n
  pub apart : AllPairs (λ r s. r.id ≢ s.id) rows
  pub kept : All (λ r. r.action ≢ actions.del) rows
  pub succs : All (λ r. Ascends id_cmp r.succs) rows
  pub in_order : RowsInOrder rows

abbrev pub TellsIds : List Row → Option ℕ → Type 0
TellsIds rows told = MatchOption told ((n : ℕ) → TellsRest rows n → ⊥) (λ ids. (n : ℕ) → (ids ≡ n) ↔ TellsRest rows n)
