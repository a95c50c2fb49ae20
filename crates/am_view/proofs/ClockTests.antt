-- A clock of some changes covers the ids that these cover.
use Rattle.std.proofs.Common.{ℕ, ◌≡◌, ◌∙◌, refl, List, [], ◌∷◌, sym, ap}
use Rattle.am_types.specs.declared.OpId.{OpId}
use Rattle.am_types.specs.declared.Hash.{Hash}
use Rattle.am_types.specs.declared.Key.{Key}
use Rattle.am_types.specs.declared.Key.TheVariants.{Name, Head, Elem}
use Rattle.am_types.specs.Elements.{HasReference, part}
use Rattle.am_types.specs.Operations.{Operation, all_operations}
use Rattle.am_types.specs.Members.{Member, changes}
use Rattle.am_types.specs.Ancestors.{ancestors}
use Rattle.am_types.specs.ValidSets.{Valid}
use Rattle.am_types.specs.Replay.{replay}
use Rattle.am_types.specs.Rows.{rows}
use Rattle.am_types.specs.Clocks as types
use Rattle.am_graph.specs.declared.Reach.{Reach}
use Rattle.am_graph.specs.Clocks.{covers, IsClockOf}
use Rattle.am_view.specs.Seen.{everything}
use Rattle.am_view.specs.Steps.{walk}
use Rattle.am_view.proofs.Named.{orderly}
use Rattle.am_view.proofs.Showing.{shown_is}
use Rattle.am_view.proofs.Reading.{reads_by_rows}
use Rattle.am_view.proofs.Walking.{walks_rows}

module _ (A : List Member) (clock : List (List ℕ × Reach)) (is : IsClockOf A clock) where
  pub covers_alike : covers clock ≡ types.covers A
  covers_alike k i = is.covers i k

-- what one walk finds along the rows of a valid set at a clock of some heads
pub walk_is_replay : (C : List Member) (heads : List Hash) → Valid C → (clock : List (List ℕ × Reach)) → IsClockOf (ancestors C heads) clock
    → walk (covers clock) (rows (all_operations (changes C))) ≡ replay (all_operations (changes (ancestors C heads)))
walk_is_replay C heads v clock is =
    ap (λ test. walk test (rows (all_operations (changes C)))) (covers_alike (ancestors C heads) clock is)
    ∙ walks_rows C v (types.covers (ancestors C heads))
    ∙ reads_by_rows C v heads

-- what one walk finds along the rows of a valid set, where every id is covered
pub walk_everything : (C : List Member) → Valid C → walk everything (rows (all_operations (changes C))) ≡ replay (all_operations (changes C))
walk_everything C v =
    walks_rows C v everything
    ∙ shown_is everything (all_operations (changes C)) (orderly C v) (λ x c k. anchored x.op.key)
    ∙ ap replay (every (all_operations (changes C)))
  where
    anchored : (k : Key) → HasReference everything k
    anchored (Name n) = tt
    anchored Head = tt
    anchored (Elem r) = refl

    every : (xs : List Operation) → part everything xs ≡ xs
    every [] = refl
    every (x ∷ xs) = ap (λ l. x ∷ l) (every xs)
