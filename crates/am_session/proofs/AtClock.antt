-- What is visible at the clock of some heads, and what a graph tells of the set that it is of.
use Rattle.std.proofs.Common.{◌≡◌, ℕ, List, [], ◌∷◌, map, refl, sym, subst, ap, ◌∙◌, true, not, Some, None, Result}
use Rattle.std.specs.Prelude.{All, IfOk, find}
use Rattle.std.proofs.lemmas.Result.{IfOk-weaker}
use Rattle.am_types.specs.declared.Entry.{Entry}
use Rattle.am_types.specs.declared.Hash.{Hash}
use Rattle.am_types.specs.Order.{hash_cmp, among}
use Rattle.am_types.specs.Operations.{all_operations}
use Rattle.am_types.specs.Members.{Member, changes, hashes, holds}
use Rattle.am_types.specs.Ancestors.{ancestors}
use Rattle.am_types.specs.Documents.{table}
use Rattle.am_types.specs.EntryOrder.{IsInOrder}
use Rattle.am_types.specs.Rows.{rows}
use Rattle.am_types.specs.ValidSets.{Valid}
use Rattle.am_delivery.specs.Laws.{PartIsValid}
use Rattle.am_graph.specs.declared.Node.{Node}
use Rattle.am_graph.specs.declared.fault.ClockFault.{ClockFault}
use Rattle.am_graph.specs.declared.fault.ClockFault.TheVariants.{UnknownHead, NoMemory}
use Rattle.am_graph.specs.Graphs.{MatchFault, nodes, is_held, missing}
use Rattle.am_json.specs.declared.Form.{Form}
use Rattle.am_json.specs.Shown.{json_data}
use Rattle.am_replay.specs.Laws.{EntriesAreInOrder}
use Rattle.am_session.specs.Reading.{visible, printed, reading_by, reading_at}
use Rattle.am_session.proofs.PrintedText.{none_unknown}

-- ---- the hashes of a graph

listed : (C : List Member) → map (λ e. e.0) (nodes C) ≡ hashes C
listed [] = refl
listed (m ∷ C) = ap (λ hs. m.hash ∷ hs) (listed C)

module _ (C : List Member) (g : List (Hash × Node)) (of : g ≡ nodes C) where
  same_hashes : map (λ e. e.0) g ≡ hashes C
  same_hashes = ap (map (λ e. e.0)) of ∙ listed C

  pub held_at : (hs : List Hash) → All (λ h. is_held g h ≡ true) hs → All (λ h. holds C h ≡ true) hs
  held_at hs = subst (λ (l : List Hash). All (λ h. among hash_cmp l h ≡ true) hs) same_hashes

  pub missing_at : (hs : List Hash) → missing g hs ≡ find (λ h. not (holds C h)) hs
  missing_at hs = ap (λ (l : List Hash). find (λ h. not (among hash_cmp l h)) hs) same_hashes

-- ---- the entries at some heads

-- the rows of the document of a set
pub rows_at : (C : List Member) → (table C).rows ≡ rows (all_operations (changes C))
unfolding table
rows_at C = refl

-- what is visible at hashes of a valid set is in order
pub visible_in_order : PartIsValid → EntriesAreInOrder → (C : List Member) → Valid C → (hs : List Hash) → IsInOrder (visible C hs)
visible_in_order part order C valid hs = order (changes (ancestors C hs)) (record { set = ancestors C hs; are = refl; valid = part C hs valid })

-- what is printed where all hashes are held
pub printed_there : {E : Type 0} (r : Result (List ℕ) E) (form : Form) (C : List Member) (hs : List Hash) (es : List Entry) → es ≡ visible C hs → All (λ h. holds C h ≡ true) hs
    → IfOk r (λ reply. reply ≡ printed (json_data form es)) → IfOk r (λ reply. reply ≡ reading_at form hs C)
printed_there r form C hs es are held =
    IfOk-weaker r _ _ (λ reply e. e ∙ ap (λ list. printed (json_data form list)) are ∙ ap (λ found. reading_by found form (visible C hs)) (sym (none_unknown C hs held)))

-- ---- faults

pub match_fault : (f : ClockFault) (P Q : Hash → Type 0) → ((h : Hash) → P h → Q h) → MatchFault f P → MatchFault f Q
match_fault (UnknownHead h) P Q to told = to h told
match_fault NoMemory P Q to told = told
