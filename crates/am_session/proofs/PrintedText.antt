-- What is printed of entries.
use Rattle.std.proofs.Common.{◌≡◌, ℕ, suc, ◌<◌, ◌≤◌, List, [], ◌∷◌, ◌++◌, true, false, not, Some, None, Result, refl, sym, ap, ◌∙◌, arith, cond}
use Rattle.std.specs.Prelude.{nat_le, codes, All, IfOk, find, IsPermutation}
use Rattle.std.proofs.lemmas.List.Sorted.{IsPermutation-sym, IsPermutation-trans}
use Rattle.std.proofs.lemmas.Result.{IfOk-weaker}
use Rattle.std.proofs.lemmas.Bool.Decides.{nat_tests}
use Rattle.serde_json.specs.Data.{Data, depth}
use Rattle.serde_json.specs.Written.{compact_text}
use Rattle.am_types.specs.declared.Change.{Change}
use Rattle.am_types.specs.declared.Hash.{Hash}
use Rattle.am_types.specs.Operations.{all_operations}
use Rattle.am_types.specs.Members.{Member, changes, holds}
use Rattle.am_types.specs.Ancestors.{ancestors}
use Rattle.am_types.specs.Canonical.{canonical_cmp, order}
use Rattle.am_types.specs.ValidSets.{Valid, IsValidSet}
use Rattle.am_types.proofs.Sorting.{IsPermutation-sorted_by}
use Rattle.am_laws.specs.Laws.{ListingIsFree}
use Rattle.am_delivery.specs.Laws.{PartIsValid}
use Rattle.am_types.specs.Replay.{replay}
use Rattle.am_json.specs.Shown.{json_data}
use Rattle.am_json.specs.declared.Form.{Form}
use Rattle.am_session.specs.Replies.{newline, refused}
use Rattle.am_session.specs.Reading.{printed, DEEPEST, visible, reading_by, reading_at}

pub fits_text : (d : Data) → depth d ≤ 127 → printed d ≡ compact_text d ++ newline ∷ []
fits_text d h = let fits : nat_le (depth d) DEEPEST ≡ true = grind (arith, nat_tests) in ap (λ b. cond b (compact_text d ++ newline ∷ []) (refused (codes "deep"))) fits

pub deep_text : (d : Data) → 127 < depth d → printed d ≡ refused (codes "deep")
deep_text d h = let deep : nat_le (depth d) DEEPEST ≡ false = grind (arith, nat_tests) in ap (λ b. cond b (compact_text d ++ newline ∷ []) (refused (codes "deep"))) deep

-- where all hashes are held, none is unknown
pub none_unknown : (C : List Member) (hs : List Hash) → All (λ h. holds C h ≡ true) hs → find (λ h. not (holds C h)) hs ≡ None
none_unknown C [] held = refl
none_unknown C (x ∷ xs) held =
    let first : holds C x ≡ true = held 0 x (omega arith) in
    ap (λ b. cond (not b) (Some x) (find (λ h. not (holds C h)) xs)) first ∙ none_unknown C xs (λ k d lt. held (suc k) d (omega arith))

-- what is visible at hashes that are held, of a set that is listed in any way
pub at_listed : ListingIsFree → {E : Type 0} (r : Result (List ℕ) E) (form : Form) (hs : List Hash) (C D : List Member) → Valid C → IsPermutation C D → (cs : List Change) → cs ≡ changes (ancestors D hs)
    → All (λ h. holds C h ≡ true) hs → IfOk r (λ reply. reply ≡ printed (json_data form (replay (all_operations cs)))) → IfOk r (λ reply. reply ≡ reading_at form hs C)
at_listed law r form hs C D v same cs are held = IfOk-weaker r _ _ (λ reply e.
    e ∙ ap (λ list. printed (json_data form (replay (all_operations list)))) are ∙ ap (λ es. printed (json_data form es)) ((law C D v same).at hs).visible
    ∙ ap (λ found. reading_by found form (visible C hs)) (sym (none_unknown C hs held)))

pub in_order : (C : List Member) → IsPermutation C (order C)
unfolding order
in_order C = IsPermutation-sorted_by (canonical_cmp C) C

valid_listed : (C D : List Member) → Valid C → IsPermutation C D → Valid D
valid_listed C D v same = record { listing = v.listing; same = IsPermutation-trans D C v.listing (IsPermutation-sym C D same) v.same; in_turn = v.in_turn }

-- those that the ancestors are, in a set that is listed in any way
pub valid_ancestors : PartIsValid → (C D : List Member) (hs : List Hash) (cs : List Change) → Valid C → IsPermutation C D → cs ≡ changes (ancestors D hs) → IsValidSet cs
valid_ancestors part C D hs cs v same are = record { set = ancestors D hs; are = sym are; valid = part D hs (valid_listed C D v same) }
