-- A valid set with two members exchanged, and without hashes.
use Rattle.std.proofs.Common.{ℕ, ◌≡◌, ◌∙◌, ◌<◌, List, [], ◌∷◌, length, refl, sym, ap}
use Rattle.std.specs.List.{swap}
use Rattle.std.proofs.lemmas.List.Sorted.{IsPermutation-swap, IsPermutation-map, IsPermutation-sym, IsPermutation-trans}
use Rattle.am_types.specs.declared.Hash.{Hash}
use Rattle.am_types.specs.declared.Change.{Change}
use Rattle.am_types.specs.Members.{changes}
use Rattle.am_types.specs.ValidSets.{IsValidSet, Valid}
use Rattle.am_delivery.specs.Waiting.{member_of, members_of}
use Rattle.am_rebuild.specs.Documents.{changes_of}

pub valid_exchanged : (es fs : List (Hash × Change)) (i j : ℕ) → i < length es → j < length es → fs ≡ swap es i j → Valid (members_of es) → Valid (members_of fs)
valid_exchanged es fs i j low_i low_j is v =
    let moved = IsPermutation-map member_of es fs (IsPermutation-swap es fs i j low_i low_j is) in
    record {
      listing = v.listing;
      same = IsPermutation-trans (members_of fs) (members_of es) v.listing (IsPermutation-sym (members_of es) (members_of fs) moved) v.same;
      in_turn = v.in_turn;
    }

changes_of_members : (es : List (Hash × Change)) → changes (members_of es) ≡ changes_of es
changes_of_members [] = refl
changes_of_members (e ∷ es) = ap (λ cs. e.1 ∷ cs) (changes_of_members es)

pub is_valid_set : (es : List (Hash × Change)) (cs : List Change) → cs ≡ changes_of es → Valid (members_of es) → IsValidSet cs
is_valid_set es cs is v = record { set = members_of es; are = changes_of_members es ∙ sym is; valid = v }
