-- The lines of the changes of entries.
use Rattle.std.proofs.Common.{◌≡◌, List, [], ◌∷◌, map, refl, ap}
use Rattle.am_types.specs.declared.Hash.{Hash}
use Rattle.am_types.specs.declared.Change.{Change}
use Rattle.am_delivery.specs.Waiting.{member_of, members_of}
use Rattle.am_store.specs.History.{line_of}

pub lines_members : (es : List (Hash × Change)) → map (λ (e : Hash × Change). line_of (member_of e)) es ≡ map line_of (members_of es)
lines_members [] = refl
lines_members (e ∷ es) = ap (λ l. line_of (member_of e) ∷ l) (lines_members es)
