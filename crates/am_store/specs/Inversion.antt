-- What a store saves is read back.
--     saved_changes k        the changes of both sets, those of the closed set in canonical order, the others by hash
--     IsAgain k report new   the sets new are k, each in some order, and nothing was rejected
--     IsReadBack bytes k     the bytes are a file of the changes of k and of no other list, none of its chunks is bad, and
--                            whoever delivers its changes to an empty store has k again
--     DocumentsAreReadBack   what is saved of a valid set whose members stand beside their own hashes is read back
--     FilesAreReadBack       what is saved of both sets of a store is read back
--     DocumentsTellSets      two valid sets whose members stand beside their own hashes have one document exactly where
--                            they are one set
-- A file has fewer than 2 ^ 64 bytes, as all bytes that a program has are.
use Rattle.std.specs.Prelude.{ℕ, ◌≡◌, ◌↔◌, ◌<◌, ◌^◌, false, List, [], ◌++◌, length, IsPermutation}
use Rattle.std.specs.Ordering.{on}
use Rattle.am_types.specs.declared.Change.{Change}
use Rattle.am_types.specs.Order.{hash_cmp, sorted_by}
use Rattle.am_types.specs.Members.{Member, changes}
use Rattle.am_types.specs.ValidSets.{Valid}
use Rattle.am_types.specs.Canonical.{order}
use Rattle.am_change.specs.Judgement.{HasOwnHashes}
use Rattle.am_store.specs.declared.fault.LoadFault.{LoadFault}
use Rattle.am_store.specs.declared.report.Report.{Report}
use Rattle.am_store.specs.Kept.{Kept, IsKept, Delivered, nothing}
use Rattle.am_store.specs.Files.{IsFile, FirstBad}
use Rattle.am_store.specs.Saved.{document, saved_all}

abbrev pub saved_changes : Kept → List Change
saved_changes k = changes (order k.closed) ++ changes (sorted_by (on (λ m. m.hash) hash_cmp) k.waiting)

pub record IsAgain (k : Kept) (report : Report) (new : Kept) : Type 0 where
  pub closed : IsPermutation k.closed new.closed
  pub waiting : IsPermutation k.waiting new.waiting
  pub rejected : report.rejected ≡ []

pub record IsReadBack (bytes : List ℕ) (k : Kept) : Type 0 where
  pub file : IsFile false bytes (saved_changes k)
  pub only : (cs : List Change) → IsFile false bytes cs → cs ≡ saved_changes k
  pub never_bad : (j : ℕ) (fault : LoadFault) → FirstBad false bytes j fault → ⊥
  pub again : (cs : List Change) (report : Report) (new : Kept) → IsFile false bytes cs → Delivered nothing cs report new → IsAgain k report new

abbrev pub DocumentsAreReadBack : Type 0
DocumentsAreReadBack = (C : List Member) → Valid C → HasOwnHashes C → length (document C) < 2 ^ 64 → IsReadBack (document C) (record { closed = C; waiting = [] })

abbrev pub FilesAreReadBack : Type 0
FilesAreReadBack = (k : Kept) → IsKept k → length (saved_all k) < 2 ^ 64 → IsReadBack (saved_all k) k

abbrev pub DocumentsTellSets : Type 0
DocumentsTellSets = (C D : List Member) → Valid C → Valid D → HasOwnHashes C → HasOwnHashes D → length (document C) < 2 ^ 64 → length (document D) < 2 ^ 64
    → (document C ≡ document D) ↔ IsPermutation C D
