-- Two valid sets have one document exactly where they are one set.
use Rattle.std.proofs.Common.{◌≡◌, false, List, [], IsPermutation, sym, ap, ◌∙◌, subst, append-nil}
use Rattle.std.proofs.lemmas.List.Sorted.{IsPermutation-sym, IsPermutation-trans}
use Rattle.am_types.specs.declared.Table.{Table}
use Rattle.am_types.specs.Members.{Member, changes}
use Rattle.am_types.specs.Canonical.{order}
use Rattle.am_frame.specs.Frames.{framed}
use Rattle.am_change.specs.Contents.{hash}
use Rattle.am_change.specs.Hashes.{with_hashes}
use Rattle.am_change.specs.Judgement.{HasOwnHashes}
use Rattle.am_doc.specs.Contents.{body}
use Rattle.am_histories.specs.Laws.{TablesTellSets}
use Rattle.am_store.specs.Kept.{Kept}
use Rattle.am_store.specs.Files.{IsFile}
use Rattle.am_store.specs.Inversion.{saved_changes, DocumentsAreReadBack, DocumentsTellSets}
use Rattle.am_store.proofs.Inversion.{ordered, own_ordered}

abbrev kept : List Member → Kept
kept C = record { closed = C; waiting = [] }

-- the changes of a set, in canonical order, tell it
changes_tell : (C D : List Member) → HasOwnHashes C → HasOwnHashes D → changes (order C) ≡ changes (order D) → IsPermutation C D
changes_tell C D a b e =
    let same : order C ≡ order D = sym (own_ordered C a) ∙ ap with_hashes e ∙ own_ordered D b in
    IsPermutation-trans C (order C) D (ordered C) (subst (λ l. IsPermutation l D) (sym same) (IsPermutation-sym D (order D) (ordered D)))

module _ (read_back : DocumentsAreReadBack) (tables : TablesTellSets) where
  pub documents_tell_sets : DocumentsTellSets
  documents_tell_sets C D v w a b s t = (
    λ e.
        let first = (read_back C v a s).file in
        let same : saved_changes (kept C) ≡ saved_changes (kept D) = (read_back D w b t).only (saved_changes (kept C)) (subst (λ bytes. IsFile false bytes (saved_changes (kept C))) e first) in
        changes_tell C D a b (sym (append-nil (changes (order C))) ∙ same ∙ append-nil (changes (order D))),
    λ p. ap (λ (u : Table). framed 0 (body u)) ((tables hash C D v w a b).1 p),
  )
