-- The table of a valid set tells the set, and the set is rebuilt from it.
use Rattle.std.proofs.Common.{◌≡◌, sym, subst, IsPermutation}
use Rattle.std.proofs.lemmas.List.Sorted.{IsPermutation-sym, IsPermutation-trans, All-permutation}
use Rattle.am_types.specs.Members.{Member}
use Rattle.am_types.specs.Canonical.{order}
use Rattle.am_types.specs.Documents.{table, History}
use Rattle.am_laws.proofs.ReadsAlike.{reads_alike}
use Rattle.am_histories.specs.Laws.{TablesTellSets, DocumentIsRebuilt}
use Rattle.am_histories.proofs.Histories.{one_history, rebuilt_is}
use Rattle.am_histories.proofs.OfDocument.{document_is_history, order-same}

pub document_is_rebuilt : DocumentIsRebuilt
document_is_rebuilt hash_of C v a =
    rebuilt_is hash_of (table C) (order C) (All-permutation (λ (m : Member). m.hash ≡ hash_of m.change) C (order C) (order-same C) a) (document_is_history C v)

pub tables_tell_sets : TablesTellSets
tables_tell_sets hash C D v w a b = (
  λ e.
      let same : order C ≡ order D = one_history hash (table C) (order C) (order D)
      (All-permutation (λ (m : Member). m.hash.0 ≡ hash m.change) C (order C) (order-same C) a)
      (All-permutation (λ (m : Member). m.hash.0 ≡ hash m.change) D (order D) (order-same D) b)
      (document_is_history C v) (subst (λ t. History t (order D)) (sym e) (document_is_history D w)) in
      IsPermutation-trans C (order C) D (order-same C) (subst (λ l. IsPermutation l D) (sym same) (IsPermutation-sym D (order D) (order-same D))),
  λ p. sym (reads_alike C D v p).table,
)
