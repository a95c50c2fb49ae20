-- The changes of a set, rebuilt from the contents of its document.
use Rattle.std.proofs.Common.{◌≡◌, List, Err, refl, sym, ap, ◌∙◌, subst, inl, inr}
use Rattle.am_types.specs.declared.Hash.{Hash}
use Rattle.am_types.specs.declared.Change.{Change}
use Rattle.am_types.specs.Members.{Member, changes, heads}
use Rattle.am_types.specs.ValidSets.{Valid}
use Rattle.am_types.specs.Canonical.{order}
use Rattle.am_types.specs.Documents.{table, History}
use Rattle.am_laws.specs.Laws.{ListingIsFree}
use Rattle.am_change.specs.Hashes.{with_hashes}
use Rattle.am_change.specs.Judgement.{HasOwnHashes}
use Rattle.am_histories.specs.Laws.{DocumentIsHistory}
use Rattle.am_delivery.specs.Waiting.{members_of}
use Rattle.am_rebuild.specs.Judged.{IsLeastApart}
use Rattle.am_rebuild.specs.Documents.{IsHistoryOf, Rebuilds, changes_of, AreOwn}
use Rattle.am_rebuild.specs.declared.fault.RebuildFault.{RebuildFault}
use Rattle.am_rebuild.specs.declared.fault.RebuildFault.TheVariants.{NoHistory, HeadsMismatch, NoMemory}
use Rattle.am_store.proofs.Inversion.{ordered, own_ordered, heads_stated}

no_hash_apart : (xs : List Hash) (h : Hash) → IsLeastApart xs xs h → ⊥
no_hash_apart xs h a = elim a.apart [ inl p ↦ p.1 p.0 | inr p ↦ p.1 p.0 ]

module _ (is_history : DocumentIsHistory) (free : ListingIsFree) (C : List Member) (v : Valid C) (own : HasOwnHashes C) where
  its_history : History (table C) (with_hashes (changes (order C)))
  its_history = subst (History (table C)) (sym (own_ordered C own)) (is_history C v)

  its_heads : heads (with_hashes (changes (order C))) ≡ (table C).heads
  its_heads = ap heads (own_ordered C own) ∙ heads_stated C (free C (order C) v (ordered C)).heads

  has_history : ((cs : List Change) → History (table C) (with_hashes cs) → ⊥) → ⊥
  has_history none = none (changes (order C)) its_history

  has_heads : (h : Hash) (cs : List Change) → IsHistoryOf (table C) cs → IsLeastApart (heads (with_hashes cs)) (table C).heads h → ⊥
  has_heads h cs is a =
      let same : changes (order C) ≡ cs = is.one (changes (order C)) its_history in
      no_hash_apart (table C).heads h (subst (λ xs. IsLeastApart xs (table C).heads h) (ap (λ ds. heads (with_hashes ds)) (sym same) ∙ its_heads) a)

  pub only_memory : (fault : RebuildFault) → Rebuilds (table C) (Err fault) → fault ≡ NoMemory
  only_memory NoHistory told = absurd (has_history told)
  only_memory (HeadsMismatch h) told = absurd (has_heads h told.0 told.1 told.2)
  only_memory NoMemory told = refl

  pub in_its_order : (es : List (Hash × Change)) → IsHistoryOf (table C) (changes_of es) → AreOwn es → members_of es ≡ order C
  in_its_order es is own_es =
      let same : changes (order C) ≡ changes_of es = is.one (changes (order C)) its_history in
      own_es ∙ ap with_hashes (sym same) ∙ own_ordered C own
