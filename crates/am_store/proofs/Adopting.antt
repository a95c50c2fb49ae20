-- An empty store takes over the changes of a document.
use Rattle.std.proofs.Common.{ℕ, ◌≡◌, List, [], length, refl, sym, ◌∙◌, subst, arith, append-nil}
use Rattle.std.proofs.lemmas.List.{length-map}
use Rattle.std.proofs.lemmas.List.Elements.{All-nil}
use Rattle.std.proofs.lemmas.List.Sorted.{IsPermutation-refl, IsPermutation-sym}
use Rattle.am_types.specs.declared.Hash.{Hash}
use Rattle.am_types.specs.declared.Change.{Change}
use Rattle.am_types.specs.declared.Rejected.{Rejected}
use Rattle.am_types.specs.Members.{Member, DistinctHashes}
use Rattle.am_types.specs.ValidSets.{Valid}
use Rattle.am_types.specs.Deliver.{MayCome, deliver}
use Rattle.am_laws.specs.Laws.{ValidSetsKeepRules}
use Rattle.am_change.specs.Judgement.{HasOwnHashes}
use Rattle.am_delivery.specs.Laws.{ComesBack}
use Rattle.am_delivery.specs.Waiting.{member_of, members_of}
use Rattle.am_store.specs.declared.report.Report.{Report}
use Rattle.am_store.specs.Kept.{Kept, IsKept, Takes, nothing}

abbrev kept_of : List (Hash × Change) → List Member → Kept
kept_of es W = record { closed = members_of es; waiting = W }

-- ---- a set without waiting changes

pub alone_kept : ValidSetsKeepRules → (C : List Member) → Valid C → HasOwnHashes C → IsKept (record { closed = C; waiting = [] })
alone_kept rules C v own = record {
  stored = record {
    valid = v;
    waiting = All-nil MayCome;
    hashes = subst DistinctHashes (sym (append-nil C)) (rules C v).hashes;
    settled = refl;
  };
  own_hashes = subst HasOwnHashes (sym (append-nil C)) own;
}

-- ---- what is taken over

-- nothing waited
module _ (es : List (Hash × Change)) (W : List Member) (none : W ≡ []) (v : Valid (members_of es)) where
  pub adopted_kept : ValidSetsKeepRules → HasOwnHashes (members_of es) → IsKept (kept_of es W)
  adopted_kept rules own = subst (λ V. IsKept (kept_of es V)) (sym none) (alone_kept rules (members_of es) v own)

  pub adopted_takes : ComesBack → (old : Kept) (n : ℕ) (R : List Rejected) → old ≡ nothing → n ≡ length es → R ≡ [] → Takes old (members_of es) (record { added = n; waiting = 0; rejected = R }) (kept_of es W)
  adopted_takes back old n R empty count quiet =
      let C = members_of es in
      let left = back C C v (IsPermutation-refl C) in
      let report : Report = record { added = n; waiting = 0; rejected = R } in
      subst (λ (k : Kept). Takes k C report (kept_of es W)) (sym empty)
      (subst (λ V. Takes nothing C report (kept_of es V)) (sym none)
      (record {
        closed = IsPermutation-sym C (deliver [] [] C).closed left.closed;
        waiting = IsPermutation-sym [] (deliver [] [] C).waiting left.waiting;
        rejected = quiet ∙ sym left.rejected;
        added = let same = length-map es member_of in omega arith;
        wait = refl;
      }))
