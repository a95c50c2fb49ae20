-- A run of one id at the front of a list in order ends before the first other id.
use Rattle.std.proofs.Common.{ℕ, get_or, ◌≡◌, ◌<◌, List, length, false, sym, ap, ◌∙◌, inl, inr, arith, nat_le}
use Rattle.std.specs.List.Sorted.{IsSorted}
use Rattle.std.specs.Ordering.{is_gt}
use Rattle.std.proofs.lemmas.Bool.{cases_Bool, cases_lt, both_ways, lt-leb, le-leb}
use Rattle.std.proofs.lemmas.Cmp.{tied_itself, upto}
use Rattle.am_types.specs.declared.OpId.{OpId}
use Rattle.am_types.specs.Same.{same_id}
use Rattle.am_types.specs.Views.{id_of}
use Rattle.am_types.proofs.Orders.{same_id_itself}
use Rattle.am_rebuild.specs.declared.mention.Named.{Named}
use Rattle.am_rebuild.specs.Mentions.{by_author, author_cmp}
use Rattle.am_rebuild.proofs.Authors.{author_total, author_ties}
use Rattle.am_rebuild.proofs.Ordered.{not_above}

module _ (xs : List Named) (up : IsSorted by_author xs) (n : ℕ) where
  abbrev at : ℕ → Named → OpId
  at k d = id_of (get_or xs k d).id

  pub run_above : ((k : ℕ) (d : Named) → k < n → at k d ≡ at 0 d) → ((d : Named) → n < length xs → same_id (at n d) (at 0 d) ≡ false) → (k : ℕ) (d : Named) → k < length xs → is_gt (author_cmp (at k d) (at 0 d)) ≡ nat_le n k
  run_above same other k d l = elim (cases_lt k n) [
    | inl h ↦ ap is_gt (ap (λ i. author_cmp i (at 0 d)) (same k d h) ∙ tied_itself author_total (at 0 d)) ∙ sym (lt-leb n k h)
    | inr h ↦ elim (cases_Bool (is_gt (author_cmp (at k d) (at 0 d)))) [
      | inl t ↦ t ∙ sym (le-leb n k h)
      | inr f ↦
          let low : is_gt (author_cmp (at 0 d) (at n d)) ≡ false = not_above author_total (λ (x : Named). id_of x.id) xs up 0 n d (omega arith) (omega arith) in
          let high : is_gt (author_cmp (at n d) (at k d)) ≡ false = not_above author_total (λ (x : Named). id_of x.id) xs up n k d h l in
          let back : is_gt (author_cmp (at n d) (at 0 d)) ≡ false = upto author_total (at n d) (at k d) (at 0 d) high f in
          absurd (both_ways _ (other d (omega arith)) (ap (same_id (at n d)) (sym (author_ties (at n d) (at 0 d) back low)) ∙ same_id_itself (at n d)))
    ]
  ]
