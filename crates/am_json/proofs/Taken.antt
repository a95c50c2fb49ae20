-- What is taken of a source comes behind what is kept.
use Rattle.std.proofs.Common.{◌≡◌, List, [], ◌∷◌, ◌++◌, sym, ap, ◌∙◌, subst, append_assoc}
use Rattle.am_types.specs.declared.Entry.{Entry}
use Rattle.am_types.specs.EntryOrder.{IsInOrder}
use Rattle.am_json.specs.Stretches.{Stretch, spread}
use Rattle.am_json.proofs.Ordered.{order_front}
use Rattle.am_json.proofs.Spread.{spread-append}

module _ (ss : List Stretch) (s : Stretch) (rest all : List Entry) (is : all ≡ s.letters ++ s.entry ∷ rest) where
  parts : spread ss ++ all ≡ (spread ss ++ (s.letters ++ s.entry ∷ [])) ++ rest
  parts =
      ap (λ es. spread ss ++ es) (is ∙ sym (append_assoc s.letters (s.entry ∷ []) rest))
      ∙ sym (append_assoc (spread ss) (s.letters ++ s.entry ∷ []) rest)

  pub order_with : IsInOrder (spread ss ++ all) → IsInOrder (spread ss ++ (s.letters ++ s.entry ∷ []))
  order_with order = order_front (spread ss ++ (s.letters ++ s.entry ∷ [])) rest (subst IsInOrder parts order)

  pub all_with : spread (ss ++ s ∷ []) ++ rest ≡ spread ss ++ all
  all_with = ap (λ es. es ++ rest) (spread-append ss (s ∷ [])) ∙ sym parts
