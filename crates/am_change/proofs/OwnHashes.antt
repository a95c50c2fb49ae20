-- Changes beside their hashes, one after another.
--     more_pairs, more_may_come     behind those of the first changes of a list stands that of the next
use Rattle.std.proofs.Common.{ℕ, ◌≡◌, ◌<◌, ◌+◌, List, [], ◌∷◌, ◌++◌, length, get_or, take, map, sym, ap, ◌∙◌, subst, All}
use Rattle.std.proofs.lemmas.List.{map-append, take_more}
use Rattle.std.proofs.lemmas.List.Elements.{All-push}
use Rattle.am_types.specs.declared.Hash.{Hash}
use Rattle.am_types.specs.declared.Change.{Change}
use Rattle.am_types.specs.Deliver.{MayCome}
use Rattle.am_change.specs.Hashes.{own_pair, with_hash, with_hashes}

module _ (cs : List Change) (i : ℕ) (d : Change) (l : i < length cs) where
  pub more_pairs : (pairs : List (Hash × Change)) (p : Hash × Change) → p ≡ own_pair (get_or cs i d) → pairs ≡ map own_pair (take i cs) → pairs ++ p ∷ [] ≡ map own_pair (take (i + 1) cs)
  more_pairs pairs p own had =
      (λ j. had j ++ own j ∷ []) ∙ sym (map-append own_pair (take i cs) (get_or cs i d ∷ [])) ∙ ap (map own_pair) (sym (take_more cs i d l))

  pub more_may_come : All MayCome (with_hashes (take i cs)) → MayCome (with_hash (get_or cs i d)) → All MayCome (with_hashes (take (i + 1) cs))
  more_may_come had may =
      subst (All MayCome) (sym (map-append with_hash (take i cs) (get_or cs i d ∷ [])) ∙ ap with_hashes (sym (take_more cs i d l)))
      (All-push MayCome (with_hashes (take i cs)) (with_hash (get_or cs i d)) had may)
