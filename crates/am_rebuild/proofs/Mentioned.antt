-- The ids that rows have or name are those that are mentioned in them.
use Rattle.std.proofs.Common.{◌≡◌, List, ◌∷◌, map, refl, sym, ap, ◌∙◌, subst, inl, inr, Contains, true}
use Rattle.std.proofs.lemmas.List.Sorted.{IsPermutation-sym, Contains-permutation}
use Rattle.am_types.specs.declared.OpId.{OpId}
use Rattle.am_types.specs.declared.Row.{Row}
use Rattle.am_types.specs.Views.{id_of}
use Rattle.am_histories.specs.Rebuilt.{ids}
use Rattle.am_histories.proofs.Sorted.{Contains-cases, Contains-here, Contains-there}
use Rattle.am_histories.proofs.Contained.{Contains-map, Contains-from_map, Contains-flat_map, Contains-from_flat_map}
use Rattle.am_histories.proofs.Restored.{Contains-each_once, Contains-from_each_once}
use Rattle.am_rebuild.specs.declared.mention.Named.{Named}
use Rattle.am_rebuild.specs.Mentions.{Mention, named_in, row_mentions, mention_of, AreSortedMentions}

module _ (rows : List Row) (all : List Named) (s : AreSortedMentions rows all) where
  abbrev mention_id : Mention → OpId
  mention_id n = n.id

  pub id_known : (x : Named) → Contains all x → Contains (ids rows) (id_of x.id)
  id_known x c =
      let there = subst (λ l. Contains l (mention_of x)) s.are (Contains-map mention_of s.unsorted x (Contains-permutation all s.unsorted x (IsPermutation-sym s.unsorted all s.moved) c)) in
      let r = Contains-from_flat_map row_mentions rows (mention_of x) there in
      let named : Contains (r.0.id ∷ r.0.succs) (id_of x.id) = elim (Contains-cases _ (mention_of x) (map (named_in r.0) r.0.succs) r.2) [
        | inl e ↦ subst (Contains (r.0.id ∷ r.0.succs)) (ap mention_id e) (Contains-here r.0.id r.0.succs)
        | inr d ↦ let q = Contains-from_map (named_in r.0) r.0.succs (mention_of x) d in Contains-there r.0.id (id_of x.id) r.0.succs (subst (Contains r.0.succs) (ap mention_id q.2) q.1)
      ] in
      Contains-each_once _ (id_of x.id) (Contains-flat_map (λ (r : Row). r.id ∷ r.succs) rows r.0 (id_of x.id) r.1 named)

  pub known_id : (i : OpId) → Contains (ids rows) i → (x : Named) × Contains all x × (id_of x.id ≡ i)
  known_id i c =
      let r = Contains-from_flat_map (λ (r : Row). r.id ∷ r.succs) rows i (Contains-from_each_once _ i c) in
      let m : (m : Mention) × Contains (row_mentions r.0) m × (m.id ≡ i) = elim (Contains-cases r.0.id i r.0.succs r.2) [
        | inl e ↦ (record { id = r.0.id; own = true; row = r.0 }, Contains-here _ (map (named_in r.0) r.0.succs), e)
        | inr d ↦ (named_in r.0 i, Contains-there _ (named_in r.0 i) (map (named_in r.0) r.0.succs) (Contains-map (named_in r.0) r.0.succs i d), refl)
      ] in
      let there = subst (λ l. Contains l m.0) (sym s.are) (Contains-flat_map row_mentions rows r.0 m.0 r.1 m.1) in
      let x = Contains-from_map mention_of s.unsorted m.0 there in
      (x.0, Contains-permutation s.unsorted all x.0 s.moved x.1, ap mention_id x.2 ∙ m.2)
