-- A row's own actor and those of its succs are among the names of the rows; a mention more of a row.
use Rattle.std.proofs.Common.{ℕ, get_or, ◌≡◌, ◌+◌, ◌<◌, List, [], ◌∷◌, ◌++◌, length, map, take, false, sym, ap, ◌∙◌, subst, All, Contains, arith}
use Rattle.std.proofs.lemmas.List.{map-append, append_assoc, map_more, get_or-map, length-map}
use Rattle.std.proofs.lemmas.List.Elements.{Contains-get_or}
use Rattle.am_types.specs.declared.OpId.{OpId}
use Rattle.am_types.specs.declared.Row.{Row}
use Rattle.am_types.specs.declared.refs.IdRef.{IdRef}
use Rattle.am_types.specs.Views.{id_of}
use Rattle.am_histories.proofs.Sorted.{Contains-here, Contains-there}
use Rattle.am_histories.proofs.Contained.{Contains-map, Contains-flat_map}
use Rattle.am_rebuild.specs.Mentions.{Mention, named_in}
use Rattle.am_rebuild.specs.Names.{mentioned_actors, AreNames}

abbrev actor_of : OpId → List ℕ
actor_of i = i.actor

module _ (names : List (List ℕ)) where
  -- the actor of an id at a place among those that are lent of a row
  pub named_succ : (succs : List OpId) (items : List IdRef) (i : ℕ) (d : IdRef) → map id_of items ≡ succs → All (λ (j : OpId). Contains names j.actor) succs → i < length items → Contains names (id_of (get_or items i d)).actor
  named_succ succs items i d e all l =
      let n = length-map items id_of in
      subst (λ (j : OpId). Contains names j.actor) (get_or-map id_of items i d (id_of d) l) (subst (All (λ (j : OpId). Contains names j.actor)) (sym e) all i (id_of d) (omega arith))

  module _ (rows : List Row) (i : ℕ) (x : Row) (are : AreNames (mentioned_actors rows) names) (l : i < length rows) (is : x ≡ get_or rows i x) where
    named_in_row : (a : List ℕ) → Contains (x.id.actor ∷ map actor_of x.succs) a → Contains names a
    named_in_row a c = are.named a (Contains-flat_map (λ (r : Row). r.id.actor ∷ map actor_of r.succs) rows x a (i, l, sym is) c)

    pub named_own : Contains names x.id.actor
    named_own = named_in_row x.id.actor (Contains-here x.id.actor (map actor_of x.succs))

    pub named_succs : All (λ (j : OpId). Contains names j.actor) x.succs
    named_succs k d h =
        let s = get_or x.succs k d in
        named_in_row s.actor (Contains-there x.id.actor s.actor (map actor_of x.succs) (Contains-map actor_of x.succs s (Contains-get_or x.succs k d h)))

-- one more that a row names
pub mention_more : (r : Row) (start before new : List Mention) (items : List IdRef) (i : ℕ) (d : IdRef) → i < length items → before ≡ start ++ map (named_in r) (map id_of (take i items))
    → new ≡ before ++ record { id = id_of (get_or items i d); own = false; row = r } ∷ [] → new ≡ start ++ map (named_in r) (map id_of (take (i + 1) items))
mention_more r start before new items i d l b n =
    let x : OpId = id_of (get_or items i d) in
    n ∙ ap (λ m. m ++ named_in r x ∷ []) b ∙ append_assoc start (map (named_in r) (map id_of (take i items))) (named_in r x ∷ [])
    ∙ ap (λ m. start ++ m) (sym (ap (map (named_in r)) (map_more id_of items i d l) ∙ map-append (named_in r) (map id_of (take i items)) (x ∷ [])))
