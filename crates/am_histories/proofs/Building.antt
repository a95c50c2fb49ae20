-- How the loop over the metas goes on, ends and fails.
use Rattle.std.proofs.Common.{ℕ, get_or, ◌≡◌, ◌+◌, ◌<◌, ◌↔◌, List, [], ◌∷◌, ◌++◌, length, drop, refl, sym, ap, ◌∙◌, subst, arith}
use Rattle.std.proofs.lemmas.List.{append_assoc, append-nil, drop_more, drop_all, length_push}
use Rattle.am_types.specs.declared.Hash.{Hash}
use Rattle.am_types.specs.declared.Change.{Change}
use Rattle.am_types.specs.declared.Meta.{Meta}
use Rattle.am_types.specs.declared.Table.{Table}
use Rattle.am_types.specs.Members.{Member}
use Rattle.am_types.specs.ValidSets.{Joins, JoinInTurn}
use Rattle.am_laws.proofs.Listings.{JoinInTurn-push}
use Rattle.am_histories.specs.Rebuilt.{rebuilt_after, rebuilt}
use Rattle.am_histories.specs.Laws.{PointBack, Passes}
use Rattle.am_histories.specs.Building.{built_at, Builds, NextJoins}

turn_at : (E B : List Member) (m : Member) (rest : List Member) → JoinInTurn E (B ++ m ∷ rest) → Joins (E ++ B) m
turn_at E [] m rest t = subst (λ l. Joins l m) (sym (append-nil E)) t.0
turn_at E (x ∷ B) m rest t = subst (λ l. Joins l m) (append_assoc E (x ∷ []) B) (turn_at (E ++ x ∷ []) B m rest t.1)

module _ (hash_of : Change → Hash) (t : Table) where
  pub builds_start : Builds hash_of t 0 []
  unfolding rebuilt
  builds_start = record { same = refl; in_turn = tt; count = refl; back = (λ p. p, λ p. p) }

  module _ (i : ℕ) (B : List Member) (b : Builds hash_of t i B) where
    module _ (meta : Meta) (l : i < length t.metas) (is : meta ≡ get_or t.metas i meta) where
      left : drop i t.metas ≡ meta ∷ drop (i + 1) t.metas
      left = drop_more t.metas i meta l ∙ ap (λ m. m ∷ drop (i + 1) t.metas) (sym is)

      whole : rebuilt hash_of t ≡ B ++ rebuilt_after hash_of t.rows B (meta ∷ drop (i + 1) t.metas)
      whole = b.same ∙ ap (λ ms. B ++ rebuilt_after hash_of t.rows B ms) left

      back_here : PointBack i (meta ∷ drop (i + 1) t.metas) ↔ PointBack 0 t.metas
      back_here = subst (λ ms. PointBack i ms ↔ PointBack 0 t.metas) left b.back

      pub builds_more : NextJoins hash_of t i B meta → Builds hash_of t (i + 1) (B ++ built_at hash_of t.rows B meta ∷ [])
      builds_more n =
          let m : Member = built_at hash_of t.rows B meta in
          let count = b.count in
          record {
            same = whole ∙ sym (append_assoc B (m ∷ []) (rebuilt_after hash_of t.rows (B ++ m ∷ []) (drop (i + 1) t.metas)));
            in_turn = JoinInTurn-push [] B m b.in_turn n.joins;
            count = length_push B m ∙ ap (λ k. k + 1) count;
            back = (λ p. back_here.0 (n.back, p), λ p. (back_here.1 p).1);
          }

      -- where the next doesn't join, nothing passes
      pub builds_fails : (NextJoins hash_of t i B meta → ⊥) → Passes t (rebuilt hash_of t) → ⊥
      builds_fails refused p = refused (record {
        back = (back_here.1 p.point_back).0;
        joins = turn_at [] B (built_at hash_of t.rows B meta) _ (subst (JoinInTurn []) whole p.in_turn);
      })

    -- at the end the rest of the test is of rows and actors
    pub builds_end : length t.metas ≡ i → (rebuilt hash_of t ≡ B) × JoinInTurn [] B × PointBack 0 t.metas
    builds_end e =
        let none = drop_all i t.metas (omega arith) in (
          b.same ∙ ap (λ ms. B ++ rebuilt_after hash_of t.rows B ms) none ∙ append-nil B,
          b.in_turn,
          b.back.0 (subst (PointBack i) (sym none) tt),
        )
