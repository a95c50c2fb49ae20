-- What the walk's function gives is what its relation says.
use Rattle.std.proofs.Common.{ℕ, zero, suc, ◌≡◌, ◌+◌, ◌≤◌, List, [], ◌∷◌, length, false, refl, ap, ◌∙◌, arith}
use Rattle.am_types.specs.declared.Row.{Row}
use Rattle.am_types.specs.Operations.{Operation}
use Rattle.am_types.specs.Rows.{succs}
use Rattle.am_merge.specs.Merge.{extended}
use Rattle.am_merge.specs.Plans.{Event, Take, carried}
use Rattle.am_merge.specs.Walk.{is_first, behind, spot_of, spot_of_row, new_row, walk_into, walk_out, walked, Walks, ends, comes_last, comes, passes}

-- no old row is lost
pub long : (A : List Operation) (rs : List Row) (ws : List Operation) (out : List Row) → Walks A rs ws out → length rs ≤ length out
long A _ _ _ ends = omega arith
long A _ _ _ (comes_last y ws out w) = let l = long A [] (behind A (spot_of y) ws) out w in omega arith
long A _ _ _ (comes r rs y ws out t w) = let l = long A (r ∷ rs) (behind A (spot_of y) ws) out w in omega arith
long A _ _ _ (passes r rs ws out t w) = let l = long A rs (behind A (spot_of_row r) ws) out w in omega arith

out_nothing : (A : List Operation) (n : ℕ) → walk_out A n [] ≡ []
out_nothing A zero = refl
out_nothing A (suc n) = refl

pub into_passes : (A : List Operation) (r : Row) (rest : ℕ → List Operation → List Event) (n : ℕ) (ws : List Operation) → is_first ws r ≡ false
    → walk_into A r rest n ws ≡ Take (succs A r.id) ∷ rest n (behind A (spot_of_row r) ws)
into_passes A r rest zero ws t = refl
into_passes A r rest (suc n) [] t = refl
into_passes A r rest (suc n) (y ∷ ws) t = simp t refl

pub walked_is : (A : List Operation) (rs : List Row) (ws : List Operation) (out : List Row) → Walks A rs ws out → (n : ℕ) → length out ≤ length rs + n → carried (walked A rs n ws) rs ≡ out
walked_is A _ _ _ ends n l = ap (λ es. carried es []) (out_nothing A n)
walked_is A _ _ _ (comes_last y ws out w) zero l = absurd (omega arith)
walked_is A _ _ _ (comes_last y ws out w) (suc n) l = ap (λ l. new_row A y ∷ l) (walked_is A [] (behind A (spot_of y) ws) out w n (omega arith))
walked_is A _ _ _ (comes r rs y ws out t w) zero l = let m = long A (r ∷ rs) (behind A (spot_of y) ws) out w in absurd (omega arith)
walked_is A _ _ _ (comes r rs y ws out t w) (suc n) l =
    simp t (ap (λ l. new_row A y ∷ l) (walked_is A (r ∷ rs) (behind A (spot_of y) ws) out w n (omega arith)))
walked_is A _ _ _ (passes r rs ws out t w) n l =
    ap (λ es. carried es (r ∷ rs)) (into_passes A r (walked A rs) n ws t)
    ∙ ap (λ l. extended A r ∷ l) (walked_is A rs (behind A (spot_of_row r) ws) out w n (omega arith))
