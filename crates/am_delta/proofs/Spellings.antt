-- The lenient relation: it holds for one list at most, and for canonical spellings.
use Rattle.std.proofs.Common.{◌≡◌, ℕ, List, [], ◌∷◌, map, Option, Some, None, ℤ, pos, refl, sym, ap, ◌∙◌, subst, inl, inr, ⊎_elim}
use Rattle.std.specs.Option.{option_map}
use Rattle.std.specs.List.{AllByRecursion}
use Rattle.am_leb.specs.Leb.{leb}
use Rattle.am_runs.specs.Canonical.{AreNulls}
use Rattle.am_runs.proofs.Spelled.{one_signed}
use Rattle.am_delta.specs.Deltas.{CanonDeltas, JoinsDeltas, SpellsDeltas, sums_from}

pub one_joined : (bytes : List ℕ) (xs ys : List (Option ℤ)) → JoinsDeltas bytes xs → JoinsDeltas bytes ys → xs ≡ ys
one_joined bytes xs ys p q = p.2 ∙ ap (sums_from (pos 0)) (one_signed bytes p.0 q.0 p.1 q.1) ∙ sym q.2

-- sums of nulls are nulls
null_sums : (sum : ℤ) (list : List (Option ℤ)) → AreNulls (map (option_map leb) list) → AllByRecursion (λ value. value ≡ None) (sums_from sum list)
null_sums sum [] h = tt
null_sums sum (None ∷ list) h = (refl, null_sums sum list h.1)
null_sums sum (Some d ∷ list) h = absurd (let e = h.0 in cc)

pub SpellsDeltas-from_canon : (bytes : List ℕ) (values : List (Option ℤ)) → CanonDeltas bytes values → SpellsDeltas bytes values
SpellsDeltas-from_canon bytes values c = ⊎_elim
    (λ n. inl (n.0, subst (AllByRecursion (λ value. value ≡ None)) (sym c.2) (null_sums (pos 0) c.0 n.1)))
    (λ n. inr (c.0, ((n.1).0, (n.1).1, (n.1).3, (n.1).4), c.2))
    c.1
