-- What a list keeps that is spelled at once, with one value more.
use Rattle.std.proofs.Common.{◌≡◌, List, [], ◌∷◌, ◌++◌, map, Option, ℤ, pos, sym, ap, ◌∙◌, subst}
use Rattle.std.specs.Option.{IfSome, option_map}
use Rattle.am_leb.specs.Leb.{leb}
use Rattle.am_runs.specs.Canonical.{canonical_bytes}
use Rattle.am_delta.specs.Deltas.{sums_from, last_from, less, or_last, IsMiddling, KeepsLast, canonical_delta_bytes}
use Rattle.am_delta.proofs.OneSpelling.{differences-sums}
use Rattle.am_delta.proofs.Writing.{sums_push, last_push, middling}

pub listed_push : (ds : List (Option ℤ)) (last next : ℤ) (value d : Option ℤ) → IfSome value IsMiddling → KeepsLast ds last → d ≡ less value last → next ≡ or_last value last
    → KeepsLast (ds ++ d ∷ []) next × (sums_from (pos 0) (ds ++ d ∷ []) ≡ sums_from (pos 0) ds ++ value ∷ [])
listed_push ds last next value d m o k n =
    let values : sums_from (pos 0) (ds ++ d ∷ []) ≡ sums_from (pos 0) ds ++ value ∷ [] = ap (λ x. sums_from (pos 0) (ds ++ x ∷ [])) (k ∙ ap (less value) o.1) ∙ sums_push (pos 0) ds value in (
      (subst IsMiddling (sym n) (middling value last m o.0), n ∙ ap (or_last value) o.1 ∙ sym (last_push (pos 0) (sums_from (pos 0) ds) value) ∙ ap (last_from (pos 0)) (sym values)),
      values,
    )

pub listed_bytes : (ds : List (Option ℤ)) → canonical_bytes (map (option_map leb) ds) ≡ canonical_delta_bytes (sums_from (pos 0) ds)
listed_bytes ds = ap (λ l. canonical_bytes (map (option_map leb) l)) (sym (differences-sums (pos 0) ds))
