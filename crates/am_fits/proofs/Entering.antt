-- What a table says once an operation joins.
use Rattle.std.proofs.Common.{ℕ, ◌≡◌, List, [], ◌∷◌, ◌++◌, map, Option, Some, None, Result, Ok, Err, OnErr, option_map, refl, sym, ap, ◌∙◌, subst, take}
use Rattle.std.proofs.lemmas.List.{map_push}
use Rattle.std.proofs.lemmas.List.Elements.{All-push, All-take}
use Rattle.am_fits.specs.declared.table.IdKey.{IdKey}
use Rattle.am_fits.specs.declared.table.Kept.{Kept}
use Rattle.am_fits.specs.Facts.{Fact}
use Rattle.am_fits.specs.Words.{Words, WordsGrow, id_in, fact_in, entry_in, IsIdOf, IsFactOf, IsKept, AreKept}
use Rattle.am_fits.proofs.Interned.{id_is, id_stays, fact_is, entries_same, are_kept_stay}

-- what holds anyway holds where the call failed
pub on_err : {T E P : Type 0} (r : Result T E) → P → OnErr r P
on_err (Ok x) p = tt
on_err (Err e) p = p

pub no_fact : (w : Words) (o : Option Kept) → option_map (fact_in w) o ≡ None → o ≡ None
no_fact w None e = refl
no_fact w (Some k) e = cc

-- an operation with the id i and the fact f joins the entries es
module _ (v w : Words) (grow : WordsGrow v w) (es : List (IdKey × Kept)) (kept : AreKept v es) (key : IdKey) (own : IsIdOf v key (id_in v key)) (k : Kept) (f : Fact) (fact : IsFactOf w k f) where
  last : entry_in w (key, k) ≡ (id_in v key, f)
  last = λ j. (id_is w key (id_in v key) (id_stays v w grow key (id_in v key) own) j, fact_is w k f fact j)

  last_kept : IsKept w (key, k)
  last_kept = (subst (IsIdOf w key) (sym (ap (λ p. p.0) last)) (id_stays v w grow key (id_in v key) own), subst (IsFactOf w k) (sym (ap (λ p. p.1) last)) fact)

  pub entered_kept : AreKept w (es ++ (key, k) ∷ [])
  entered_kept = record { each = All-push (IsKept w) es (key, k) (are_kept_stay v w grow es kept).each last_kept }

  pub entered : map (entry_in w) (es ++ (key, k) ∷ []) ≡ map (entry_in v) es ++ (id_in v key, f) ∷ []
  entered = map_push (entry_in w) es (key, k) ∙ (λ j. entries_same v w grow es kept j ++ last j ∷ [])

-- the first entries of a table say what they said
pub first_kept : (w : Words) (n : ℕ) (es : List (IdKey × Kept)) → AreKept w es → AreKept w (take n es)
first_kept w n es h = record { each = All-take (IsKept w) n es h.each }
