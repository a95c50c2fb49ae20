-- The entries of a list that bytes spell are null or items.
use Rattle.std.proofs.Common.{ℕ, zero, suc, List, [], ◌∷◌, ◌++◌, map, Option, Some, None, sym, subst}
use Rattle.std.specs.Prelude.{replicate}
use Rattle.std.specs.Option.{IfSome}
use Rattle.std.specs.List.{flat_map, AllByRecursion}
use Rattle.am_runs.specs.Items.{IsItem}
use Rattle.am_runs.specs.Runs.{Run, Repeat, Literal, Nulls, expansion, IsRun, JoinsRuns}

abbrev pub AllItems : (List ℕ → Option ℕ) → List (Option (List ℕ)) → Type 0
AllItems end list = AllByRecursion (λ entry. IfSome entry (IsItem end)) list

all_append : (end : List ℕ → Option ℕ) (xs ys : List (Option (List ℕ))) → AllItems end xs → AllItems end ys → AllItems end (xs ++ ys)
all_append end [] ys p q = q
all_append end (x ∷ xs) ys p q = (p.0, all_append end xs ys p.1 q)

all_repeat : (end : List ℕ → Option ℕ) (n : ℕ) (x : Option (List ℕ)) → IfSome x (IsItem end) → AllItems end (replicate n x)
all_repeat end zero x h = tt
all_repeat end (suc n) x h = (h, all_repeat end n x h)

all_literal : (end : List ℕ → Option ℕ) (items : List (List ℕ)) → AllByRecursion (IsItem end) items → AllItems end (map Some items)
all_literal end [] h = tt
all_literal end (x ∷ xs) h = (h.0, all_literal end xs h.1)

all_run : (end : List ℕ → Option ℕ) (run : Run) → IsRun end run → AllItems end (expansion run)
all_run end (Repeat n item) h = all_repeat end n (Some item) h.2
all_run end (Literal items) h = all_literal end items h.2
all_run end (Nulls k) h = all_repeat end k None tt

all_runs : (end : List ℕ → Option ℕ) (runs : List Run) → AllByRecursion (IsRun end) runs → AllItems end (flat_map expansion runs)
all_runs end [] h = tt
all_runs end (r ∷ rs) h = all_append end (expansion r) (flat_map expansion rs) (all_run end r h.0) (all_runs end rs h.1)

-- each entry of a spelled list is null or an item
pub JoinsRuns-items : (end : List ℕ → Option ℕ) (bytes : List ℕ) (list : List (Option (List ℕ))) → JoinsRuns end bytes list → AllItems end list
JoinsRuns-items end bytes list j = subst (AllItems end) (sym j.3) (all_runs end j.0 j.1)

-- bytes spell one list at most
