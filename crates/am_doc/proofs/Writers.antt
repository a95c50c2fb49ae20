-- Writers that go over rows.
use Rattle.std.proofs.Common.{◌≡◌, ℕ, ◌<◌, List, length, get_or, Option, Some, sym, ap, ◌∙◌, subst}
use Rattle.std.specs.Prelude.{IfSome, IfOk, OnOk, Result, Ok, Err}
use Rattle.std.specs.Result.{result_and}
use Rattle.std.specs.List.{AllByRecursion}
use Rattle.am_types.specs.declared.OpId.{OpId}
use Rattle.am_types.specs.declared.Row.{Row}
use Rattle.am_doccols.specs.declared.RowFields.{RowFields}
use Rattle.am_doccols.specs.Lent.{row_with}
use Rattle.am_doccols.specs.Conditions.{IsRowFor}
use Rattle.am_fields.proofs.CanonicalLaws.{got}
use Rattle.am_doc.proofs.Rooms.{all_at}

-- a lent row, with successors that are lent, is the row
pub lent_is : (fields : RowFields) (succs : List OpId) (row : Row) → succs ≡ row.succs → row_with fields row.succs ≡ row → row_with fields succs ≡ row
lent_is fields succs row s e = ap (row_with fields) s ∙ e

pub row_ready : (known actors : List (List ℕ)) (rows : List Row) (i : ℕ) (row : Row) (fields : RowFields) (succs : List OpId)
    → i < length rows → row ≡ get_or rows i row → AllByRecursion (IsRowFor actors) rows → known ≡ actors → succs ≡ row.succs → row_with fields row.succs ≡ row
    → IsRowFor known (row_with fields succs)
row_ready known actors rows i row fields succs n e all names s lent =
    let P : Row → Type 0 = λ r. IsRowFor actors r in
    let Q : List (List ℕ) → Type 0 = λ a. IsRowFor a (row_with fields succs) in
    subst Q (sym names) (subst P (sym (lent_is fields succs row s lent)) (all_at (IsRowFor actors) rows i row all n e))

-- what a writer finished of all items
pub text_is : {A R E : Type 0} (part : R → List ℕ) (text : List (List ℕ) → List A → List ℕ) (known actors : List (List ℕ)) (held : Option (List A)) (items : List A) (result : Result R E)
    → known ≡ actors → held ≡ Some items → IfOk result (λ t. IfSome held (λ xs. part t ≡ text known xs)) → IfOk result (λ t. part t ≡ text actors items)
text_is part text known actors held items (Err e) names is ok = tt
text_is part text known actors held items (Ok t) names is ok = got held items (λ xs. part t ≡ text known xs) is ok ∙ ap (λ a. text a items) names

-- what a writer finished, where all items were written before
pub text_after : {A R S E : Type 0} (part : R → List ℕ) (text : List (List ℕ) → List A → List ℕ) (known names actors : List (List ℕ)) (held : Option (List A)) (items : List A) (written : Result S E) (finished both : Result R E)
    → both ≡ result_and written finished → OnOk written (known ≡ names) → names ≡ actors → OnOk written (held ≡ Some items) → IfOk finished (λ t. IfSome held (λ xs. part t ≡ text known xs)) → IfOk both (λ t. part t ≡ text actors items)
text_after part text known names actors held items (Ok x) finished both e same named is ok = subst (λ r. IfOk r (λ t. part t ≡ text actors items)) (sym e) (text_is part text known actors held items finished (same ∙ named) is ok)
text_after part text known names actors held items (Err x) finished both e same named is ok = subst (λ r. IfOk r (λ t. part t ≡ text actors items)) (sym e) tt

pub both_same : {X : Type 0} (f : List (List ℕ) → List X → List (ℕ × List ℕ)) {a b : List (List ℕ)} {xs ys : List X} → a ≡ b → xs ≡ ys → f a xs ≡ f b ys
both_same f {b = b} {xs = xs} e d = ap (λ z. f z xs) e ∙ ap (f b) d
