-- What was read of lists, of ids and of places.
use Rattle.std.proofs.Common.{ℕ, ◌≡◌, ◌∙◌, ◌<◌, List, length, get_or, map, ap, sym}
use Rattle.std.proofs.lemmas.List.{length-map, get_or-map}
use Rattle.am_types.specs.declared.Change.{Change}
use Rattle.am_types.specs.declared.Key.{Key}
use Rattle.am_types.specs.declared.ObjId.{ObjId}
use Rattle.am_types.specs.declared.OpId.{OpId}
use Rattle.am_fits.specs.Past.{Past}
use Rattle.am_fits.specs.Told.{told, gives_to}

module _ {X Y : Type 0} (f : X → Y) (xs : List X) (ys : List Y) (e : map f xs ≡ ys) where
  pub length_read : length ys ≡ length xs
  length_read = ap length (sym e) ∙ length-map xs f

  pub read_at : (i : ℕ) (x : X) → i < length xs → x ≡ get_or xs i x → (d : Y) → get_or ys i d ≡ f x
  read_at i x l at d = ap (λ zs. get_or zs i d) (sym e) ∙ get_or-map f xs i x d l ∙ ap f (sym at)

-- what is told of equal things is equal
pub told_same : (c : Change) (place : ℕ) {p q : Past} → p ≡ q → {x y : OpId} → x ≡ y → {o n : ObjId} → o ≡ n → {s t : Key} → s ≡ t
    → told p.clock p.facts c place x (gives_to o s) ≡ told q.clock q.facts c place y (gives_to n t)
told_same c place past id object slot = λ j. told (past j).clock (past j).facts c place (id j) (gives_to (object j) (slot j))
