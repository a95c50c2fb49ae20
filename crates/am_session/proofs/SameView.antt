-- Two views that count as the same are equal.
use Rattle.std.proofs.Common.{◌≡◌, true, List, refl}
use Rattle.std.specs.Bool.{Decides}
use Rattle.std.proofs.lemmas.Bool.Decides.{Decides-and}
use Rattle.std.proofs.lemmas.Slice.Eq.{slice_eq-Decides}
use lib.Pointwise.{pointwise}
use Rattle.am_types.specs.declared.Hash.{Hash}
use Rattle.am_types.specs.Same.{same_bytes}
use Rattle.am_json.specs.declared.Form.{Form}
use Rattle.am_json.specs.declared.Form.TheVariants.{Winners, All}
use Rattle.am_cache.specs.declared.View.{View}
use Rattle.am_cache.specs.Deciding.{hash_Decides}
use Rattle.am_cache.specs.Views.{same_form, same_view}

form_decides : (f g : Form) → Decides (same_form f g) (f ≡ g)
form_decides Winners Winners = (λ _. refl, λ _. refl)
form_decides Winners All = (λ e. cc, λ e. cc)
form_decides All Winners = (λ e. cc, λ e. cc)
form_decides All All = (λ _. refl, λ _. refl)

heads_decide : (gs hs : List Hash) → Decides (pointwise (λ (g : Hash) (h : Hash). same_bytes g.0 h.0) gs hs) (gs ≡ hs)
heads_decide gs hs = slice_eq-Decides hash_Decides gs hs _ refl

of_parts : (v w : View) → (v.form ≡ w.form) × (v.heads ≡ w.heads) → v ≡ w
of_parts v w p = λ i. record { form = p.0 i; heads = p.1 i }

pub same_is : (v w : View) → same_view v w ≡ true → v ≡ w
same_is v w s = of_parts v w ((Decides-and _ _ (form_decides v.form w.form) (heads_decide v.heads w.heads)).0 s)
