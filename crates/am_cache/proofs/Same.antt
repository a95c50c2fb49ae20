-- The derived equality of views is `same_view`, and decides whether they are the same.
use Rattle.std.proofs.Common.{◌≡◌, ◌&&◌, true, ap, refl, sym, ◌∙◌}
use Rattle.std.specs.Bool.{Decides}
use Rattle.std.proofs.lemmas.Bool.Decides.{Decides-and, Decides-like}
use Rattle.std.proofs.lemmas.Slice.Eq.{slice_eq-Decides}
use Rattle.am_json.specs.declared.form.Form.{Form}
use Rattle.am_json.specs.declared.form.Form.TheVariants.{Winners, All}
use Rattle.am_json.specs.contracts.form.Form.{the_type}
use Rattle.am_cache.specs.declared.view.View.{View}
use Rattle.am_cache.specs.contracts.view.ViewPartialEq.TheImpl.{eq-value}
use Rattle.am_cache.specs.Deciding.{hash_Decides}
use Rattle.am_cache.specs.Views.{same_form, same_view}
use lib.Pointwise.{pointwise}
use Rattle.am_types.specs.Same.{same_bytes}
use denote.Enum.Bare.{sameb}

form_same : (f g : Form) → sameb the_type f g ≡ same_form f g
form_same Winners Winners = refl
form_same Winners All = refl
form_same All Winners = refl
form_same All All = refl

pub same_test : (v : View) → eq-value.it v ≡ same_view v
same_test v = λ i w. form_same v.form w.form i && pointwise (λ g h. same_bytes g.0 h.0) v.heads w.heads

form_Decides : (f g : Form) → Decides (sameb the_type f g) (f ≡ g)
form_Decides Winners Winners = (λ _. refl, λ _. refl)
form_Decides Winners All = (λ e. cc, λ e. cc)
form_Decides All Winners = (λ e. cc, λ e. cc)
form_Decides All All = (λ _. refl, λ _. refl)

view_same : (v w : View) → (v.form ≡ w.form) × (v.heads ≡ w.heads) → v ≡ w
view_same v w p = λ i. record { form = p.0 i; heads = p.1 i }

pub view_Decides : (v w : View) → Decides (eq-value.it v w) (v ≡ w)
view_Decides v w =
    Decides-like _ (view_same v w) (λ e. (ap (λ x. x.form) e, ap (λ x. x.heads) e))
    (Decides-and _ _ (form_Decides v.form w.form) (slice_eq-Decides hash_Decides v.heads w.heads _ refl))

pub same_is : (v w : View) → same_view v w ≡ true → v ≡ w
same_is v w s = (view_Decides v w).0 (ap (λ test. test w) (same_test v) ∙ s)

pub same_itself : (v : View) → same_view v v ≡ true
same_itself v = ap (λ test. test v) (sym (same_test v)) ∙ (view_Decides v v).1 refl
