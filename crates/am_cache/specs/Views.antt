-- When two views are the same.
--     same_form f g, same_view v w      the two are equal in each part
use Rattle.std.specs.Prelude.{Bool, true, false, ◌&&◌}
use lib.Pointwise.{pointwise}
use Rattle.am_types.specs.Same.{same_bytes}
use Rattle.am_json.specs.declared.form.Form.{Form}
use Rattle.am_json.specs.declared.form.Form.TheVariants.{Winners, All}
use Rattle.am_cache.specs.declared.view.View.{View}

abbrev pub same_form : Form → Form → Bool
same_form Winners Winners = true
same_form Winners All = false
same_form All Winners = false
same_form All All = true

abbrev pub same_view : View → View → Bool
same_view v w = same_form v.form w.form && pointwise (λ g h. same_bytes g.0 h.0) v.heads w.heads
