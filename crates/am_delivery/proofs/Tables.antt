-- A table tells hashes apart as their order does.
use Rattle.std.proofs.Common.{◌≡◌, false, sym, ◌∙◌}
use Rattle.std.proofs.lemmas.Map.Text.{is_eq-slice_cmp}
use Rattle.am_types.specs.declared.Hash.{Hash}
use Rattle.am_types.specs.Order.{hash_cmp, same}
use Rattle.am_delivery.specs.Views.{is_equal}

pub told_apart : (h g : Hash) → same hash_cmp h g ≡ false → is_equal h g ≡ false
told_apart h g e = sym (is_eq-slice_cmp h.0 g.0) ∙ e
