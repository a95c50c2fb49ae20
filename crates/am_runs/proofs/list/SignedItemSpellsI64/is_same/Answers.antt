use Rattle.std.proofs.Common.{◌≡◌, ◌↔◌, IsTrue, nat_eq, of_z, w64, rules, sym, ap, ◌∙◌}
use Rattle.am_leb.specs.Leb.{leb, signed_value}
use Rattle.am_runs.proofs.ItemIs.{signed_value-leb}
use Rattle.am_runs.proofs.list.SignedItemSpellsI64.is_same.Goals as goal

pub returns : goal.returns
returns c =
    let same : IsTrue (nat_eq (of_z w64 c.args.a) (of_z w64 c.args.b)) ↔ (c.args.a ≡ c.args.b) = search rules in
    ((λ t. ap leb (same.0 t)), (λ e. same.1 (sym (signed_value-leb c.args.a) ∙ ap signed_value e ∙ signed_value-leb c.args.b)))
