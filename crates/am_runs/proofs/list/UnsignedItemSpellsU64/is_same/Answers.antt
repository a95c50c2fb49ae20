use Rattle.std.proofs.Common.{◌≡◌, ◌↔◌, IsTrue, nat_eq, rules, sym, ap, ◌∙◌}
use Rattle.am_leb.specs.Leb.{uleb, unsigned_value}
use Rattle.am_runs.proofs.ItemIs.{unsigned_value-uleb}
use Rattle.am_runs.proofs.list.UnsignedItemSpellsU64.is_same.Goals as goal

pub returns : goal.returns
returns c =
    let same : IsTrue (nat_eq c.args.a c.args.b) ↔ (c.args.a ≡ c.args.b) = search rules in
    ((λ t. ap uleb (same.0 t)), (λ e. same.1 (sym (unsigned_value-uleb c.args.a) ∙ ap unsigned_value e ∙ unsigned_value-uleb c.args.b)))
