use Rattle.std.proofs.Common.{rules, sym, ap, ◌∙◌, ◌++◌, subst}
use Rattle.am_leb.specs.Leb.{uleb}
use Rattle.am_runs.specs.Items.{IsItem, unsigned_end}
use Rattle.am_runs.proofs.ItemIs.{unsigned_item}
use Rattle.am_values.proofs.taking.put_alike.Goals as goal

pub push_alike-requires-clause-item : goal.push_alike-requires-clause-item
push_alike-requires-clause-item c =
    let e = c.as_slice.ensures.value ∙ c.in_ok-push_u.ensures.ok ∙ ap (λ l. l ++ uleb c.args.number) c.clear.ensures.items in
    subst (IsItem unsigned_end) (sym e) (unsigned_item c.args.number (search rules))
