use Rattle.std.proofs.Common.{◌∙◌, ap}
use Rattle.am_types.specs.Order.{sorted_by}
use Rattle.am_merge.specs.Naming.{named_cmp}
use Rattle.am_merge.proofs.rows.tables_of.Goals as goal

pub returns : goal.returns
returns c = record {
  named = c.in_ok-named.ensures ∙ ap (sorted_by named_cmp) c.in_ok-mentions.ensures;
  hanging_is = c.in_ok-hanging.ensures ∙ ap (sorted_by named_cmp) c.in_ok-mentions-2.ensures;
}
