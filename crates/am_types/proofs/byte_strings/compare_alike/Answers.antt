use Rattle.std.proofs.Common.{sym, ap, ◌∙◌}
use Rattle.std.proofs.lemmas.Cmp.{nat_list_cmp_total, tied_itself}
use Rattle.am_types.specs.Order.{bytes_cmp}
use Rattle.am_types.proofs.Orders.{same_bytes-true}
use Rattle.am_types.proofs.byte_strings.compare_alike.Goals as goal

pub returns-then-same_actor : goal.returns-then-same_actor
returns-then-same_actor c =
    sym (tied_itself nat_list_cmp_total c.args.a.now)
    ∙ ap (bytes_cmp c.args.a.now) (same_bytes-true c.args.a.now c.args.b.now (sym c.same_actor.ensures ∙ c.if-same_actor.true))
