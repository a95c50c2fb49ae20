use Rattle.std.proofs.Common.{sym, ap, ◌∙◌, option_map}
use Rattle.am_delivery.proofs.Arrivals.{equals, none_member}
use Rattle.am_delivery.proofs.arriving.compared.Goals as goal

pub returns-then-not-holds : goal.returns-then-not-holds
returns-then-not-holds g c =
    sym (ap (option_map (equals c.args.change.now)) (none_member (g.S.Closed.members c.args.closed.now) c.args.hash.now (sym c.holds.ensures ∙ c.if-not-holds.true)))
