use Rattle.am_delivery.proofs.OrderFree as law
use Rattle.am_delivery.proofs.laws.order_is_free.Goals as goal

pub returns : goal.returns
returns c = law.order_is_free
