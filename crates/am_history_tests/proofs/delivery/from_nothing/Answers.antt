use Rattle.std.proofs.Common.{[], take, None, refl, ap, ◌∙◌, arith}
use Rattle.std.proofs.lemmas.List.{take_all}
use Rattle.am_delivery.specs.Waiting.{members_of, waiting_of}
use Rattle.am_history_tests.proofs.DeliveryChanges.{kept_nothing}
use Rattle.am_history_tests.proofs.delivery.from_nothing.Goals as goal

pub deliver_all-requires : goal.deliver_all-requires
deliver_all-requires g c =
    let s = c.args.closed.now in
    kept_nothing (members_of s.held.items) (members_of (take s.resting s.held.items)) (waiting_of c.args.waiting.now) None (ap members_of c.requires.held) (ap (λ es. members_of (take s.resting es)) c.requires.held ∙ ap members_of (take_all s.resting [] (omega arith))) c.requires.waiting refl
