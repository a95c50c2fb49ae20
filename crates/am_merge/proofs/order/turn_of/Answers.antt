use Rattle.std.proofs.Common.{◌++◌, ◌-◌, option_map, Bor, ap, sym, ◌∙◌, arith}
use Rattle.am_types.specs.declared.Change.{Change}
use Rattle.am_types.specs.Members.{member}
use Rattle.am_merge.proofs.Arrivals.{never, there, old_turn, new_turn, added_at, got_at}
use Rattle.am_merge.proofs.order.turn_of.Goals as goal

pub returns-in_err-place : goal.returns-in_err-place
returns-in_err-place c = λ C E h m cm e.
    absurd (never C E h.valid_before h.valid m cm (ap (member (C ++ E)) e ∙ c.in_err-place.ensures.set (C ++ E) h.graph))

pub returns-then-place-count : goal.returns-then-place-count
returns-then-place-count c = λ C E h m cm e.
    let place = c.in_ok-place.place in
    let told = c.in_ok-place.ensures.set (C ++ E) h.graph in
    let at = there C E h.valid_before h.valid m cm place (ap (member (C ++ E)) e ∙ told.1) in
    sym (old_turn C E h.valid_before h.valid m cm place (omega (arith, h.count)) at)

pub returns : goal.returns
returns c = λ C E h m cm e.
    let place = c.in_ok-place.place in
    let told = c.in_ok-place.ensures.set (C ++ E) h.graph in
    let at = there C E h.valid_before h.valid m cm place (ap (member (C ++ E)) e ∙ told.1) in
    let is = new_turn C E h.valid_before h.valid m cm place (place - c.args.count) (omega (arith, h.count)) at in
    ap (option_map (λ (c : Bor Change). c.now)) (c.copied.ensures ∙ got_at c.args.added.now (place - c.args.count) c.get.result _ c.get.ensures.lookup.1 c.get.ensures.lookup.3)
    ∙ added_at E c.args.added.now h.added (place - c.args.count) m is.0 ∙ sym is.1
