use Rattle.std.proofs.Common.{◌≡◌, ◌+◌, ◌-◌, ◌/◌, ◌<◌, length, Less, Equal, Greater, refl, sym, arith, rules, get_or}
use Rattle.am_types.specs.Order.{bytes_cmp}
use Rattle.am_fields.proofs.ListedLaws.{found_here, found_above, found_below}
use Rattle.am_fields.proofs.listed.place_among.Goals as goal

pub loop-low-preserved-in-Less : goal.loop-low-preserved-in-Less
loop-low-preserved-in-Less c =
    let actors = c.args.actors.now in
    let actor = c.args.actor.now in
    let at = c.as_slice.result.now in
    let m = c.loop-low.low + (c.loop-low.high - c.loop-low.low) / 2 in
    let inv = c.loop-low.invariant in
    let test = c.loop-low-test.true in
    let within : m < length actors = omega (arith, inv.order, inv.within, test) in
    let there : at ≡ get_or actors m at = search rules in
    let compared : bytes_cmp actor at ≡ Less = search rules in
    record {
      order = omega arith;
      within = omega arith;
      before = inv.before;
      behind = found_below actors c.requires actor at m within there compared;
    }

pub returns-in-Equal : goal.returns-in-Equal
returns-in-Equal c =
    let actors = c.args.actors.now in
    let actor = c.args.actor.now in
    let at = c.as_slice.result.now in
    let m = c.loop-low.low + (c.loop-low.high - c.loop-low.low) / 2 in
    let inv = c.loop-low.invariant in
    let test = c.loop-low-test.true in
    let within : m < length actors = omega (arith, inv.order, inv.within, test) in
    let there : at ≡ get_or actors m at = search rules in
    let compared : bytes_cmp actor at ≡ Equal = search rules in
    sym (found_here actors c.requires actor at m within there compared)

pub loop-low-preserved : goal.loop-low-preserved
loop-low-preserved c =
    let actors = c.args.actors.now in
    let actor = c.args.actor.now in
    let at = c.as_slice.result.now in
    let m = c.loop-low.low + (c.loop-low.high - c.loop-low.low) / 2 in
    let inv = c.loop-low.invariant in
    let test = c.loop-low-test.true in
    let within : m < length actors = omega (arith, inv.order, inv.within, test) in
    let there : at ≡ get_or actors m at = search rules in
    let compared : bytes_cmp actor at ≡ Greater = search rules in
    record {
      order = omega arith;
      within = inv.within;
      before = found_above actors c.requires actor at m within there (m + 1) refl compared;
      behind = inv.behind;
    }
