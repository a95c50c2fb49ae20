use Rattle.std.proofs.Common.{ℕ, ◌∙◌, ◌≤◌, List, [], length, get_or, find, Bool, false, nat_le, ap, sym, arith}
use Rattle.std.specs.Option.{option_map_or}
use Rattle.am_types.specs.declared.Hash.{Hash}
use Rattle.am_types.specs.Members.{Member, member}
use Rattle.am_types.specs.Operations.{max}
use Rattle.am_fits.proofs.Firsts.{find_first, find_nothing}
use Rattle.am_fits.proofs.fit.low_dependency.Goals as goal

abbrev low : ℕ → List Member → Hash → Bool
low start C h = option_map_or (λ m. nat_le start (max m.change)) (member C h) false

pub returns-then-is_low : goal.returns-then-is_low
returns-then-is_low g c C e =
    let p = low (g.C.ReadChange.change c.args.change.now).start C in
    sym (find_first p c.deps-dep-items.result.now c.loop-dep.dep-index (record { 0 = [] }) c.loop-dep-test.true (c.loop-dep.invariant C e) (ap (λ (s : ℕ). low s C (get_or c.deps-dep-items.result.now c.loop-dep.dep-index (record { 0 = [] }))) (sym c.start.ensures) ∙ sym (c.is_low.ensures C e) ∙ c.if-is_low.true))
    ∙ ap (find p) c.deps-dep-items.ensures

pub returns : goal.returns
returns g c C e =
    let p = low (g.C.ReadChange.change c.args.change.now).start C in
    let past : length c.deps-dep-items.result.now ≤ c.loop-dep.dep-index = c.loop-dep-test.false in
    sym (find_nothing p c.deps-dep-items.result.now (λ k d z l. c.loop-dep.invariant C e k d z (omega arith))) ∙ ap (find p) c.deps-dep-items.ensures
