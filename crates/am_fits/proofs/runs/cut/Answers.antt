use Rattle.std.proofs.Common.{◌∙◌, ◌<◌, ◌≤◌, ◌++◌, length, map, set, nat_lt, ap, arith, rules}
use Rattle.std.proofs.lemmas.Fn.{filter_same}
use Rattle.std.proofs.lemmas.List.{append-nil, take_all, drop_all}
use Rattle.std.proofs.lemmas.List.Edits.{map_over_more}
use Rattle.am_fits.specs.declared.runs.Run.{Run}
use Rattle.am_fits.specs.Runs.{run_below}
use Rattle.am_fits.proofs.runs.cut.Goals as goal

pub loop-i-preserved : goal.loop-i-preserved
loop-i-preserved c =
    let xs = c.retain.new.self.items in
    let l : c.loop-i.i < length xs = omega (arith, c.loop-i-test.true, c.len-i-end.ensures, c.retain.new.self.ok.0) in
    ap (set c.loop-i.runs.items c.loop-i.i) c.below.ensures ∙ map_over_more (run_below c.args.bound) xs c.loop-i.runs.items c.loop-i.i c.index.result.now l c.loop-i.invariant c.index.ensures

pub returns : goal.returns
returns c =
    let f = run_below c.args.bound in
    let xs = c.retain.new.self.items in
    let l : length xs ≤ c.loop-i.i = omega (arith, c.loop-i-test.false, c.len-i-end.ensures, c.retain.new.self.ok.0) in
    c.loop-i.invariant ∙ (λ j. map f (take_all c.loop-i.i xs l j) ++ drop_all c.loop-i.i xs l j) ∙ append-nil (map f xs)
    ∙ ap (map f) (filter_same _ (λ (r : Run). nat_lt r.first c.args.bound) _ (λ x b g q. search rules) _ _ c.retain.ensures.filtered)
