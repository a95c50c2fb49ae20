use Rattle.std.proofs.Common.{◌-◌, ◌<◌, length, get_or, leb, rules, arith}
use Rattle.std.proofs.lemmas.Bool.{leb-true, leb-false}
use Rattle.std.proofs.lemmas.List.{get_or_default}
use Rattle.std.proofs.lemmas.List.Sorted.{IsPartitionPoint-from_clause, IsPartitionedBy-leb}
use Rattle.am_fits.specs.declared.runs.Run.{Run}
use Rattle.am_fits.proofs.RunLaws.{starts_below, starts_rise}
use Rattle.am_fits.proofs.runs.upto.Goals as goal

pub returns-then-runs-count-clause-below : goal.returns-then-runs-count-clause-below
returns-then-runs-count-clause-below c =
    let rs = c.args.runs.now in
    let none : Run = record { start = 0; first = 0; count = 0 } in
    let some : 0 < length rs = omega (arith, c.if-count-eq0.false) in
    starts_below rs c.args.counter (get_or rs (length rs - 1) none) c.requires some (get_or_default rs (length rs - 1) none (get_or rs (length rs - 1) none) (omega arith)) c.if-runs-count.true

pub returns-clause-below : goal.returns-clause-below
returns-clause-below c k d l =
    let rs = c.args.runs.now in
    let p = IsPartitionPoint-from_clause (λ (r : Run). leb r.start c.args.counter) rs c.partition_point.result c.partition_point.ensures.partitioned
    (IsPartitionedBy-leb (λ (r : Run). r.start) rs c.args.counter (starts_rise rs c.requires)) (λ a r q k. search rules) in
    leb-true _ c.args.counter (p.0 k d (omega arith) l)

pub returns-clause-above : goal.returns-clause-above
returns-clause-above c k d l m =
    let rs = c.args.runs.now in
    let p = IsPartitionPoint-from_clause (λ (r : Run). leb r.start c.args.counter) rs c.partition_point.result c.partition_point.ensures.partitioned
    (IsPartitionedBy-leb (λ (r : Run). r.start) rs c.args.counter (starts_rise rs c.requires)) (λ a r q k. search rules) in
    leb-false _ c.args.counter (p.1 k d l m)
