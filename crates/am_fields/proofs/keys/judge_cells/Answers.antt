use Rattle.std.proofs.Common.{◌≡◌, ℤ, ℕ, List, Option, ◌++◌, ◌∙◌, ◌≤◌, ◌-◌, length, length-append, take, drop, refl, sym, ap, subst, arith, option_map}
use Rattle.std.specs.Prelude.{IsSome, replicate}
use Rattle.std.specs.List.{AllByRecursion, zip}
use Rattle.std.proofs.lemmas.List.{length-replicate, length-drop}
use Rattle.am_fields.specs.Fields.{key_at as key_there, key_read}
use Rattle.am_fields.proofs.Judging.{judged_none, judged_more, judged_next, judged_all, zip_part, length-zip_part, all_zipped, zipped_all, drop_stretch, drop_part, least_zip, left_none}
use Rattle.am_fields.proofs.keys.judge_cells.Goals as goal

pub loop-left-init : goal.loop-left-init
loop-left-init c = (refl, judged_none _ c.args.n (zip c.args.counters.now c.args.names.now) (least_zip c.args.n c.args.counters.now c.args.names.now c.requires.counters c.requires.names), c.requires.counters, c.requires.names, refl, refl)

pub judge_counters-requires : goal.judge_counters-requires
judge_counters-requires c = omega (arith, c.loop-left.invariant.2, c.next_alike_within-count.ensures.few)

pub loop-left-preserved : goal.loop-left-preserved
loop-left-preserved c =
    let inv = c.loop-left.invariant in
    let next = c.next_alike_within-count in
    let k = next.result.1 in
    let name = option_map (λ s. s.now) next.result.0 in
    let counters = c.loop-left.counters in
    let enough : k ≤ length counters = omega (arith, inv.2, next.ensures.few) in
    let s = zip (take k counters) (replicate k name) in
    let behind = c.if-not-judge_counters.ensures.behind refl in
    let read = subst (λ a. AllByRecursion (λ z. IsSome (key_there a c.args.place z name)) (take k counters)) inv.0 (c.if-not-judge_counters.ensures.read.0 refl) in
    let all = all_zipped (λ cell. IsSome (key_read c.args.actors.now c.args.place cell)) k name counters enough read in
    let cells : zip counters c.loop-left.names ≡ s ++ zip c.judge_counters.new.counters next.new.self =
    ap (zip counters) next.ensures.next ∙ zip_part k name counters next.new.self enough ∙ ap (λ l. s ++ zip l next.new.self) (sym behind) in (
      c.judge_counters.ensures.same ∙ inv.0,
      judged_more _ _ _ _ k s _ _ inv.1 cells (length-zip_part k name counters enough) next.ensures.few all,
      omega (arith, inv.2, next.ensures.few, ap length behind, length-drop k counters),
      omega (arith, inv.3, next.ensures.few, ap length next.ensures.next, length-append (replicate k name) next.new.self, length-replicate k name),
      inv.4 ∙ drop_part c.loop-left.left k counters next.ensures.few ∙ ap (drop (c.loop-left.left - k)) (sym behind),
      inv.5 ∙ drop_stretch c.loop-left.left k (replicate k name) next.new.self c.loop-left.names next.ensures.next (length-replicate k name) next.ensures.few,
    )

pub returns-then-not-judge_counters-clause-same : goal.returns-then-not-judge_counters-clause-same
returns-then-not-judge_counters-clause-same c = c.judge_counters.ensures.same ∙ c.loop-left.invariant.0

pub returns-then-not-judge_counters-clause-read : goal.returns-then-not-judge_counters-clause-read
returns-then-not-judge_counters-clause-read c =
    let inv = c.loop-left.invariant in
    let next = c.next_alike_within-count in
    let k = next.result.1 in
    let name = option_map (λ s. s.now) next.result.0 in
    let counters = c.loop-left.counters in
    let enough : k ≤ length counters = omega (arith, inv.2, next.ensures.few) in
    let s = zip (take k counters) (replicate k name) in
    let P : Option ℤ × Option (List ℕ) → Type 0 = λ cell. IsSome (key_read c.args.actors.now c.args.place cell) in
    let cells : zip counters c.loop-left.names ≡ s ++ zip (drop k counters) next.new.self = ap (zip counters) next.ensures.next ∙ zip_part k name counters next.new.self enough in (
      λ e. absurd (cc),
      λ all. c.if-not-judge_counters.ensures.read.1 (subst (λ a. AllByRecursion (λ z. IsSome (key_there a c.args.place z name)) (take k counters)) (sym inv.0)
          (zipped_all P k name counters enough (judged_next P _ _ _ k s _ _ inv.1 cells (length-zip_part k name counters enough) next.ensures.few all))),
    )

pub returns-clause-read : goal.returns-clause-read
returns-clause-read c = (λ e. (judged_all _ _ _ _ _ c.loop-left.invariant.1 (omega arith)).0, λ all. refl)

pub returns-clause-counters : goal.returns-clause-counters
returns-clause-counters c = λ e. sym (c.loop-left.invariant.4 ∙ left_none c.loop-left.left c.loop-left.counters (omega arith))

pub returns-clause-names : goal.returns-clause-names
returns-clause-names c = λ e. sym (c.loop-left.invariant.5 ∙ left_none c.loop-left.left c.loop-left.names (omega arith))
