use Rattle.std.proofs.Common.{◌≡◌, ◌++◌, ◌+◌, ◌-◌, length, take, drop, sym, ap, ◌∙◌, arith, length-append}
use Rattle.std.proofs.lemmas.List.{take-append-drop}
use Rattle.std.proofs.Math.Seq.{take-append-add, drop-append-add}
use Rattle.am_runs.proofs.kept.KeptItems.extend.Goals as goal

pub returns-clause-front : goal.returns-clause-front
returns-clause-front c =
    let before = c.self.inside.bytes.items in
    let items = c.args.items.now in
    let new = c.extend_from_slice.new.self.items in
    let after = c.in_ok-extend_from_slice.ensures.items in
    let place : length new - (length items - c.args.last) ≡ length before + c.args.last = omega (arith, ap length after, length-append before items, c.requires) in
    ap (λ n. take n new) place ∙ ap (take (length before + c.args.last)) after ∙ take-append-add before items c.args.last
    ∙ ap (λ b. b ++ take c.args.last items) (sym (take-append-drop (length before - c.self.inside.size) before) ∙ ap (λ k. k.front ++ k.last) c.self.view_is)

pub returns-clause-last : goal.returns-clause-last
returns-clause-last c =
    let before = c.self.inside.bytes.items in
    let items = c.args.items.now in
    let new = c.extend_from_slice.new.self.items in
    let after = c.in_ok-extend_from_slice.ensures.items in
    let place : length new - (length items - c.args.last) ≡ length before + c.args.last = omega (arith, ap length after, length-append before items, c.requires) in
    ap (λ n. drop n new) place ∙ ap (drop (length before + c.args.last)) after ∙ drop-append-add before items c.args.last
