use Rattle.std.proofs.Common.{◌≡◌, ◌∙◌, ◌+◌, ◌-◌, ◌<◌, ◌≤◌, length, get_or, take, set, sym, ap, subst, arith}
use Rattle.std.proofs.lemmas.List.{get_or_default}
use Rattle.am_fits.specs.declared.spans.Span.{Span}
use Rattle.am_fits.specs.Runs.{keys_of}
use Rattle.am_fits.proofs.RunLaws.{whole_leaves, part_leaves}
use Rattle.am_fits.proofs.spans.drop_last.Goals as goal

pub returns-then-left-count : goal.returns-then-left-count
returns-then-left-count c =
    let h = c.spans.invariant in
    let n = c.spans.whole - 1 in
    let ss = c.args.spans.now.items in
    let s = c.index.result.now in
    let up : n + 1 ≡ c.spans.whole = omega (arith, c.spans-test.true) in
    let l : n < length ss = omega (arith, c.spans-test.true, h.within) in
    let at : s ≡ get_or ss n s = c.index.ensures ∙ ap (λ xs. get_or xs n s) h.same in
    let new : Span = record { author = s.author; start = s.start; count = s.count - c.spans.left } in
    let old = c.index_mut.result.now in
    let m : n < length c.spans.spans.items = omega (arith, l, ap length h.same) in
    let own : old ≡ s = c.index_mut.ensures.value ∙ get_or_default c.spans.spans.items n old s m ∙ sym c.index.ensures in
    ap keys_of (c.truncate.ensures.items ∙ (λ j. take c.spans.whole (set (h.same j) n (record { author = (own j).author; start = (own j).start; count = s.count - c.spans.left }))) ∙ ap (λ k. take k (set ss n new)) (sym up))
    ∙ part_leaves ss n c.spans.left s l at c.if-left-count.true
    ∙ ap (λ k. take (length (keys_of (take k ss)) - c.spans.left) (keys_of (take k ss))) up
    ∙ sym h.is

pub spans-preserved : goal.spans-preserved
spans-preserved c =
    let h = c.spans.invariant in
    let n = c.spans.whole - 1 in
    let ss = c.args.spans.now.items in
    let s = c.index.result.now in
    let up : n + 1 ≡ c.spans.whole = omega (arith, c.spans-test.true) in
    let l : n < length ss = omega (arith, c.spans-test.true, h.within) in
    let at : s ≡ get_or ss n s = c.index.ensures ∙ ap (λ xs. get_or xs n s) h.same in
    let w = whole_leaves ss n c.spans.left s l at c.if-left-count.false (subst (λ k. c.spans.left ≤ length (keys_of (take k ss))) (sym up) h.low) in
    record {
      same = h.same;
      within = omega (arith, h.within);
      low = w.0;
      is = h.is ∙ ap (λ k. take (length (keys_of (take k ss)) - c.spans.left) (keys_of (take k ss))) (sym up) ∙ w.1;
    }
