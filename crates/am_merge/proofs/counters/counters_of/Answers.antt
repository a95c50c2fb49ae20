use Rattle.std.proofs.Common.{◌≡◌, ◌∙◌, ◌++◌, IsPermutation, ap, subst}
use Rattle.am_merge.specs.Naming.{counters_in}
use Rattle.am_merge.proofs.counters.counters_of.Goals as goal

pub returns : goal.returns
returns c =
    let t = c.args.tables.now in
    let all : c.push_counters-2.new.counters.items ≡ counters_in t.named.items ++ counters_in t.hanging.items =
    c.in_ok-push_counters-2.ensures
    ∙ (λ i. (c.in_ok-push_counters.ensures ∙ ap (λ l. l ++ counters_in c.as_slice.result.now) c.new-counters.ensures.items ∙ ap counters_in c.as_slice.ensures.value) i ++ counters_in (c.as_slice-2.ensures.value i)) in
    record {
      ascend = c.in_ok-sort.ensures.sorted;
      all = subst (λ l. IsPermutation l c.sort.new.self.items) all c.sort.ensures.permutation;
    }
