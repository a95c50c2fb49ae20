use Rattle.std.proofs.Common.{◌≡◌, ◌∙◌, ◌<◌, ◌≤◌, length, set, inl, inr, subst, sym, ap, arith}
use Rattle.std.proofs.lemmas.Bool.{cases_eq, cases_lt}
use Rattle.std.proofs.lemmas.List.{length-set}
use Rattle.am_fits.specs.Runs.{runs_in, runs_below}
use Rattle.am_fits.proofs.RunLaws.{runs_set, runs_set_other, runs_at, runs_past}
use Rattle.am_fits.proofs.runs.cut_each.Goals as goal

pub loop-author-preserved : goal.loop-author-preserved
loop-author-preserved c =
    let rss = c.loop-author.authors.items in
    let n = c.loop-author.author in
    let h = c.loop-author.invariant in
    let l : n < length rss = omega (arith, c.loop-author-test.true, c.len-author-end.ensures, c.args.authors.now.ok.0, h.long) in
    record {
      long = length-set rss n c.cut.new.runs ∙ h.long;
      done = λ a m. elim (cases_eq a n) [
        | inl e ↦ subst (λ b. runs_in (set rss n c.cut.new.runs) b ≡ runs_below c.args.bound (runs_in c.args.authors.now.items b)) (sym e)
            (runs_set rss n c.cut.new.runs l ∙ c.cut.ensures ∙ ap (runs_below c.args.bound) (sym (runs_at rss n c.index_mut.result.now l c.index_mut.ensures.value) ∙ h.rest n (omega arith)))
        | inr e ↦ runs_set_other rss n c.cut.new.runs a e ∙ h.done a (omega arith)
      ];
      rest = λ a m. runs_set_other rss n c.cut.new.runs a (λ e. omega arith) ∙ h.rest a (omega arith);
    }

pub returns : goal.returns
returns c a = elim (cases_lt a c.loop-author.author) [
  | inl l ↦ c.loop-author.invariant.done a l
  | inr l ↦
      let m : length c.args.authors.now.items ≤ a = omega (arith, c.loop-author-test.false, c.len-author-end.ensures, c.args.authors.now.ok.0) in
      let none = runs_past c.args.authors.now.items a m in
      c.loop-author.invariant.rest a l ∙ none ∙ sym (ap (runs_below c.args.bound) none)
]
