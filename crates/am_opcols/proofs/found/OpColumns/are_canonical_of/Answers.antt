use Rattle.std.proofs.Common.{Bor, ℕ, List, map, refl, sym, ap, subst, ◌∙◌}
use Rattle.std.proofs.lemmas.List.{map-id}
use Rattle.am_opcols.specs.EachColumn.{AreNamed}
use Rattle.am_opcols.specs.Others.{others}
use Rattle.am_opcols.proofs.CanonicalRead.{tested, untested}
use Rattle.am_opcols.proofs.ListedLaws.{others_are_named}
use Rattle.am_opcols.proofs.found.OpColumns.are_canonical_of.Goals as goal

pub returns-then-not-are_plain-clause-judged : goal.returns-then-not-are_plain-clause-judged
returns-then-not-are_plain-clause-judged c = (
  λ e. absurd (cc),
  λ w.
      let passed = untested c.args.author.now c.args.others.now c.args.self.now c.args.ops.now c.requires.spelled w.0 w.1 in
      absurd (cc (c.if-not-are_plain.ensures.1 passed.plain)),
)

pub returns-then-count-le-FEW-clause-judged : goal.returns-then-count-le-FEW-clause-judged
returns-then-count-le-FEW-clause-judged c = (
  λ e. tested c.args.author.now c.args.others.now c.args.self.now c.args.ops.now c.requires.spelled c.requires.ascend c.requires.known (c.if-not-are_plain.ensures.0 refl) (c.are_named_by.ensures.0 e),
  λ w.
      let passed = untested c.args.author.now c.args.others.now c.args.self.now c.args.ops.now c.requires.spelled w.0 w.1 in
      c.are_named_by.ensures.1 passed.named,
)

pub returns-clause-judged : goal.returns-clause-judged
returns-clause-judged c = (
  λ e.
      let own = c.are_listed.ensures.0 e ∙ ap (map (λ (a : Bor (List ℕ)). a.now)) c.deref.ensures.value ∙ c.in_ok-named.ensures ∙ ap (others c.args.author.now) (map-id c.args.ops.now) in
      let named = (others_are_named c.args.author.now c.args.ops.now).2 in
      tested c.args.author.now c.args.others.now c.args.self.now c.args.ops.now c.requires.spelled c.requires.ascend c.requires.known (c.if-not-are_plain.ensures.0 refl) (subst (λ l. AreNamed l c.args.ops.now) (sym own) named),
  λ w. c.are_listed.ensures.1 (w.0 ∙ sym (ap (map (λ (a : Bor (List ℕ)). a.now)) c.deref.ensures.value ∙ c.in_ok-named.ensures ∙ ap (others c.args.author.now) (map-id c.args.ops.now))),
)
