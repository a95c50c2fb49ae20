use Rattle.std.proofs.Common.{refl}
use Rattle.am_opcols.proofs.CanonicalRead.{tested, untested}
use Rattle.am_opcols.proofs.found.OpColumns.are_canonical.Goals as goal

pub returns-then-not-are_plain : goal.returns-then-not-are_plain
returns-then-not-are_plain c = (
  λ e. absurd (cc),
  λ w.
      let passed = untested c.args.author.now c.args.others.now c.args.self.now c.args.ops.now c.requires.spelled w.0 w.1 in
      absurd (cc (c.if-not-are_plain.ensures.1 passed.plain)),
)

pub returns : goal.returns
returns c = (
  λ e. tested c.args.author.now c.args.others.now c.args.self.now c.args.ops.now c.requires.spelled c.requires.ascend c.requires.known (c.if-not-are_plain.ensures.0 refl) (c.are_named.ensures.0 e),
  λ w.
      let passed = untested c.args.author.now c.args.others.now c.args.self.now c.args.ops.now c.requires.spelled w.0 w.1 in
      c.are_named.ensures.1 passed.named,
)
