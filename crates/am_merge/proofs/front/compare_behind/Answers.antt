use Rattle.std.proofs.Common.{◌∙◌, subst, sym}
use Rattle.am_types.specs.Bytes.{IsBytes}
use Rattle.am_merge.proofs.Fronts.{alike}
use Rattle.am_merge.proofs.front.compare_behind.Goals as goal

pub returns-then-b-le-WIDTH : goal.returns-then-b-le-WIDTH
returns-then-b-le-WIDTH c =
    c.cmp.ensures
    ∙ sym (alike 0 16 c.args.a.now c.args.b.now (subst IsBytes c.as_bytes.ensures.value c.slice_known.ensures) (subst IsBytes c.as_bytes-2.ensures.value c.slice_known-2.ensures) c.if-a-le-WIDTH.true c.if-b-le-WIDTH.true c.requires)
