use Rattle.std.proofs.Common.{arith, refl}
use Rattle.am_runs.proofs.Skimmed.{goes_on, next_begun, all_passed, is_last}
use Rattle.am_runs.proofs.skim.skimmed_length.Goals.{then-bytes-i-lt128, else-bytes-i-lt128}
use Rattle.am_runs.proofs.skim.skimmed_length.Goals as goal

pub returns-then-left-eq0-clause-behind : goal.returns-then-left-eq0-clause-behind
returns-then-left-eq0-clause-behind g c =
    let s = c.loop-i.invariant in
    elim c.if-bytes-i-lt128.branch [
      | then-bytes-i-lt128 w ↦
          let ends = c.if-is_spare.ensures.ends refl (is_last _ _ _ _ _ _ s (omega arith) (omega (arith, w.if-bytes-i-lt128))) in
          all_passed _ _ _ _ _ _ s ends (omega (arith, w.left-is))
      | else-bytes-i-lt128 w ↦ absurd (omega (arith, s.going, w.left-is))
    ]

pub loop-i-preserved : goal.loop-i-preserved
loop-i-preserved g c =
    let s = c.loop-i.invariant in
    elim c.if-bytes-i-lt128.branch [
      | then-bytes-i-lt128 w ↦
          let ends = c.if-is_spare.ensures.ends refl (is_last _ _ _ _ _ _ s (omega arith) (omega (arith, w.if-bytes-i-lt128))) in
          rw (w.left-is, w.start-is) (next_begun _ _ _ _ _ _ s ends (omega (arith, w.left-is)))
      | else-bytes-i-lt128 w ↦ rw (w.left-is, w.start-is) (goes_on _ _ _ _ _ _ s (omega (arith, w.if-bytes-i-lt128)) (omega arith))
    ]
