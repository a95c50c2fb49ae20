use Rattle.std.proofs.Common.{[], ◌∷◌, ◌++◌, ap, ◌∙◌, arith}
use Rattle.am_change.specs.Building.{hashes_in}
use Rattle.am_change.proofs.FrontLaws.{hashes_step}
use Rattle.am_change.proofs.copying.hashes_of.Goals as goal

pub loop-left-preserved : goal.loop-left-preserved
loop-left-preserved c = (
  omega (arith, c.split_at.ensures.back_len, c.loop-left.invariant.0),
  hashes_step c.loop-left.hashes.items (hashes_in c.args.count c.args.bytes.now) c.push.new.self.items c.loop-left.rest.now c.split_at.result.0.now c.split_at.result.1.now c.loop-left.left (omega arith) c.split_at.ensures.front c.split_at.ensures.back
      (c.in_ok-push.ensures.items ∙ ap (λ h. c.loop-left.hashes.items ++ h ∷ []) c.hash_in.ensures) c.loop-left.invariant.1,
)
