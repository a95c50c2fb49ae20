use Rattle.std.proofs.Common.{ap, Some, drop, ◌≡◌, take}
use Rattle.am_outside.proofs.Pieces.{given}
use Rattle.am_outside.proofs.sure_source.SureSourceSource.read.Goals as goal

pub returns-clause-bytes : goal.returns-clause-bytes
returns-clause-bytes c =
    let bytes = c.args.self.now.bytes.items in
    let piece = take c.copy_front-count.result c.copy_front-count.new.to in
    let next : piece ≡ take c.copy_front-count.result (drop c.args.self.now.at bytes) = cc in
    ap Some (given bytes piece c.args.self.now.at c.copy_front-count.result next)
