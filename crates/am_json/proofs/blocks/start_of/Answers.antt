use Rattle.std.proofs.Common.{sym}
use Rattle.am_json.proofs.Parted.{start_in, start_end}
use Rattle.am_json.proofs.blocks.start_of.Goals as goal

pub returns-then-place-blocks : goal.returns-then-place-blocks
returns-then-place-blocks c = sym (start_in c.args.blocks.now c.args.count c.args.place _ c.if-place-blocks.true)

pub returns-else-place-blocks : goal.returns-else-place-blocks
returns-else-place-blocks c = sym (start_end c.args.blocks.now c.args.count c.args.place c.if-place-blocks.false)
