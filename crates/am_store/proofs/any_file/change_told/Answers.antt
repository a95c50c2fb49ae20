use Rattle.am_store.proofs.AnyFile.{change_is_told}
use Rattle.am_store.proofs.any_file.change_told.Goals as goal

pub returns : goal.returns
returns c = λ only. change_is_told only c.args.contents.now c.read-change.result c.requires c.read-change.ensures.judged c.read-change.ensures.free
