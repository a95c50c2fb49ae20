use Rattle.std.proofs.Common.{sym, ap, ◌∙◌, length}
use Rattle.am_change.proofs.FrontLaws.{length-hashes_in}
use Rattle.am_change.proofs.hash_list.HashList.count.Goals as goal

pub returns : goal.returns
returns c = sym (length-hashes_in c.self.inside.count c.self.inside.bytes.now) ∙ ap length c.self.view_is
