use Rattle.am_change.proofs.ContentsLaws.{contents-same}
use Rattle.am_change.proofs.laws.contents_tell_changes.Goals as goal

pub returns : goal.returns
returns c = contents-same
