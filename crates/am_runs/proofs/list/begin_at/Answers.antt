use Rattle.am_runs.proofs.Listing.{literal_behind}
use Rattle.am_runs.proofs.list.begin_at.Goals as goal

pub returns : goal.returns
returns g c = λ start s. literal_behind g.K.Item.end_of g.K.Spells.spelling start _ _ _ _ _ _ c.args.value c.requires.item c.requires.kind c.requires.other c.requires.entry c.in_ok-close_at.ensures s
