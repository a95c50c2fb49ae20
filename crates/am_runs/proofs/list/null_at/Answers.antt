use Rattle.am_runs.proofs.Listing.{null_more, null_behind}
use Rattle.am_runs.proofs.list.null_at.Goals as goal

pub returns-in-Nulls : goal.returns-in-Nulls
returns-in-Nulls g c = λ start s. null_more g.K.Item.end_of g.K.Spells.spelling start _ _ _ _ _ c.in-Nulls.is c.requires.entry s

pub returns : goal.returns
returns g c = λ start s. null_behind g.K.Item.end_of g.K.Spells.spelling start _ _ _ _ _ _ c.in_default.not-Nulls c.requires.entry c.in_ok-close_at.ensures s
