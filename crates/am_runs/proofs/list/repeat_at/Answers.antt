use Rattle.am_runs.proofs.Listing.{repeat_more}
use Rattle.am_runs.proofs.list.repeat_at.Goals as goal

pub returns-then-is_like_last : goal.returns-then-is_like_last
returns-then-is_like_last g c = λ start s. repeat_more g.K.Item.end_of g.K.Spells.spelling start _ _ _ _ _ c.args.value c.requires.kind
    (λ before last e. (c.is_like_last.ensures before last e).0 c.if-is_like_last.true) c.requires.entry s
