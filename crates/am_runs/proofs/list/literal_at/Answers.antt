use Rattle.am_runs.proofs.Listing.{literal_more}
use Rattle.am_runs.proofs.list.literal_at.Goals as goal

pub returns : goal.returns
returns g c = λ start s. literal_more g.K.Item.end_of g.K.Spells.spelling start _ _ _ _ _ c.args.value c.requires.item c.requires.kind
    (λ before last e same. (let yes = (c.is_like_last.ensures before last e).1 same in let no = c.if-is_like_last.false in cc)) c.requires.entry s
