use Rattle.am_laws.proofs.ActorLaws as proved
use Rattle.am_laws.proofs.laws.actors_are_authors.Goals as goal

pub returns : goal.returns
returns c = proved.actors_are_authors
