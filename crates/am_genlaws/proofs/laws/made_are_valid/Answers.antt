use Rattle.am_genlaws.proofs.InTurn as in_turn
use Rattle.am_genlaws.proofs.laws.made_are_valid.Goals as goal

pub returns : goal.returns
returns c = in_turn.made_are_valid
