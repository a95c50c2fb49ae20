use Rattle.am_delivery.proofs.Skipping as law
use Rattle.am_delivery.proofs.laws.held_is_skipped.Goals as goal

pub returns : goal.returns
returns c = law.held_is_skipped
