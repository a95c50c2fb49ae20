use Rattle.std.proofs.Common.{◌≡◌, ◌<◌, ℕ, get_or}
use Rattle.am_types.specs.Views.{id_of}
use Rattle.am_rebuild.specs.declared.mention.Named.{Named}
use Rattle.am_rebuild.proofs.author.first_run.Given as goal

abbrev pub invariant-loop-i : goal.invariant-loop-i
invariant-loop-i l = (k : ℕ) (d : Named) → k < l.i → id_of (get_or l.rest k d).id ≡ id_of (get_or l.rest 0 d).id
