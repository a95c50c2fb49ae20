use Rattle.std.proofs.Common.{◌∙◌, ap, map, sym, subst}
use Rattle.am_types.specs.Operations.{ascending}
use Rattle.am_places.specs.Sound.{Sound}
use Rattle.am_places.proofs.Validity.{have_room, sound_set}
use Rattle.am_places.proofs.numbered.ascending_lent.Goals as goal

pub gather_lent-requires : goal.gather_lent-requires
gather_lent-requires c = record { room = have_room (map (λ c. c.now) c.args.changes.now) c.requires.valid }

pub returns-clause-sound : goal.returns-clause-sound
returns-clause-sound c = subst Sound (sym (c.in_ok-sort_operations.ensures ∙ ap ascending c.in_ok-all.ensures)) (sound_set (map (λ c. c.now) c.args.changes.now) c.requires.valid)
