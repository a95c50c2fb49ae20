use Rattle.std.proofs.Common.{◌∙◌, length, take, drop, map, ap, arith}
use Rattle.am_fields.specs.Fields.{key_read}
use Rattle.am_fields.specs.Layout.{key_actor}
use Rattle.am_fields.specs.Limits.{IsKeyWithin}
use Rattle.am_fields.specs.Moving.{moved}
use Rattle.am_fields.specs.Reading.{readings}
use Rattle.am_fields.specs.RowLaws.{keys_read, key_numbers}
use Rattle.am_fields.proofs.Readings.{reads_from, length-readings, same_length}
use Rattle.am_fields.proofs.Moves.{are_moved, written_as}
use Rattle.am_fields.proofs.Zips.{map-map}
use Rattle.am_fields.proofs.keys.PlacedColumns+KeyCells.copy_to.Goals as goal

pub move_places-requires-clause-enough : goal.move_places-requires-clause-enough
move_places-requires-clause-enough c =
    let at = c.self.inside in
    omega (arith, c.requires.enough, ap length c.self.view_is, length-readings (key_read at.actors) at.actor at.beside c.self.invariant, ap length c.again-actor.ensures)

pub copy_to-requires-clause-enough : goal.copy_to-requires-clause-enough
copy_to-requires-clause-enough c =
    let at = c.self.inside in
    omega (arith, c.requires.enough, ap length c.self.view_is, length-readings (key_read at.actors) at.actor at.beside c.self.invariant, same_length (key_read at.actors) at.actor at.beside c.self.invariant, ap length c.again-beside.ensures)

pub copy_to-requires-clause-within : goal.copy_to-requires-clause-within
copy_to-requires-clause-within c =
    let at = c.self.inside in
    let from = reads_from at.actors (key_read at.actors) key_actor key_numbers IsKeyWithin (keys_read at.actors) at.actor at.beside c.self.invariant in
    (readings (key_read at.actors) at.actor at.beside, c.again-beside.ensures ∙ from.numbers, from.within)

pub invariant_of-self : goal.invariant_of-self
invariant_of-self c = rw c.move_places.ensures.same c.self.invariant

pub invariant_of-self-in_err-copy_to : goal.invariant_of-self-in_err-copy_to
invariant_of-self-in_err-copy_to c = rw c.move_places.ensures.same c.self.invariant

pub invariant_of-self-2 : goal.invariant_of-self-2
invariant_of-self-2 c =
    let at = c.self.inside in
    let w = are_moved at.actors c.args.actors.now (key_read at.actors) key_actor key_numbers IsKeyWithin (keys_read at.actors) c.args.n at.actor _ at.beside _ _ c.self.invariant c.self.view_is (c.in_ok-move_places.ensures.behind ∙ ap (drop c.args.n) c.again-actor.ensures) (c.in_ok-copy_to.ensures.behind ∙ ap (drop c.args.n) c.again-beside.ensures) in
    rw c.move_places.ensures.same w.all

pub returns-clause-places : goal.returns-clause-places
returns-clause-places c =
    let at = c.self.inside in
    let w = are_moved at.actors c.args.actors.now (key_read at.actors) key_actor key_numbers IsKeyWithin (keys_read at.actors) c.args.n at.actor _ at.beside _ _ c.self.invariant c.self.view_is (c.in_ok-move_places.ensures.behind ∙ ap (drop c.args.n) c.again-actor.ensures) (c.in_ok-copy_to.ensures.behind ∙ ap (drop c.args.n) c.again-beside.ensures) in
    written_as c.args.places.now c.move_places.new.places _ _ (ap (λ l. take c.args.n (map (moved at.actors c.args.actors.now) l)) c.again-actor.ensures ∙ w.places) c.in_ok-move_places.ensures.ok

pub returns-clause-counters : goal.returns-clause-counters
returns-clause-counters c =
    let at = c.self.inside in
    let w = are_moved at.actors c.args.actors.now (key_read at.actors) key_actor key_numbers IsKeyWithin (keys_read at.actors) c.args.n at.actor _ at.beside _ _ c.self.invariant c.self.view_is (c.in_ok-move_places.ensures.behind ∙ ap (drop c.args.n) c.again-actor.ensures) (c.in_ok-copy_to.ensures.behind ∙ ap (drop c.args.n) c.again-beside.ensures) in
    written_as c.args.counters.now _ _ _ (ap (λ l. map (λ p. p.0) (take c.args.n l)) c.again-beside.ensures ∙ ap (map (λ p. p.0)) w.numbers ∙ map-map (λ p. p.0) key_numbers (take c.args.n c.args.self.now)) c.in_ok-copy_to.ensures.counters

pub returns-clause-names : goal.returns-clause-names
returns-clause-names c =
    let at = c.self.inside in
    let w = are_moved at.actors c.args.actors.now (key_read at.actors) key_actor key_numbers IsKeyWithin (keys_read at.actors) c.args.n at.actor _ at.beside _ _ c.self.invariant c.self.view_is (c.in_ok-move_places.ensures.behind ∙ ap (drop c.args.n) c.again-actor.ensures) (c.in_ok-copy_to.ensures.behind ∙ ap (drop c.args.n) c.again-beside.ensures) in
    written_as c.args.names.now _ _ _ (ap (λ l. map (λ p. p.1) (take c.args.n l)) c.again-beside.ensures ∙ ap (map (λ p. p.1)) w.numbers ∙ map-map (λ p. p.1) key_numbers (take c.args.n c.args.self.now)) c.in_ok-copy_to.ensures.names

pub returns-clause-behind : goal.returns-clause-behind
returns-clause-behind c =
    let at = c.self.inside in
    let w = are_moved at.actors c.args.actors.now (key_read at.actors) key_actor key_numbers IsKeyWithin (keys_read at.actors) c.args.n at.actor _ at.beside _ _ c.self.invariant c.self.view_is (c.in_ok-move_places.ensures.behind ∙ ap (drop c.args.n) c.again-actor.ensures) (c.in_ok-copy_to.ensures.behind ∙ ap (drop c.args.n) c.again-beside.ensures) in
    rw c.move_places.ensures.same w.behind
