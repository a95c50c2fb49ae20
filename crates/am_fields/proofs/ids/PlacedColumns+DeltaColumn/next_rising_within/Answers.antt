use Rattle.std.proofs.Common.{◌≡◌, ◌++◌, ◌∙◌, Option, Some, None, option_map, replicate, drop, ap, sym, subst, arith}
use Rattle.std.specs.Prelude.{IsSome}
use Rattle.am_types.specs.declared.OpId.{OpId}
use Rattle.am_types.specs.Views.{id_of}
use Rattle.am_delta.specs.Deltas.{stretch}
use Rattle.am_fields.specs.Fields.{id_at as id_there}
use Rattle.am_fields.specs.Reading.{readings}
use Rattle.am_fields.specs.Rising.{rising}
use Rattle.am_fields.proofs.Alike.{first_read, not_none}
use Rattle.am_fields.proofs.Readings.{readings-drop}
use Rattle.am_fields.proofs.RisingIds.{rows_rising, first_of_stretch, length_rising}
use Rattle.am_fields.proofs.ids.PlacedColumns+DeltaColumn.next_rising_within.Goals as goal

pub invariant_of-self : goal.invariant_of-self
invariant_of-self c = rw c.id_at.ensures.same c.self.invariant

pub leap-requires : goal.leap-requires
leap-requires c =
    let at = c.self.inside in
    let place = c.next_alike_within-place in
    let counter = c.next_stretch-counter in
    let count = c.rising_count-count in
    let xs : at.actor ≡ replicate place.result.1 place.result.0 ++ place.new.self = sym c.again.ensures ∙ place.ensures.next in
    let ys : at.beside ≡ stretch counter.result.0 counter.result.1 counter.result.2 ++ counter.new.self = sym c.again-2.ensures ∙ counter.ensures.next in
    let is : id_there at.actors place.result.0 counter.result.0 ≡ Some (id_of c.in-Some.id) = sym c.id_at.ensures.id ∙ ap (option_map id_of) c.in-Some.is in
    let rows = rows_rising at.actors _ _ _ _ _ count.result (id_of c.in-Some.id) at.actor _ at.beside _ is xs ys count.ensures.some count.ensures.few counter.ensures.few count.ensures.by_one c.self.invariant in
    let fits = length_rising (id_of c.in-Some.id) count.result _ (readings (id_there at.actors) at.actor at.beside) rows in
    rw c.id_at.ensures.same fits

pub unreachable-requires : goal.unreachable-requires
unreachable-requires c =
    let at = c.self.inside in
    let place = c.next_alike_within-place in
    let counter = c.next_stretch-counter in
    let xs : at.actor ≡ replicate place.result.1 place.result.0 ++ place.new.self = sym c.again.ensures ∙ place.ensures.next in
    let ys : at.beside ≡ stretch counter.result.0 counter.result.1 counter.result.2 ++ counter.new.self = sym c.again-2.ensures ∙ counter.ensures.next in
    let first = first_of_stretch counter.result.0 counter.result.1 counter.result.2 at.beside _ ys counter.ensures.some in
    let some = first_read (id_there at.actors) _ 1 _ _ _ _ at.actor at.beside xs first.1 place.ensures.some (omega arith) c.self.invariant in
    let is : id_there at.actors place.result.0 counter.result.0 ≡ None = sym c.id_at.ensures.id ∙ ap (option_map id_of) c.in-None.is in
    absurd (not_none OpId (subst (λ (o : Option OpId). IsSome o) is some))

pub returns-clause-next : goal.returns-clause-next
returns-clause-next c =
    let at = c.self.inside in
    let place = c.next_alike_within-place in
    let counter = c.next_stretch-counter in
    let count = c.rising_count-count in
    let xs : at.actor ≡ replicate place.result.1 place.result.0 ++ place.new.self = sym c.again.ensures ∙ place.ensures.next in
    let ys : at.beside ≡ stretch counter.result.0 counter.result.1 counter.result.2 ++ counter.new.self = sym c.again-2.ensures ∙ counter.ensures.next in
    let is : id_there at.actors place.result.0 counter.result.0 ≡ Some (id_of c.in-Some.id) = sym c.id_at.ensures.id ∙ ap (option_map id_of) c.in-Some.is in
    let rows = rows_rising at.actors _ _ _ _ _ count.result (id_of c.in-Some.id) at.actor _ at.beside _ is xs ys count.ensures.some count.ensures.few counter.ensures.few count.ensures.by_one c.self.invariant in
    let behind : readings (id_there at.actors) (drop count.result at.actor) (drop count.result at.beside) ≡ c.leap.new.self =
    readings-drop (id_there at.actors) count.result at.actor at.beside c.self.invariant
    ∙ ap (λ actors. drop count.result (readings (id_there actors) at.actor at.beside)) (sym c.id_at.ensures.same)
    ∙ sym c.leap.ensures in
    sym c.self.view_is ∙ rows ∙ ap (λ l. rising (id_of c.in-Some.id) count.result ++ l) behind
