use Rattle.std.proofs.Common.{◌≡◌, List, map, length, refl, ◌∙◌, sym, ap, subst}
use Rattle.std.specs.List.{zip}
use Rattle.std.proofs.lemmas.List.{length-map}
use Rattle.am_types.specs.declared.Key.{Key}
use Rattle.am_fields.specs.Fields.{key_read}
use Rattle.am_fields.specs.Layout.{key_actor, key_counter, key_string}
use Rattle.am_fields.specs.Reading.{readings, AllRead}
use Rattle.am_fields.specs.Spelling.{SpellsKeys}
use Rattle.am_fields.proofs.Filled.{OnErr-from, OnErr-map, IfOk-both}
use Rattle.am_fields.proofs.Readings.{length-readings}
use Rattle.am_fields.proofs.IdLaws.{SpellsKeys-readings, keys-if_spelled, keys_between, places_spelled}
use Rattle.am_fields.proofs.Zips.{length-zip}
use Rattle.am_fields.proofs.keys.PlacedColumns+KeyCells.over.Goals as goal

pub returns-in_err-places-clause-err : goal.returns-in_err-places-clause-err
returns-in_err-places-clause-err c = OnErr-from c.from_residual.result ((keys : List Key) → SpellsKeys c.args.actors.now c.args.actor.now c.args.counter.now c.args.name.now keys → length keys ≡ c.args.count → ⊥) (λ keys spelled n.
    let p = places_spelled c.args.actors.now c.args.actor.now key_actor keys spelled.actor_column in
    c.in_err-places.ensures.err p.0 p.1 (p.2 ∙ n))

pub returns-in_err-counter-clause-err : goal.returns-in_err-counter-clause-err
returns-in_err-counter-clause-err c = OnErr-from c.from_residual-in_err-counter.result ((keys : List Key) → SpellsKeys c.args.actors.now c.args.actor.now c.args.counter.now c.args.name.now keys → length keys ≡ c.args.count → ⊥) (λ keys spelled n.
    c.in_err-counter.ensures.err (map key_counter keys) spelled.counter_column (length-map keys key_counter ∙ n) (keys_between keys spelled.within))

pub returns-in_err-name-clause-err : goal.returns-in_err-name-clause-err
returns-in_err-name-clause-err c = OnErr-from c.from_residual-in_err-name.result ((keys : List Key) → SpellsKeys c.args.actors.now c.args.actor.now c.args.counter.now c.args.name.now keys → length keys ≡ c.args.count → ⊥) (λ keys spelled n.
    c.in_err-name.ensures.err (map key_string keys) spelled.string_column (length-map keys key_string ∙ n))

pub judged-requires : goal.judged-requires
judged-requires c = λ k. ((refl, tt), c.in_ok-places.ensures.count ∙ sym (length-zip c.in_ok-counter.counter c.in_ok-name.name (c.in_ok-counter.ensures.count ∙ sym c.in_ok-name.ensures.count) ∙ c.in_ok-counter.ensures.count))

pub returns-clause-spelled : goal.returns-clause-spelled
returns-clause-spelled c =
    let read = key_read c.args.actors.now in
    let cells = zip c.in_ok-counter.counter c.in_ok-name.name in
    IfOk-both c.judged.result (λ _. AllRead read c.in_ok-places.places cells) (λ v. v ≡ readings read c.in_ok-places.places cells) (SpellsKeys c.args.actors.now c.args.actor.now c.args.counter.now c.args.name.now)
    (λ v all e. subst (SpellsKeys c.args.actors.now c.args.actor.now c.args.counter.now c.args.name.now) (sym e)
    (SpellsKeys-readings c.args.actors.now c.args.actor.now c.args.counter.now c.args.name.now c.in_ok-places.places c.in_ok-counter.counter c.in_ok-name.name c.in_ok-places.ensures.spelled c.in_ok-counter.ensures.spelled c.in_ok-name.ensures.spelled (c.in_ok-counter.ensures.count ∙ sym c.in_ok-name.ensures.count) all))
    c.judged.ensures.read c.judged.ensures.items

pub returns-clause-count : goal.returns-clause-count
returns-clause-count c =
    let read = key_read c.args.actors.now in
    let cells = zip c.in_ok-counter.counter c.in_ok-name.name in
    IfOk-both c.judged.result (λ _. AllRead read c.in_ok-places.places cells) (λ v. v ≡ readings read c.in_ok-places.places cells) (λ v. length v ≡ c.args.count)
    (λ v all e. ap length e ∙ length-readings read c.in_ok-places.places cells all ∙ c.in_ok-places.ensures.count)
    c.judged.ensures.read c.judged.ensures.items

pub returns-clause-err : goal.returns-clause-err
returns-clause-err c = OnErr-map c.judged.result _ _ (λ none keys spelled n. none (keys-if_spelled c.args.actors.now c.args.actor.now c.args.counter.now c.args.name.now c.in_ok-places.places c.in_ok-counter.counter c.in_ok-name.name c.in_ok-places.ensures.spelled c.in_ok-counter.ensures.spelled c.in_ok-name.ensures.spelled keys spelled (c.in_ok-places.ensures.count ∙ sym n) (c.in_ok-counter.ensures.count ∙ sym n) (c.in_ok-name.ensures.count ∙ sym n))) c.judged.ensures.err
