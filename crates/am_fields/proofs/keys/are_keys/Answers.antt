use mir.Val.{to_z, of_z}
use Rattle.std.proofs.Common.{◌≡◌, ◌↔◌, ◌∙◌, Option, ℤ, not, refl, sym, ap, subst, arith, option_map, w64}
use Rattle.std.specs.Bool.{IsTrue}
use Rattle.std.specs.Prelude.{IsSome}
use Rattle.std.specs.List.{AllByRecursion}
use Rattle.am_types.specs.Views.{key_of}
use Rattle.am_delta.specs.Deltas.{AllBetween, stretch}
use Rattle.am_fields.specs.Fields.{key_at as key_there, counters_beside}
use Rattle.am_fields.proofs.Judging.{same_some}
use Rattle.am_fields.proofs.CountersRead.{alone, first_of_all, keys_end, keys_alike, keys_by, keys_within, limits_kept}
use Rattle.am_fields.proofs.keys.are_keys.Goals as goal

pub returns-then-is_none-clause-read : goal.returns-then-is_none-clause-read
returns-then-is_none-clause-read c =
    let row = same_some key_of c.key_at.result _ c.key_at.ensures.key in
    let missing = c.is_none.ensures ∙ ap not c.if-is_none.true in
    let P : Option ℤ → Type 0 = λ y. IsSome (key_there c.args.actors.now c.args.place y (option_map (λ s. s.now) c.args.name)) in
    (λ e. absurd (cc), λ all. sym missing ∙ sym row ∙ first_of_all P c.args.first c.args.difference c.args.count c.requires all)

pub returns-then-count-eq1-clause-read : goal.returns-then-count-eq1-clause-read
returns-then-count-eq1-clause-read c =
    let some = same_some key_of c.key_at.result _ c.key_at.ensures.key ∙ (c.is_none.ensures ∙ ap not c.if-is_none.false) in
    let P : Option ℤ → Type 0 = λ y. IsSome (key_there c.args.actors.now c.args.place y (option_map (λ s. s.now) c.args.name)) in
    let one : 1 ≡ c.args.count = omega arith in
    (λ e. subst (λ k. AllByRecursion P (stretch c.args.first c.args.difference k)) one (alone P c.args.first c.args.difference some), λ all. refl)

pub returns-then-is_none-2-clause-read : goal.returns-then-is_none-2-clause-read
returns-then-is_none-2-clause-read c =
    let some = same_some key_of c.key_at.result _ c.key_at.ensures.key ∙ (c.is_none.ensures ∙ ap not c.if-is_none.false) in
    let none = c.is_none-2.ensures ∙ ap not c.if-is_none-2.true in
    (λ e. keys_alike c.args.actors.now c.args.place (option_map (λ s. s.now) c.args.name) c.args.first c.args.difference c.args.count some none, λ all. refl)

pub returns-then-is_none-3-clause-read : goal.returns-then-is_none-3-clause-read
returns-then-is_none-3-clause-read c =
    let some = same_some key_of c.key_at.result _ c.key_at.ensures.key ∙ (c.is_none.ensures ∙ ap not c.if-is_none.false) in
    let first = c.is_none-2.ensures ∙ ap not c.if-is_none-2.false in
    let none = c.is_none-3.ensures ∙ ap not c.if-is_none-3.true in
    (λ e. absurd (cc), λ all. absurd (keys_end c.args.actors.now c.args.place (option_map (λ s. s.now) c.args.name) c.args.first c.args.difference c.args.count some first none (omega (arith, c.requires, c.if-count-eq1.false)) all))

pub returns-clause-read : goal.returns-clause-read
returns-clause-read c =
    let some = same_some key_of c.key_at.result _ c.key_at.ensures.key ∙ (c.is_none.ensures ∙ ap not c.if-is_none.false) in
    let first = c.is_none-2.ensures ∙ ap not c.if-is_none-2.false in
    let risen = c.is_none-3.ensures ∙ ap not c.if-is_none-3.false in
    let kept = limits_kept c.args.place in
    let limits = c.counters_with-low.ensures in
    let cells = stretch c.args.first c.args.difference c.args.count in
    let result = c.is_stretch_between.result in
    let between =
    subst (λ h. IsTrue result ↔ AllBetween (counters_beside c.args.place).0 h cells) (ap (λ (p : ℤ × ℤ). to_z w64 (of_z w64 p.1)) limits ∙ kept.1)
    (subst (λ l. IsTrue result ↔ AllBetween l (to_z w64 (of_z w64 (c.counters_with-low.result).1)) cells) (ap (λ (p : ℤ × ℤ). to_z w64 (of_z w64 p.0)) limits ∙ kept.0) c.is_stretch_between.ensures) in (
      λ e. keys_by c.args.actors.now c.args.place (option_map (λ s. s.now) c.args.name) c.args.first c.args.difference c.args.count some first risen (between.0 e),
      λ all. between.1 (keys_within c.args.actors.now c.args.place (option_map (λ s. s.now) c.args.name) c.args.first c.args.difference c.args.count first risen all),
    )
