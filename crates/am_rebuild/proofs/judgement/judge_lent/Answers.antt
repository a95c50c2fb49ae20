use Rattle.std.proofs.Common.{sym, ap, ◌∙◌, refl, subst, All, Contains}
use Rattle.am_types.specs.declared.Meta.{Meta}
use Rattle.am_change.specs.Hashes.{own_hash}
use Rattle.am_rebuild.specs.Lending.{table_of}
use Rattle.am_rebuild.specs.Mentions.{ArePlaced}
use Rattle.am_rebuild.specs.Names.{names_of, mentioned_actors, AreNames}
use Rattle.am_rebuild.specs.Told.{TellsIds}
use Rattle.am_rebuild.proofs.Apart.{none_apart}
use Rattle.am_rebuild.proofs.Placed.{table_names, author_names}
use Rattle.am_rebuild.proofs.Judging.{untold, unbuilt, built, other, the_history, apart_heads}
use Rattle.am_rebuild.proofs.judgement.judge_lent.Goals as goal

pub sorted_mentions-requires : goal.sorted_mentions-requires
sorted_mentions-requires c =
    let names = ap names_of c.deref.ensures.value ∙ c.in_ok-names.ensures in
    subst (AreNames (mentioned_actors c.args.table.rows.now)) (sym names) (table_names (table_of c.args.table) (c.actors_ascend.ensures.0 c.if-not-actors_ascend.false) c.requires.actors)

pub build_from-requires-clause-placed : goal.build_from-requires-clause-placed
build_from-requires-clause-placed c = subst (λ n. ArePlaced (names_of n) c.in_ok-all.all.items) (c.deref.ensures.value ∙ sym c.deref-3.ensures.value) c.in_ok-all.ensures.placed

pub build_from-requires-clause-named : goal.build_from-requires-clause-named
build_from-requires-clause-named c =
    let names = ap names_of c.deref-3.ensures.value ∙ c.in_ok-names.ensures in
    subst (λ n. All (λ (m : Meta). Contains n m.actor) c.args.table.metas.now) (sym names) (author_names (table_of c.args.table) c.requires.actors)

pub returns-in_default : goal.returns-in_default
returns-in_default c = untold own_hash (table_of c.args.table) (subst (TellsIds c.args.table.rows.now) c.in_default.is c.in_ok-told.ensures)

pub returns-then-not-branch : goal.returns-then-not-branch
returns-then-not-branch c =
    let t = table_of c.args.table in
    unbuilt own_hash t c.build_from.new.gathered c.in_ok-build_from.field-0 (c.in_ok-build_from.ensures t c.in_ok-all.ensures.are refl) c.if-not-branch.true

pub returns-then-ids-operation_count : goal.returns-then-ids-operation_count
returns-then-ids-operation_count c =
    let t = table_of c.args.table in
    let R = c.build_from.new.gathered in
    let told = subst (TellsIds c.args.table.rows.now) c.in-Some.is c.in_ok-told.ensures in
    other own_hash t R (built own_hash t R c.in_ok-build_from.field-0 (c.in_ok-build_from.ensures t c.in_ok-all.ensures.are refl) c.if-not-branch.false)
    (λ h. c.if-ids-operation_count.true ((told _).1 h ∙ sym c.operation_count.ensures))

pub returns-in-None : goal.returns-in-None
returns-in-None c =
    let t = table_of c.args.table in
    let R = c.build_from.new.gathered in
    let told = subst (TellsIds c.args.table.rows.now) c.in-Some.is c.in_ok-told.ensures in (
      the_history own_hash t R (built own_hash t R c.in_ok-build_from.field-0 (c.in_ok-build_from.ensures t c.in_ok-all.ensures.are refl) c.if-not-branch.false)
          ((told _).0 (c.if-ids-operation_count.false ∙ c.operation_count.ensures))
          (c.actors_ascend.ensures.0 c.if-not-actors_ascend.false)
          c.requires.actors,
      sym c.in_ok-heads.ensures ∙ sym c.as_slice.ensures ∙ none_apart c.as_slice.result.now c.args.table.heads.now (sym c.first_apart.ensures ∙ c.in-None.is),
    )

pub returns : goal.returns
returns c =
    let t = table_of c.args.table in
    let R = c.build_from.new.gathered in
    let told = subst (TellsIds c.args.table.rows.now) c.in-Some.is c.in_ok-told.ensures in
    let h =
    the_history own_hash t R (built own_hash t R c.in_ok-build_from.field-0 (c.in_ok-build_from.ensures t c.in_ok-all.ensures.are refl) c.if-not-branch.false)
    ((told _).0 (c.if-ids-operation_count.false ∙ c.operation_count.ensures))
    (c.actors_ascend.ensures.0 c.if-not-actors_ascend.false)
    c.requires.actors in (
      h,
      apart_heads R h.history.valid c.as_slice.result.now c.args.table.heads.now c.in-Some-first_apart.hash (c.as_slice.ensures ∙ c.in_ok-heads.ensures) c.requires.heads (sym c.first_apart.ensures ∙ c.in-Some-first_apart.is),
    )
