use Rattle.std.proofs.Common.{ℕ, List, ◌<◌, ◌^◌, All, IsTrue, sym, ◌∙◌, subst}
use Rattle.std.proofs.lemmas.List.Elements.{recursion_from_All}
use Rattle.std.specs.List.{AllByRecursion}
use Rattle.am_types.specs.declared.Hash.{Hash}
use Rattle.am_types.specs.declared.Meta.{Meta}
use Rattle.am_types.specs.declared.Table.{Table}
use Rattle.am_types.specs.Order.{bytes_cmp, hash_cmp, among, Ascends}
use Rattle.am_fields.specs.Limits.{IsShortActor}
use Rattle.am_change.specs.Hashes.{own_hash}
use Rattle.am_histories.specs.Laws.{table_actors}
use Rattle.am_rebuild.specs.Judged.{IsJudged}
use Rattle.am_rebuild.proofs.Documents.{authors_of, maxes_of, actors_of, read_is_bare, no_memory}
use Rattle.am_rebuild.proofs.document.answered.Goals as goal

pub actors_in-requires : goal.actors_in-requires
actors_in-requires c = subst (λ (actors : List (List ℕ)). AllByRecursion IsShortActor actors) (sym c.actors.ensures) (recursion_from_All IsShortActor c.args.doc.now.actors (c.requires).short)

pub metas_in-requires : goal.metas_in-requires
metas_in-requires c = subst (λ (ms : List Meta). AllByRecursion (λ (m : Meta). IsShortActor m.actor) ms) (sym c.metas.ensures) (authors_of c.args.doc.now c.requires)

pub judge_lent-requires-clause-maxes : goal.judge_lent-requires-clause-maxes
judge_lent-requires-clause-maxes c =
    subst (λ (ms : List Meta). All (λ (m : Meta). m.max < 2 ^ 53) ms) (sym (c.as_slice-3.ensures ∙ c.in_ok-metas.ensures ∙ c.metas.ensures)) (maxes_of c.args.doc.now c.requires)

pub judge_lent-requires-clause-heads : goal.judge_lent-requires-clause-heads
judge_lent-requires-clause-heads c = subst (λ (hs : List Hash). Ascends hash_cmp hs) (sym (c.as_slice-2.ensures ∙ c.in_ok-heads.ensures)) (c.requires).heads

pub judge_lent-requires-clause-actors : goal.judge_lent-requires-clause-actors
judge_lent-requires-clause-actors c =
    let t : Table = c.args.doc.now in
    let is =
    read_is_bare t c.as_slice.result.now c.as_slice-2.result.now c.as_slice-3.result.now c.deref.result.now (c.as_slice.ensures ∙ c.in_ok-actors.ensures ∙ c.actors.ensures)
    (c.as_slice-2.ensures ∙ c.in_ok-heads.ensures) (c.as_slice-3.ensures ∙ c.in_ok-metas.ensures ∙ c.metas.ensures) (c.deref.ensures.value ∙ c.in_ok-rows.ensures ∙ c.rows.ensures) in
    subst (λ (t : Table). All (λ a. IsTrue (among bytes_cmp t.actors a)) (table_actors t)) (sym is) (actors_of t c.requires)

pub returns-clause-judged : goal.returns-clause-judged
returns-clause-judged c =
    let t : Table = c.args.doc.now in
    let is =
    read_is_bare t c.as_slice.result.now c.as_slice-2.result.now c.as_slice-3.result.now c.deref.result.now (c.as_slice.ensures ∙ c.in_ok-actors.ensures ∙ c.actors.ensures)
    (c.as_slice-2.ensures ∙ c.in_ok-heads.ensures) (c.as_slice-3.ensures ∙ c.in_ok-metas.ensures ∙ c.metas.ensures) (c.deref.ensures.value ∙ c.in_ok-rows.ensures ∙ c.rows.ensures) in
    c.answer.ensures.judged t (subst (λ (t : Table). IsJudged own_hash t c.judge_lent.new.gathered c.in_ok-judgement.judgement) is c.in_ok-judgement.ensures)

pub returns-clause-own_hashes : goal.returns-clause-own_hashes
returns-clause-own_hashes c =
    let t : Table = c.args.doc.now in
    let is =
    read_is_bare t c.as_slice.result.now c.as_slice-2.result.now c.as_slice-3.result.now c.deref.result.now (c.as_slice.ensures ∙ c.in_ok-actors.ensures ∙ c.actors.ensures)
    (c.as_slice-2.ensures ∙ c.in_ok-heads.ensures) (c.as_slice-3.ensures ∙ c.in_ok-metas.ensures ∙ c.metas.ensures) (c.deref.ensures.value ∙ c.in_ok-rows.ensures ∙ c.rows.ensures) in
    c.answer.ensures.own_hashes t (subst (λ (t : Table). IsJudged own_hash t c.judge_lent.new.gathered c.in_ok-judgement.judgement) is c.in_ok-judgement.ensures)

pub returns-clause-may_come : goal.returns-clause-may_come
returns-clause-may_come c =
    let t : Table = c.args.doc.now in
    let is =
    read_is_bare t c.as_slice.result.now c.as_slice-2.result.now c.as_slice-3.result.now c.deref.result.now (c.as_slice.ensures ∙ c.in_ok-actors.ensures ∙ c.actors.ensures)
    (c.as_slice-2.ensures ∙ c.in_ok-heads.ensures) (c.as_slice-3.ensures ∙ c.in_ok-metas.ensures ∙ c.metas.ensures) (c.deref.ensures.value ∙ c.in_ok-rows.ensures ∙ c.rows.ensures) in
    c.answer.ensures.may_come t (subst (λ (t : Table). IsJudged own_hash t c.judge_lent.new.gathered c.in_ok-judgement.judgement) is c.in_ok-judgement.ensures)

pub returns-in_err-judgement-clause-judged : goal.returns-in_err-judgement-clause-judged
returns-in_err-judgement-clause-judged c = no_memory c.args.doc.now c.from_residual-in_err-judgement.result c.from_residual-in_err-judgement.ensures.1
