use Rattle.std.proofs.Common.{suc, length, rules, arith, sym, subst, ◌∙◌, add-one}
use Rattle.std.specs.Ordering.{is_lt}
use Rattle.std.proofs.lemmas.List.Sorted.{IsPartitionPoint-from_clause}
use Rattle.am_types.specs.Order.{object_cmp}
use Rattle.am_types.specs.Views.{object_of}
use Rattle.am_json.specs.declared.blocks.Block.{Block}
use Rattle.am_json.specs.Stretches.{AreApart}
use Rattle.am_json.proofs.KeptLaws.{apart_drop, apart_take}
use Rattle.am_json.proofs.Parted.{partitioned, missing, found, start_bound, place_is}
use Rattle.am_json.proofs.blocks.entries_in.Goals as goal

pub returns-then-not-is_of-clause-own : goal.returns-then-not-is_of-clause-own
returns-then-not-is_of-clause-own c =
    let o = object_of c.args.object in
    let bs = c.args.blocks.now in
    let es = c.args.list.now in
    let point = IsPartitionPoint-from_clause (λ (b : Block). is_lt (object_cmp (object_of b.object) o)) _ _ c.partition_point-place.ensures.partitioned (partitioned bs es c.requires o) (λ a r q k. search rules) in
    missing bs es c.requires o c.partition_point-place.result c.partition_point-place.ensures.bound point (sym c.is_of.ensures ∙ c.if-not-is_of.true)

pub between-requires : goal.between-requires
between-requires c =
    let bs = c.args.blocks.now in
    let es = c.args.list.now in
    let j = c.partition_point-place.result in
    let is = place_is j (length bs) _ (sym c.is_of.ensures ∙ c.if-not-is_of.false) in
    let up = c.requires.some j is.0 in
    let bound = start_bound bs es c.requires (suc j) in
    rw (c.start_of-start.ensures, c.start_of-end.ensures, add-one) (record { start = omega (arith, up); end = bound })

pub returns-clause-own : goal.returns-clause-own
returns-clause-own c =
    let o = object_of c.args.object in
    let bs = c.args.blocks.now in
    let es = c.args.list.now in
    let j = c.partition_point-place.result in
    let is = place_is j (length bs) _ (sym c.is_of.ensures ∙ c.if-not-is_of.false) in
    let point = IsPartitionPoint-from_clause (λ (b : Block). is_lt (object_cmp (object_of b.object) o)) _ _ c.partition_point-place.ensures.partitioned (partitioned bs es c.requires o) (λ a r q k. search rules) in
    let here = found bs es c.requires o j c.partition_point-place.ensures.bound point is.0 is.1 in
    c.between.ensures ∙ rw (c.start_of-start.ensures, c.start_of-end.ensures, add-one) here

pub returns-clause-apart : goal.returns-clause-apart
returns-clause-apart c = λ h. subst AreApart (sym c.between.ensures) (apart_take _ _ (apart_drop _ _ h))
