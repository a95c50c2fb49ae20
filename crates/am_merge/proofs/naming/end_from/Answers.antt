use Rattle.std.proofs.Common.{rules, ◌≡◌, ◌<◌, true, length, slice_index_or, subst, sym, ◌∙◌, inl, inr, arith}
use Rattle.std.proofs.lemmas.List.{get_or_default}
use Rattle.std.specs.Ordering.{is_le}
use Rattle.std.proofs.lemmas.Bool.{cases_lt}
use Rattle.am_types.specs.Views.{id_of, object_of}
use Rattle.am_merge.specs.Naming.{key_cmp, named_key, named_of}
use Rattle.am_merge.proofs.naming.end_from.Goals as goal

pub loop-last-preserved : goal.loop-last-preserved
loop-last-preserved c = record {
  order = omega (arith, c.loop-last.invariant.order);
  bound = search rules;
  within = λ k d a b. elim (cases_lt k c.loop-last.last) [
    | inl l ↦ c.loop-last.invariant.within k d a l
    | inr g ↦ (
        let e : c.loop-last.last ≡ k = omega arith in
        let low : c.loop-last.last < length c.args.table.now = search rules in
        let read = c.index-table-last.is ∙ get_or_default c.args.table.now c.loop-last.last c.index-table-last.result d low in
        let at = subst (λ n. is_le (key_cmp (named_key (named_of n)) (object_of c.args.obj, id_of c.args.id)) ≡ true) read (sym c.names_up_to.ensures ∙ c.if-names_up_to.true) in
        subst (λ j. is_le (key_cmp (named_key (named_of (slice_index_or c.args.table.now j d))) (object_of c.args.obj, id_of c.args.id)) ≡ true) e at)
  ];
}
