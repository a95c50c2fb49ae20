use Rattle.std.proofs.Common.{◌≤◌, ◌<◌, ◌^◌, ℕ, List, length, arith, refl, sym, ap, subst}
use Rattle.std.specs.Prelude.{All, IsUtf8}
use Rattle.am_types.specs.declared.Op.{Op}
use Rattle.am_types.specs.Actors.{IsActor}
use Rattle.am_types.specs.Bytes.{IsBytes, IsHash}
use Rattle.am_types.specs.Fine.{FineOp, pred_count}
use Rattle.am_types.specs.Order.{hash_cmp, Ascends}
use Rattle.am_change.proofs.OneByOne.{all_read, all_given}
use Rattle.am_change.proofs.fine.is_fine.Goals as goal

pub returns-then-has_few_preds : goal.returns-then-has_few_preds
returns-then-has_few_preds g c =
    let ops = c.ops-then-has_few_preds.result.now in
    let same = c.ops-then-has_few_preds.ensures in (
      λ e. record {
        deps = subst (All IsHash) c.deps.ensures c.hashes_known.ensures;
        deps_ascend = subst (Ascends hash_cmp) c.deps-else-not-are_few.ensures (c.if-not-hashes_ascend.ensures.0 refl);
        few_deps = omega (arith, c.if-not-are_few.ensures.0 refl, ap length c.deps-2.ensures);
        actor = subst IsActor c.actor.ensures c.as_slice-actor.ensures.allowed;
        numbers = c.if-not-has_good_numbers.ensures.0 refl;
        message = subst IsUtf8 c.message.ensures c.str_known.ensures;
        extra = subst IsBytes c.extra.ensures c.slice_known.ensures;
        short_extra = subst (λ (bytes : List ℕ). length bytes < 2 ^ 60) c.extra-else-not-has_good_numbers.ensures (c.if-not-is_short.ensures.0 refl);
        few_preds = subst (λ (os : List Op). pred_count os ≤ 2 ^ 22) c.ops.ensures (c.if-has_few_preds.ensures.0 refl);
        ops = subst (All FineOp) same (all_read FineOp g.C.Op.ReadOp.op ops (c.are_fine_ops.ensures.0 e));
      },
      λ fine. c.are_fine_ops.ensures.1 (all_given FineOp g.C.Op.ReadOp.op ops (subst (All FineOp) (sym same) fine.ops)),
    )
