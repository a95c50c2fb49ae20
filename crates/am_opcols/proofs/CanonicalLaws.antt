-- What fine operations hold may be written.
use Rattle.std.proofs.Common.{◌≡◌, ◌+◌, List, [], ◌∷◌, length, map, refl, sym, ap, ◌∙◌}
use Rattle.std.specs.Prelude.{All}
use Rattle.std.specs.List.{AllByRecursion}
use Rattle.std.proofs.lemmas.List.{length-append}
use Rattle.std.proofs.lemmas.List.Elements.{All-head, All-tail, recursion_from_All}
use Rattle.am_types.specs.declared.Op.{Op}
use Rattle.am_types.specs.Fine.{IsId, IsKey, FineOp, pred_count}
use Rattle.am_delta.specs.Deltas.{AreMiddling}
use Rattle.am_values.specs.Columns.{AllGood}
use Rattle.am_fields.specs.Layout.{key_counter, id_counter, flat}
use Rattle.am_fields.proofs.CanonicalLaws as fields
use Rattle.am_fields.proofs.Lists.{all-append}
use Rattle.am_opcols.proofs.WriteLaws.{pred_count-cons}

keys_fine : (ops : List Op) → All FineOp ops → AllByRecursion IsKey (map (λ o. o.key) ops)
keys_fine [] all = tt
keys_fine (o ∷ ops) all = ((All-head FineOp o ops all).key, keys_fine ops (All-tail FineOp o ops all))

pub keys_middling : (ops : List Op) → All FineOp ops → AreMiddling (map key_counter (map (λ o. o.key) ops))
keys_middling ops all = fields.keys_middling (map (λ o. o.key) ops) (keys_fine ops all)

preds_fine : (ops : List Op) → All FineOp ops → AllByRecursion IsId (flat (map (λ o. o.preds) ops))
preds_fine [] all = tt
preds_fine (o ∷ ops) all =
    all-append IsId o.preds (flat (map (λ o. o.preds) ops)) (recursion_from_All IsId o.preds (All-head FineOp o ops all).preds) (preds_fine ops (All-tail FineOp o ops all))

pub preds_middling : (ops : List Op) → All FineOp ops → AreMiddling (map id_counter (flat (map (λ o. o.preds) ops)))
preds_middling ops all = fields.ids_middling (flat (map (λ o. o.preds) ops)) (preds_fine ops all)

pub values_good : (ops : List Op) → All FineOp ops → AllGood (map (λ o. o.value) ops)
values_good [] all = tt
values_good (o ∷ ops) all = ((All-head FineOp o ops all).value, values_good ops (All-tail FineOp o ops all))

pub length-preds : (ops : List Op) → length (flat (map (λ o. o.preds) ops)) ≡ pred_count ops
length-preds [] = refl
length-preds (o ∷ ops) = length-append o.preds (flat (map (λ o. o.preds) ops)) ∙ ap (λ n. length o.preds + n) (length-preds ops) ∙ sym (pred_count-cons o ops)
