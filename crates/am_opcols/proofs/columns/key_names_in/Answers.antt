use Rattle.std.proofs.Common.{◌≡◌, ◌+◌, ◌≤◌, ◌^◌, ◌∷◌, ◌++◌, [], ℕ, List, Option, None, length, map, take, option_map, arith, sym, ap, ◌∙◌, subst}
use Rattle.am_types.specs.declared.Op.{Op}
use Rattle.am_fields.specs.Layout.{key_string}
use Rattle.am_fields.specs.Columns.{texts_bytes}
use Rattle.am_fields.proofs.WriteLaws.{held}
use Rattle.am_fields.proofs.CanonicalLaws.{texts_canonical}
use Rattle.am_opcols.specs.Counting.{Counts}
use Rattle.am_opcols.proofs.WriteLaws.{field_read, all_read, length_fields, ok_then}
use Rattle.am_opcols.proofs.CountingLaws.{counts_none, counts_below, counts_fit, counts_written}
use Rattle.am_opcols.proofs.columns.key_names_in.Goals as goal

pub count_text-requires-clause-room : goal.count_text-requires-clause-room
count_text-requires-clause-room g c =
    let done = take c.loop-op.op-index (map g.O.ReadOp.op c.args.ops.now) in
    counts_below (map (λ o. key_string o.key) done) c.loop-op.writer None c.loop-op.nulls (2 ^ 32) c.loop-op.invariant.counts
    (omega (arith, c.loop-op-test.true, length_fields g.O.ReadOp.op (λ o. key_string o.key) c.args.ops.now c.loop-op.op-index (omega arith), c.requires))

pub loop-op-init : goal.loop-op-init
loop-op-init g c = record { few = omega arith; counts = counts_none c.new-writer.result None c.new-writer.ensures }

pub loop-op-preserved : goal.loop-op-preserved
loop-op-preserved g c =
    let i : ℕ = c.loop-op.op-index in
    let ops = map g.O.ReadOp.op c.args.ops.now in
    let done = take i ops in
    let inv = c.loop-op.invariant in
    let item : Option (List ℕ) = option_map (λ s. s.now) c.key_name-name.result in
    let next : map (λ o. key_string o.key) (take (i + 1) ops) ≡ map (λ o. key_string o.key) done ++ item ∷ [] =
    field_read g.O.ReadOp.op (λ o. key_string o.key) c.args.ops.now i c.op-item.result c.loop-op-test.true c.op-item.is ∙ ap (λ z. map (λ o. key_string o.key) done ++ z ∷ []) (sym (c.key_name-name.ensures ∙ ap key_string c.key.ensures)) in
    record {
      few = let more = c.in_ok-count_text.ensures.few in omega (arith, inv.few);
      counts = subst (λ (zs : List (Option (List ℕ))). Counts zs c.count_text.new.writer None c.count_text.new.nulls) (sym next) (c.in_ok-count_text.ensures.counts (map (λ o. key_string o.key) done) inv.counts);
    }

pub push_alike-requires : goal.push_alike-requires
push_alike-requires g c =
    let done = take c.loop-op.op-index (map g.O.ReadOp.op c.args.ops.now) in
    counts_fit (map (λ o. key_string o.key) done) c.loop-op.writer None c.loop-op.nulls (2 ^ 32) c.loop-op.invariant.counts
    (omega (arith, length_fields g.O.ReadOp.op (λ o. key_string o.key) c.args.ops.now c.loop-op.op-index (omega arith), c.requires))

pub finish-requires : goal.finish-requires
finish-requires g c =
    let done = take c.loop-op.op-index (map g.O.ReadOp.op c.args.ops.now) in
    held c.push_alike.new.self (map (λ o. key_string o.key) done) (λ (xs : List (Option (List ℕ))). length xs ≤ 2 ^ 32)
    (counts_written (map (λ o. key_string o.key) done) c.loop-op.writer c.push_alike.new.self None c.loop-op.nulls c.loop-op.invariant.counts c.in_ok-push_alike.ensures.ok)
    (omega (arith, length_fields g.O.ReadOp.op (λ o. key_string o.key) c.args.ops.now c.loop-op.op-index (omega arith), c.requires))

pub returns : goal.returns
returns g c =
    let ops = map g.O.ReadOp.op c.args.ops.now in
    let done = take c.loop-op.op-index ops in
    let all : done ≡ ops = all_read g.O.ReadOp.op c.args.ops.now c.loop-op.op-index (omega arith) in
    ok_then c.finish.result _ _ (λ bytes h.
    texts_canonical c.push_alike.new.self (map (λ o. key_string o.key) done) bytes
    (counts_written (map (λ o. key_string o.key) done) c.loop-op.writer c.push_alike.new.self None c.loop-op.nulls c.loop-op.invariant.counts c.in_ok-push_alike.ensures.ok) h
    ∙ ap (λ (zs : List Op). texts_bytes (map (λ o. key_string o.key) zs)) all) c.finish.ensures.ok
