use Rattle.std.specs.Map.Iter.{deref_pair}
use Rattle.std.proofs.Common.{◌≡◌, ◌∙◌, ◌<◌, ◌++◌, ◌∷◌, [], option_map, length, get_or, take, ap, sym, arith}
use Rattle.std.proofs.lemmas.Option.{get_or_from_slice_get}
use Rattle.indexmap.specs.IndexMap.{insert_entry}
use Rattle.am_types.specs.contracts.hash.HashPartialEq.TheImpl as equality
use Rattle.am_graph.proofs.Copying.{fresh_next}
use Rattle.am_graph.proofs.Held.{entries_pushed}
use Rattle.am_graph.proofs.Named.{take_one}
use Rattle.am_graph.proofs.copy.copy_changes.Goals as goal

pub loop-i-preserved : goal.loop-i-preserved
loop-i-preserved c =
    let g = c.args.held.now.entries in
    let i = c.loop-i.i in
    let hash = c.unwrap.result.0.now in
    let node = c.unwrap.result.1.now in
    let low : i < length g = (let t = c.loop-i-test.true in let e = c.len-i-end.ensures.len in omega arith) in
    let at : get_or g i (hash, node) ≡ (hash, node) = get_or_from_slice_get g i (hash, node) (hash, node) (sym c.get_index.ensures.entry ∙ ap (option_map deref_pair) c.unwrap.ensures) in
    c.in_ok-insert.ensures.entries
    ∙ (λ t. insert_entry equality.eq-value.it (c.loop-i.invariant t) hash (c.in_ok-copy.ensures t))
    ∙ entries_pushed (take i g) hash node (fresh_next g c.requires i (hash, node) low at)
    ∙ ap (λ e. take i g ++ e ∷ []) (sym at)
    ∙ sym (take_one g i (hash, node) low)
