use Rattle.std.proofs.Common.{rules, ◌≡◌, true, false, get_or, sym, ap, ◌∙◌}
use Rattle.std.specs.BTreeSet.{contains}
use Rattle.am_types.specs.declared.Hash.{Hash}
use Rattle.am_types.specs.declared.Change.{Change}
use Rattle.am_types.specs.Order.{hash_cmp}
use Rattle.am_store.proofs.Picking.{more_among}
use Rattle.am_store.proofs.lists.changes_among.Goals.{then-contains+in_ok-change+in_ok-push, else-contains}
use Rattle.am_store.proofs.lists.changes_among.Goals as goal

pub loop-entry-preserved : goal.loop-entry-preserved
loop-entry-preserved c =
    let hs = c.args.hashes.now in
    let es = c.args.entries.now in
    let i = c.loop-entry.entry-index in
    let d = c.entry-item.result in
    let item : d ≡ get_or es i d = search rules in
    let wanted = c.in_ok-wanted.wanted in
    let moved : contains hash_cmp wanted (get_or es i d).0 ≡ contains hash_cmp wanted d.0 = ap (λ (e : Hash × Change). contains hash_cmp wanted e.0) (sym item) in
    elim c.if-contains.branch [
      | then-contains+in_ok-change+in_ok-push w ↦
          let here : contains hash_cmp wanted d.0 ≡ true = sym c.contains.ensures ∙ w.if-contains.true in
          more_among hs es i d c.loop-entry-test.true true (sym (c.in_ok-wanted.ensures (get_or es i d).0) ∙ moved ∙ here) c.loop-entry.list c.if-contains.list c.loop-entry.invariant (search rules)
      | else-contains w ↦
          let here : contains hash_cmp wanted d.0 ≡ false = sym c.contains.ensures ∙ w.if-contains.false in
          more_among hs es i d c.loop-entry-test.true false (sym (c.in_ok-wanted.ensures (get_or es i d).0) ∙ moved ∙ here) c.loop-entry.list c.if-contains.list c.loop-entry.invariant (search rules)
    ]
