use Rattle.std.proofs.Common.{suc, ◌≡◌, ◌+◌, ◌++◌, ◌∷◌, [], take, sym, ap, ◌∙◌, arith}
use Rattle.am_rebuild.proofs.Entries.{take_next}
use Rattle.am_rebuild.proofs.document.heads_in.Goals as goal

pub loop-i-preserved : goal.loop-i-preserved
loop-i-preserved c =
    let heads = c.args.doc.now.heads in
    let next : suc c.loop-i.i ≡ c.loop-i.i + 1 = omega arith in
    c.in_ok-push-in-Some.ensures.ok ∙ ap (λ l. l ++ c.in-Some.hash ∷ []) c.loop-i.invariant ∙ sym (take_next heads c.loop-i.i c.in-Some.hash (sym c.head.ensures ∙ c.in-Some.is)) ∙ ap (λ n. take n heads) next
