use Rattle.std.proofs.Common.{◌≡◌, ◌-◌, ◌∙◌, ◌∷◌, ◌++◌, [], ap, arith, append_assoc, drop, filter, map, reverse, sym}
use Rattle.am_places.specs.Numbered.{operation_of}
use Rattle.am_merge.specs.Mentions.{mentioned}
use Rattle.am_merge.specs.Naming.{references}
use Rattle.am_merge.specs.Walk.{gives_value}
use Rattle.am_merge.proofs.Backwards.{drop_less, one_before}
use Rattle.am_merge.proofs.mentions.push_values.Goals as goal

pub loop-i-preserved : goal.loop-i-preserved
loop-i-preserved c =
    let xs = c.args.operations.now in
    let m = c.loop-i.i in
    let x = c.index-operations-i.result in
    let before = map mentioned c.args.all.now.items in
    let behind = map operation_of (drop m xs) in
    let less : drop (m - 1) xs ≡ x ∷ drop m xs = drop_less xs m x (omega (arith, c.loop-i-test.true)) (omega (arith, c.loop-i.auto.i)) c.index-operations-i.is in
    c.in_ok-push_value.ensures
    ∙ ap (λ l. l ++ references (filter gives_value (operation_of x ∷ []))) c.loop-i.invariant
    ∙ append_assoc before (references (filter gives_value (reverse behind))) (references (filter gives_value (operation_of x ∷ [])))
    ∙ ap (λ l. before ++ l) (sym (one_before gives_value behind (operation_of x)) ∙ ap (λ ys. references (filter gives_value (reverse (map operation_of ys)))) (sym less))
