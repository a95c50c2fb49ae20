use Rattle.std.proofs.Common.{◌∷◌, ◌++◌, [], take, sym, ap, ◌∙◌, append_assoc}
use Rattle.am_runs.specs.Listing.{spelled}
use Rattle.am_runs.proofs.Listing.{spelled_next}
use Rattle.am_runs.proofs.list.spell_all.Goals as goal

pub loop-value-preserved : goal.loop-value-preserved
loop-value-preserved g c =
    let f = g.K.Spells.spelling in
    let done = spelled f (take c.loop-value.value-index c.args.values.now) in
    let one = spelled f (c.value-item.result ∷ []) in
    c.in_ok-spell_one.ensures
    ∙ ap (λ b. b ++ one) c.loop-value.invariant
    ∙ append_assoc c.args.out.now.items done one
    ∙ ap (λ b. c.args.out.now.items ++ b) (sym (spelled_next f c.args.values.now c.loop-value.value-index c.value-item.result c.loop-value-test.true c.value-item.is))
