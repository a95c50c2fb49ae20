use Rattle.std.proofs.Common.{◌≡◌, ◌+◌, ◌++◌, ◌∷◌, [], take, false, ap, ◌∙◌}
use Rattle.am_types.specs.Views.{entry_of}
use Rattle.am_json.specs.Held.{Held}
use Rattle.am_text_tests.proofs.Pushed.{next_pushed, next_in_order}
use Rattle.am_text_tests.proofs.json.lent_text_of.Goals as goal

pub push-requires : goal.push-requires
push-requires c =
    let before : c.loop-entry.maker.entries ≡ take c.loop-entry.entry-index c.args.entries.now = ap (λ (h : Held). h.entries) c.loop-entry.invariant in
    rw (before, c.lend.ensures) (next_in_order c.args.entries.now c.loop-entry.entry-index c.entry-item.result c.loop-entry-test.true c.entry-item.is c.requires)

pub loop-entry-preserved : goal.loop-entry-preserved
loop-entry-preserved c =
    let before : c.loop-entry.maker.entries ≡ take c.loop-entry.entry-index c.args.entries.now = ap (λ (h : Held). h.entries) c.loop-entry.invariant in
    let form : c.loop-entry.maker.form ≡ c.args.form = ap (λ (h : Held). h.form) c.loop-entry.invariant in
    let entries : c.loop-entry.maker.entries ++ entry_of c.lend.result ∷ [] ≡ take (c.loop-entry.entry-index + 1) c.args.entries.now =
    rw (before, c.lend.ensures) (next_pushed c.args.entries.now c.loop-entry.entry-index c.entry-item.result c.loop-entry-test.true c.entry-item.is) in
    c.in_ok-push.ensures.ok ∙ (λ j. record { form = form j; entries = entries j; failed = false })
