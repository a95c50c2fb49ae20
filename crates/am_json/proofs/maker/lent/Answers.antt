use Rattle.std.proofs.Common.{◌≡◌, ◌+◌, ◌∷◌, ◌++◌, [], map, take, drop, sym, ap, ◌∙◌, subst}
use Rattle.std.proofs.lemmas.List.{take_more, take-append-drop, map-append}
use Rattle.am_types.specs.declared.Entry.{Entry}
use Rattle.am_types.specs.EntryOrder.{IsInOrder}
use Rattle.am_json.specs.Stretches.{bare, spread}
use Rattle.am_json.proofs.Ordered.{order_front}
use Rattle.am_json.proofs.Spread.{spread-bare}
use Rattle.am_json.proofs.maker.lent.Goals as goal

pub push-requires : goal.push-requires
push-requires c =
    let es = c.args.entries.now in
    let i = c.loop-entry.entry-index in
    let x = c.entry-item.result in
    let front : IsInOrder (take (i + 1) es) = order_front (take (i + 1) es) (drop (i + 1) es) (subst IsInOrder (sym (take-append-drop (i + 1) es)) c.requires) in
    let more : take (i + 1) es ≡ take i es ++ x ∷ [] = take_more es i x c.loop-entry-test.true ∙ ap (λ (y : Entry). take i es ++ y ∷ []) (sym c.entry-item.is) in
    let own : spread c.loop-entry.list ≡ take i es = ap spread c.loop-entry.invariant ∙ spread-bare (take i es) in
    rw (own, c.lend.ensures) (subst IsInOrder more front)

pub loop-entry-preserved : goal.loop-entry-preserved
loop-entry-preserved c =
    let es = c.args.entries.now in
    let i = c.loop-entry.entry-index in
    let x = c.entry-item.result in
    let more : take (i + 1) es ≡ take i es ++ x ∷ [] = take_more es i x c.loop-entry-test.true ∙ ap (λ (y : Entry). take i es ++ y ∷ []) (sym c.entry-item.is) in
    c.in_ok-push.ensures.ok
    ∙ (ap (λ (e : Entry). c.loop-entry.list ++ bare e ∷ []) c.lend.ensures
    ∙ (ap (λ ss. ss ++ bare x ∷ []) c.loop-entry.invariant
    ∙ (sym (map-append bare (take i es) (x ∷ [])) ∙ ap (map bare) (sym more))))
