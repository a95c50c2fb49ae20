use Rattle.std.proofs.Common.{◌++◌, ◌∷◌, [], refl, sym, subst}
use Rattle.am_types.specs.EntryOrder.{IsInOrder}
use Rattle.am_types.specs.Views.{entry_of}
use Rattle.am_json.specs.Stretches.{bare, spread}
use Rattle.am_json.proofs.Spread.{spread-append}
use Rattle.am_json.proofs.blocks.Entries.push.Goals as goal

pub invariant_of-self-2 : goal.invariant_of-self-2
invariant_of-self-2 c =
    let e = entry_of c.args.entry in
    let own = c.self.inside.list.items in
    let order : IsInOrder (spread own ++ e ∷ []) = subst (λ ss. IsInOrder (spread ss ++ e ∷ [])) (sym c.self.view_is) c.requires in
    let order_too : IsInOrder (spread (own ++ bare e ∷ [])) = subst IsInOrder (sym (spread-append own (bare e ∷ []))) order in
    rw (c.push_reserved.ensures.items, c.in_ok-make_ready.ensures.list, c.of.ensures) (c.in_ok-make_ready.ensures.ok (bare e) refl order_too)
