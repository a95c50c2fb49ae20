use Rattle.std.proofs.Common.{◌++◌, ◌∷◌, [], refl, sym, subst}
use Rattle.am_types.specs.EntryOrder.{IsInOrder}
use Rattle.am_types.specs.Views.{entry_of}
use Rattle.am_json.specs.Stretches.{Stretch, spread}
use Rattle.am_json.proofs.Spread.{spread-append}
use Rattle.am_json.proofs.blocks.Entries.push_run.Goals as goal

pub invariant_of-self-2 : goal.invariant_of-self-2
invariant_of-self-2 c =
    let s : Stretch = record { letters = c.args.stands.entries; bytes = c.args.letters.now; entry = entry_of c.args.entry } in
    let own = c.self.inside.list.items in
    let order : IsInOrder (spread own ++ (s.letters ++ s.entry ∷ [])) = subst (λ ss. IsInOrder (spread ss ++ (s.letters ++ s.entry ∷ []))) (sym c.self.view_is) c.requires.order in
    let order_too : IsInOrder (spread (own ++ s ∷ [])) = subst IsInOrder (sym (spread-append own (s ∷ []))) order in
    rw (c.push_reserved.ensures.items, c.in_ok-make_ready.ensures.list, c.behind.ensures) (c.in_ok-make_ready.ensures.ok s refl order_too)
