use Rattle.std.proofs.Common.{◌≡◌, ◌∙◌, cond, Some, true, false, sym, ap}
use Rattle.std.specs.Map.{lookup}
use Rattle.std.specs.Prelude.{is_some}
use Rattle.std.proofs.lemmas.Cmp.{nat_list_eq_equiv}
use Rattle.am_types.specs.Same.{same_bytes}
use Rattle.am_graph.proofs.TextMaps.{is_text, looked_up, inserted}
use Rattle.am_rebuild.specs.Gathered.{last_in, has_last}
use Rattle.am_rebuild.proofs.Noted.{entered}
use Rattle.am_rebuild.proofs.lasts.make_room.Goals as goal

pub returns-then-contains_key-clause-room : goal.returns-then-contains_key-clause-room
returns-then-contains_key-clause-room c = sym (ap is_some (looked_up c.args.actor.now c.args.lasts.now.entries)) ∙ sym c.contains_key.ensures ∙ c.if-contains_key.true

-- the name was not there
absent : (c : goal.In_ok-insert) → has_last c.args.lasts.now.entries c.in_ok-name.name.items ≡ false
absent c = ap (has_last c.args.lasts.now.entries) c.in_ok-name.ensures.items ∙ sym (ap is_some (looked_up c.args.actor.now c.args.lasts.now.entries)) ∙ sym c.contains_key.ensures ∙ c.if-contains_key.false

pub returns-clause-same : goal.returns-clause-same
returns-clause-same c a = ap (λ l. last_in l a) c.in_ok-insert.ensures.entries ∙ entered c.args.lasts.now.entries c.in_ok-name.name a (absent c)

pub returns-clause-room : goal.returns-clause-room
returns-clause-room c =
    let same : same_bytes c.args.actor.now c.in_ok-name.name.items ≡ true = ap (same_bytes c.args.actor.now) c.in_ok-name.ensures.items ∙ nat_list_eq_equiv.refl c.args.actor.now in
    ap (λ l. has_last l c.args.actor.now) c.in_ok-insert.ensures.entries ∙ ap is_some (inserted c.args.lasts.now.entries c.in_ok-name.name 0 c.args.actor.now)
    ∙ ap (λ b. is_some (cond b (Some 0) (lookup (is_text c.args.actor.now) c.args.lasts.now.entries))) same
