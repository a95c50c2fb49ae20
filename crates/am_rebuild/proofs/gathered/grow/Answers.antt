use Rattle.std.proofs.Common.{◌≡◌, List, [], ◌∷◌, ◌++◌, cond, sym, ap, ◌∙◌, subst}
use Rattle.std.specs.Prelude.{max as larger}
use Rattle.am_types.specs.declared.Hash.{Hash}
use Rattle.am_types.specs.declared.Change.{Change}
use Rattle.am_types.specs.Same.{same_bytes}
use Rattle.am_types.specs.Members.{Member}
use Rattle.am_types.specs.ValidSets.{Joins}
use Rattle.am_delivery.specs.Waiting.{member_of}
use Rattle.am_rebuild.specs.Gathered.{last_in}
use Rattle.am_rebuild.proofs.Grown.{gathered_more}
use Rattle.am_rebuild.proofs.gathered.grow.Goals as goal

pub invariant_of-gathered-2 : goal.invariant_of-gathered-2
invariant_of-gathered-2 c =
    let x : Hash × Change = (c.args.hash, c.args.change) in
    let in_all = c.gathered.inside in
    let before = in_all.lasts.entries in
    let room = c.make_room.new.lasts.entries in
    let last = c.last_of-last.result in
    let name : c.as_slice-2.result.now ≡ c.args.change.actor = c.as_slice-2.ensures.value ∙ c.actor-2.ensures in
    gathered_more c.joined_is_valid.ensures in_all.entries.items c.push.new.self.items x in_all.graph c.enter.new.graph in_all.index c.enter.new.index before c.raise.new.lasts.entries
    c.gathered.invariant (subst (λ (C : List Member). Joins C (member_of x)) (sym c.gathered.view_is) c.requires) (c.in_ok-push.ensures.items ∙ ap (λ es. es ++ x ∷ []) c.in_ok-reserve.ensures.items)
    c.in_ok-enter.ensures.of_set
    (λ a.
    c.raise.ensures a ∙ ap (λ n. cond (same_bytes n a) (larger (last_in room a) last) (last_in room a)) name
    ∙ ap (λ l. cond (same_bytes c.args.change.actor a) (larger l last) l) (c.in_ok-make_room.ensures.same a)
    ∙ ap (λ n. cond (same_bytes c.args.change.actor a) (larger (last_in before a) n) (last_in before a)) c.last_of-last.ensures)
