use Rattle.std.proofs.Common.{◌≡◌, ◌∷◌, true, false, sym, ◌∙◌, arith, rules}
use Rattle.std.specs.Cmp.Lexicographic.{texts_ties}
use Rattle.am_types.specs.Same.{same_bytes}
use Rattle.am_fields.proofs.ListedLaws.{place_first, place_later}
use Rattle.am_fields.proofs.listed.ListedActors.place.Goals as goal

pub returns-then-same_actor : goal.returns-then-same_actor
returns-then-same_actor c =
    let actors = c.args.self.now in
    let actor = c.args.actor.now in
    let first = c.as_slice.result.now in
    let others = c.in-Some.others.now in
    let are : actors ≡ first ∷ others = search rules in
    let yes : same_bytes actor first ≡ true = search rules in
    place_first actors others first actor are (sym (texts_ties actor first) ∙ yes)

pub returns-else-same_actor : goal.returns-else-same_actor
returns-else-same_actor c =
    let actors = c.args.self.now in
    let actor = c.args.actor.now in
    let first = c.as_slice.result.now in
    let others = c.in-Some.others.now in
    let are : actors ≡ first ∷ others = search rules in
    let no : same_bytes actor first ≡ false = search rules in
    omega (arith, c.place_behind.ensures.place, place_later actors others first actor are (sym (texts_ties actor first) ∙ no))
