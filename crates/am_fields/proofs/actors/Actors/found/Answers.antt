use Rattle.std.proofs.Common.{◌≡◌, ◌∷◌, ◌-◌, List, ℕ, drop, IfSome, IsTrue, is_some, subst, arith, rules}
use Rattle.am_fields.proofs.ListPlaces.{found_behind}
use Rattle.am_fields.proofs.actors.Actors.found.Goals as goal

pub returns-then-self-place : goal.returns-then-self-place
returns-then-self-place c =
    let place = c.self.inside.place in
    let ys = c.self.inside.behind in
    let some : IsTrue (is_some c.self.inside.last) = search rules in
    let kept : IfSome c.self.inside.last (λ b. drop place c.args.self.now ≡ b.now ∷ ys) = subst (λ (all : List (List ℕ)). IfSome c.self.inside.last (λ b. drop place all ≡ b.now ∷ ys)) c.self.view_is c.self.invariant in
    let later = c.if-self-place.true in
    found_behind c.args.self.now c.self.inside.last c.behind.result.0 ys c.behind.result.1 place c.args.place (c.args.place - place - 1) (omega arith) some kept c.behind.ensures
