use Rattle.std.proofs.Common.{◌≡◌, ◌∷◌, List, ℕ, drop, IfSome, IsTrue, is_some, subst, rules}
use Rattle.am_fields.proofs.ListPlaces.{found_here}
use Rattle.am_fields.proofs.actors.Actors.get.Goals as goal

pub returns-then-is_some-clause-actor : goal.returns-then-is_some-clause-actor
returns-then-is_some-clause-actor c =
    let place = c.self.inside.place in
    let ys = c.self.inside.behind in
    let some : IsTrue (is_some c.self.inside.last) = search rules in
    let kept : IfSome c.self.inside.last (λ b. drop place c.args.self.now ≡ b.now ∷ ys) = subst (λ (all : List (List ℕ)). IfSome c.self.inside.last (λ b. drop place all ≡ b.now ∷ ys)) c.self.view_is c.self.invariant in
    found_here c.args.self.now c.self.inside.last ys place c.args.place c.if-place-self.true some kept
