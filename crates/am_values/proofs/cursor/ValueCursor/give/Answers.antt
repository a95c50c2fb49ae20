use Rattle.std.proofs.Common.{◌∙◌, arith, length, take, drop, ap}
use Rattle.am_values.specs.Cutting.{widths}
use Rattle.am_values.proofs.Cuts.{length-values}
use Rattle.am_values.proofs.Given.{front_spelled, front_joined, front_good, rest_shown, rest_is_cut}
use Rattle.am_values.proofs.cursor.ValueCursor.give.Goals as goal

pub taken-requires-clause-enough : goal.taken-requires-clause-enough
taken-requires-clause-enough c = omega (arith, c.requires.enough, length-values c.self.inside.numbers c.self.inside.raw.now, ap length c.self.view_is, ap length c.again-behind.ensures)

pub returns-in_err-rest-clause-good : goal.returns-in_err-rest-clause-good
returns-in_err-rest-clause-good c = front_good c.args.n c.self.inside.numbers c.self.inside.raw.now _ c.self.invariant c.self.view_is

pub invariant_of-self : goal.invariant_of-self
invariant_of-self c =
    let e = c.in_ok-rest.ensures {u = tt} in
    rest_is_cut c.args.n c.self.inside.numbers c.taken.new.from c.self.inside.raw.now c.in_ok-rest.rest.now c.self.invariant (e.behind ∙ ap (drop c.args.n) c.again-behind.ensures) (e.raw ∙ ap (λ l. drop (widths (take c.args.n l)) c.self.inside.raw.now) c.again-behind.ensures)

pub returns-clause-numbers : goal.returns-clause-numbers
returns-clause-numbers c =
    let e = c.in_ok-rest.ensures {u = tt} in
    front_spelled c.args.n c.self.inside.numbers c.again-behind.result c.self.inside.raw.now _ _ _ c.self.invariant c.self.view_is c.again-behind.ensures e.ok

pub returns-clause-raw : goal.returns-clause-raw
returns-clause-raw c =
    let e = c.in_ok-rest.ensures {u = tt} in
    front_joined c.args.n c.self.inside.numbers c.self.inside.raw.now c.in_ok-rest.rest.now c.cut.result.0.now _ c.self.invariant c.self.view_is (e.raw ∙ ap (λ l. drop (widths (take c.args.n l)) c.self.inside.raw.now) c.again-behind.ensures) c.cut.ensures.front

pub returns-clause-good : goal.returns-clause-good
returns-clause-good c = front_good c.args.n c.self.inside.numbers c.self.inside.raw.now _ c.self.invariant c.self.view_is

pub returns-clause-behind : goal.returns-clause-behind
returns-clause-behind c =
    let e = c.in_ok-rest.ensures {u = tt} in
    rest_shown c.args.n c.self.inside.numbers c.taken.new.from c.self.inside.raw.now c.in_ok-rest.rest.now _ c.self.invariant c.self.view_is (e.behind ∙ ap (drop c.args.n) c.again-behind.ensures) (e.raw ∙ ap (λ l. drop (widths (take c.args.n l)) c.self.inside.raw.now) c.again-behind.ensures)
