use Rattle.std.proofs.Common.{rules, take, ap, ◌∙◌, ◌≡◌, ◌++◌}
use Rattle.am_values.specs.Columns.{given, joined}
use Rattle.am_values.proofs.Collected.{room, pushed_all}
use Rattle.am_values.proofs.writer.ValueWriter.take.Goals as goal

pub give-requires-clause-room : goal.give-requires-clause-room
give-requires-clause-room c = room _ _ _ _ c.args.n c.in_ok-begin.ensures.ok.0 c.self.invariant c.self.view_is c.requires.room

pub invariant_of-self-2 : goal.invariant_of-self-2
invariant_of-self-2 c =
    let e = c.in_ok-raw.ensures {u = tt} in
    let appended : c.extend_from_slice.new.self.items ≡ c.self.inside.raw.items ++ c.in_ok-raw.raw.now = search rules in
    let all : c.extend_from_slice.new.self.items ≡ c.self.inside.raw.items ++ joined (given (take c.args.n c.args.from.now)) = appended ∙ ap (λ l. c.self.inside.raw.items ++ l) e.raw in
    (pushed_all _ _ _ c.self.inside.raw.items _ _ (given (take c.args.n c.args.from.now)) c.in_ok-begin.ensures.ok.0 c.self.invariant c.self.view_is c.give.ensures.good all e.numbers).0

pub returns-clause-ok : goal.returns-clause-ok
returns-clause-ok c =
    let e = c.in_ok-raw.ensures {u = tt} in
    let appended : c.extend_from_slice.new.self.items ≡ c.self.inside.raw.items ++ c.in_ok-raw.raw.now = search rules in
    let all : c.extend_from_slice.new.self.items ≡ c.self.inside.raw.items ++ joined (given (take c.args.n c.args.from.now)) = appended ∙ ap (λ l. c.self.inside.raw.items ++ l) e.raw in
    (pushed_all _ _ _ c.self.inside.raw.items _ _ (given (take c.args.n c.args.from.now)) c.in_ok-begin.ensures.ok.0 c.self.invariant c.self.view_is c.give.ensures.good all e.numbers).1
