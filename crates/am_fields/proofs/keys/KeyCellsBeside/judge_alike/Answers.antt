use Rattle.std.proofs.Common.{ap, sym, subst, ◌∙◌, length, take, drop, arith, refl}
use Rattle.std.specs.List.{zip}
use Rattle.std.proofs.lemmas.List.{length-drop}
use Rattle.am_fields.specs.Fields.{key_read}
use Rattle.am_fields.specs.Reading.{AllReadAt}
use Rattle.am_fields.proofs.Zips.{length-zip, zip-drop}
use Rattle.am_fields.proofs.keys.KeyCellsBeside.judge_alike.Goals as goal

pub judge_cells-requires-clause-counters : goal.judge_cells-requires-clause-counters
judge_cells-requires-clause-counters c =
    let at = c.self.inside in
    omega (arith, c.requires, ap length c.self.view_is, length-zip at.counter at.name c.self.invariant, ap length c.again-counter.ensures)

pub judge_cells-requires-clause-names : goal.judge_cells-requires-clause-names
judge_cells-requires-clause-names c =
    let at = c.self.inside in
    omega (arith, c.requires, ap length c.self.view_is, length-zip at.counter at.name c.self.invariant, c.self.invariant, ap length c.again-name.ensures)

pub returns-then-not-judge_cells-clause-read : goal.returns-then-not-judge_cells-clause-read
returns-then-not-judge_cells-clause-read c =
    let cells = ap (λ l. zip l c.again-name.result) c.again-counter.ensures ∙ ap (zip c.self.inside.counter) c.again-name.ensures ∙ c.self.view_is in
    (λ e. absurd (cc), λ all. c.if-not-judge_cells.ensures.read.1 (subst (λ l. AllReadAt (key_read c.args.actors.now) c.args.place (take c.args.n l)) (sym cells) all))

pub invariant_of-self : goal.invariant_of-self
invariant_of-self c =
    let at = c.self.inside in
    omega (arith, c.self.invariant, ap length c.again-counter.ensures, ap length c.again-name.ensures, ap length (c.if-not-judge_cells.ensures.counters refl), ap length (c.if-not-judge_cells.ensures.names refl), length-drop c.args.n c.again-counter.result, length-drop c.args.n c.again-name.result)

pub returns-clause-read : goal.returns-clause-read
returns-clause-read c =
    let cells = ap (λ l. zip l c.again-name.result) c.again-counter.ensures ∙ ap (zip c.self.inside.counter) c.again-name.ensures ∙ c.self.view_is in
    (λ e. subst (λ l. AllReadAt (key_read c.args.actors.now) c.args.place (take c.args.n l)) cells (c.if-not-judge_cells.ensures.read.0 refl), λ all. refl)

pub returns-clause-behind : goal.returns-clause-behind
returns-clause-behind c =
    let at = c.self.inside in
    λ e. ap (λ l. zip l c.judge_cells.new.names) (c.if-not-judge_cells.ensures.counters refl ∙ ap (drop c.args.n) c.again-counter.ensures) ∙ ap (zip (drop c.args.n at.counter)) (c.if-not-judge_cells.ensures.names refl ∙ ap (drop c.args.n) c.again-name.ensures) ∙ zip-drop c.args.n at.counter at.name c.self.invariant ∙ ap (drop c.args.n) c.self.view_is
