use Rattle.std.proofs.Common.{◌∙◌, length, take, drop, map, sym, ap, subst, arith}
use Rattle.std.specs.List.{zip}
use Rattle.std.proofs.lemmas.List.{length-drop}
use Rattle.am_runs.proofs.Spelled.{map_take}
use Rattle.am_delta.specs.Deltas.{AreMiddling}
use Rattle.am_fields.specs.RowLaws.{key_numbers}
use Rattle.am_fields.proofs.IdLaws.{keys_between}
use Rattle.am_fields.proofs.Moves.{written_as, counters_middling}
use Rattle.am_fields.proofs.Zips.{length-zip, firsts, seconds, map-map, zip-drop}
use Rattle.am_fields.proofs.keys.KeyCells.copy_to.Goals as goal

pub copy_to-requires-clause-enough : goal.copy_to-requires-clause-enough
copy_to-requires-clause-enough c =
    let at = c.self.inside in
    omega (arith, c.requires.enough, ap length c.self.view_is, length-zip at.counter at.name c.self.invariant, ap length c.again-counter.ensures)

pub copy_to-requires-clause-values : goal.copy_to-requires-clause-values
copy_to-requires-clause-values c =
    let at = c.self.inside in
    let keys = c.requires.within.0 in
    subst AreMiddling (sym (c.again-counter.ensures ∙ sym (firsts at.counter at.name c.self.invariant) ∙ ap (map (λ p. p.0)) (c.self.view_is ∙ c.requires.within.1) ∙ map-map (λ p. p.0) key_numbers keys)) (counters_middling _ (keys_between keys c.requires.within.2))

pub take-requires-clause-enough : goal.take-requires-clause-enough
take-requires-clause-enough c =
    let at = c.self.inside in
    omega (arith, c.requires.enough, ap length c.self.view_is, length-zip at.counter at.name c.self.invariant, c.self.invariant, ap length c.again-name.ensures)

pub invariant_of-self : goal.invariant_of-self
invariant_of-self c =
    let at = c.self.inside in
    omega (arith, c.self.invariant, ap length c.again-counter.ensures, ap length c.again-name.ensures, ap length c.in_ok-copy_to.ensures.behind, ap length c.in_ok-take.ensures.behind, length-drop c.args.n c.again-counter.result, length-drop c.args.n c.again-name.result)

pub returns-clause-counters : goal.returns-clause-counters
returns-clause-counters c =
    let at = c.self.inside in
    written_as c.args.counters.now _ _ _ (ap (take c.args.n) (c.again-counter.ensures ∙ sym (firsts at.counter at.name c.self.invariant) ∙ ap (map (λ p. p.0)) c.self.view_is) ∙ sym (map_take (λ p. p.0) c.args.n c.args.self.now)) c.in_ok-copy_to.ensures.ok

pub returns-clause-names : goal.returns-clause-names
returns-clause-names c =
    let at = c.self.inside in
    written_as c.args.names.now _ _ _ (ap (take c.args.n) (c.again-name.ensures ∙ sym (seconds at.counter at.name c.self.invariant) ∙ ap (map (λ p. p.1)) c.self.view_is) ∙ sym (map_take (λ p. p.1) c.args.n c.args.self.now)) c.in_ok-take.ensures.ok

pub returns-clause-behind : goal.returns-clause-behind
returns-clause-behind c =
    let at = c.self.inside in
    ap (λ l. zip l c.take.new.from) (c.in_ok-copy_to.ensures.behind ∙ ap (drop c.args.n) c.again-counter.ensures) ∙ ap (zip (drop c.args.n at.counter)) (c.in_ok-take.ensures.behind ∙ ap (drop c.args.n) c.again-name.ensures) ∙ zip-drop c.args.n at.counter at.name c.self.invariant ∙ ap (drop c.args.n) c.self.view_is
