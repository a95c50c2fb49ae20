use Rattle.std.proofs.Common.{arith, sym, ap, ◌∙◌, ◌++◌, map, Some}
use Rattle.std.proofs.lemmas.List.{length-map}
use Rattle.am_runs.specs.Positions.{place_of}
use Rattle.am_runs.proofs.Counted.{count-le}
use Rattle.am_runs.proofs.Neighbours.{passed_at}
use Rattle.am_runs.proofs.writer.RunWriter.take_apart.Goals as goal

pub overflow_sub-left : goal.overflow_sub-left
overflow_sub-left g c =
    omega (arith, c.in_ok-k-in-Literal.ensures.few, count-le g.K.Item.end_of _ (place_of c.place-left.result.0) c.place-left.ensures.holds)

pub in_literal-requires : goal.in_literal-requires
in_literal-requires g c =
    let ok = c.in_ok-k-in-Literal.ensures.ok in
    (passed_at g.K.Item.end_of g.met.K.Item.reads (place_of c.place-left.result.0) c.place-left.result.1 c.in_ok-k-in-Literal.k ok.0 c.in_ok-k-in-Literal.rest.now c.in-Literal.is c.place-left.ensures.holds ok.1 ok.2 (omega (arith, c.in_ok-k-in-Literal.ensures.few)) ok.3).0

pub returns-in_ok-k-in-Literal-clause-ok : goal.returns-in_ok-k-in-Literal-clause-ok
returns-in_ok-k-in-Literal-clause-ok g c =
    let ok = c.in_ok-k-in-Literal.ensures.ok in
    let passed = passed_at g.K.Item.end_of g.met.K.Item.reads (place_of c.place-left.result.0) c.place-left.result.1 c.in_ok-k-in-Literal.k ok.0 c.in_ok-k-in-Literal.rest.now c.in-Literal.is c.place-left.ensures.holds ok.1 ok.2 (omega (arith, c.in_ok-k-in-Literal.ensures.few)) ok.3 in
    (map Some ok.0, length-map ok.0 Some ∙ ok.2, c.place-left.ensures.list ∙ passed.1 ∙ ap (λ l. map Some ok.0 ++ l) (sym c.in_literal.ensures), ok.4)
