use Rattle.std.proofs.Common.{arith}
use Rattle.am_runs.proofs.RunsRead.{none_opened, opened_count, literal_not_passed, begins_kind, begins_repeat, begins_nulls, begins_literal}
use Rattle.am_runs.specs.Positions.{place_of}
use Rattle.am_runs.proofs.run.run_at.Goals as goal

pub returns-then-at-most-clause-none : goal.returns-then-at-most-clause-none
returns-then-at-most-clause-none g c = λ count rest b. omega (arith, opened_count _ g.met.K.Item.reads _ _ count rest c.in-Some.ensures b)

pub returns-in-None-clause-none : goal.returns-in-None-clause-none
returns-in-None-clause-none g c = λ count rest b. absurd (none_opened _ g.met.K.Item.reads _ count rest c.in-None.ensures b)

pub returns-in-None-behind_literal-clause-none : goal.returns-in-None-behind_literal-clause-none
returns-in-None-behind_literal-clause-none g c = λ count rest b. absurd (literal_not_passed _ g.met.K.Item.reads _ _ count rest c.in-Some.ensures c.in-Literal.is c.in-None-behind_literal.ensures b)

pub returns-in-Some-behind_literal-clause-found : goal.returns-in-Some-behind_literal-clause-found
returns-in-Some-behind_literal-clause-found g c = (omega arith, begins_literal _ g.met.K.Item.reads _ (place_of c.in-Some.at) _ c.in-Literal.is c.in-Some-behind_literal.ensures (begins_kind _ g.met.K.Item.reads _ (place_of c.in-Some.at) (λ i. omega (arith, c.type_inv.bytes i)) c.in-Some.ensures))

pub returns-in-Repeat-clause-found : goal.returns-in-Repeat-clause-found
returns-in-Repeat-clause-found g c = (omega arith, begins_repeat _ _ (place_of c.in-Some.at) c.in-Repeat.is (begins_kind _ g.met.K.Item.reads _ (place_of c.in-Some.at) (λ i. omega (arith, c.type_inv.bytes i)) c.in-Some.ensures))

pub returns-in-Nulls-clause-found : goal.returns-in-Nulls-clause-found
returns-in-Nulls-clause-found g c = (omega arith, begins_nulls _ _ (place_of c.in-Some.at) c.in-Nulls.is (begins_kind _ g.met.K.Item.reads _ (place_of c.in-Some.at) (λ i. omega (arith, c.type_inv.bytes i)) c.in-Some.ensures))
