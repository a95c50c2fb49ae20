use Rattle.am_delta.proofs.Steps.{nulls_middling, nulls_are_steps}
use Rattle.am_delta.proofs.writer.DeltaWriter.push_nulls.Goals as goal

pub push_steps-requires-clause-values : goal.push_steps-requires-clause-values
push_steps-requires-clause-values c = nulls_middling c.args.self.now c.args.count

pub returns-clause-ok : goal.returns-clause-ok
returns-clause-ok c = nulls_are_steps _ _ c.args.self.now c.args.count c.push_steps.ensures.ok
