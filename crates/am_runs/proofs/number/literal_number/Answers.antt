use Rattle.am_runs.proofs.Counted.{literal_found, literal_bytes, literal_taken}
use Rattle.am_runs.proofs.number.literal_number.Goals as goal

pub bounds-rest-0 : goal.bounds-rest-0
bounds-rest-0 g c = literal_bytes g.K.Number.end_of _ _ _ _ g.met.K.Number.nothing c.requires.literal c.requires.held

pub low-n-requires-clause-some : goal.low-n-requires-clause-some
low-n-requires-clause-some g c = literal_bytes g.K.Number.end_of _ _ _ _ g.met.K.Number.nothing c.requires.literal c.requires.held

pub returns-then-rest-lt128-clause-held : goal.returns-then-rest-lt128-clause-held
returns-then-rest-lt128-clause-held g c = (literal_taken g.K.Number.end_of g.K.Number.value_of _ _ _ c.args.at.now.rest.now 1 c.low-n.result c.requires.literal c.requires.held c.low-n.ensures.end c.low-n.ensures.value).0

pub returns-then-rest-lt128-clause-next : goal.returns-then-rest-lt128-clause-next
returns-then-rest-lt128-clause-next g c = (literal_taken g.K.Number.end_of g.K.Number.value_of _ _ _ c.args.at.now.rest.now 1 c.low-n.result c.requires.literal c.requires.held c.low-n.ensures.end c.low-n.ensures.value).1

pub returns-in-None-clause-some : goal.returns-in-None-clause-some
returns-in-None-clause-some g c = absurd (literal_found g.K.Number.end_of _ _ _ _ c.requires.literal c.requires.held c.in-None.ensures.end)

pub returns-in-Some-clause-held : goal.returns-in-Some-clause-held
returns-in-Some-clause-held g c = (literal_taken g.K.Number.end_of g.K.Number.value_of _ _ _ c.args.at.now.rest.now _ _ c.requires.literal c.requires.held c.in-Some.ensures.end c.in-Some.ensures.value).0

pub returns-in-Some-clause-next : goal.returns-in-Some-clause-next
returns-in-Some-clause-next g c = (literal_taken g.K.Number.end_of g.K.Number.value_of _ _ _ c.args.at.now.rest.now _ _ c.requires.literal c.requires.held c.in-Some.ensures.end c.in-Some.ensures.value).1
