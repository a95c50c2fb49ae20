use Rattle.std.proofs.Common.{arith}
use Rattle.am_colmeta.specs.Actors.{prefixed, IsPrefixed}
use Rattle.am_colmeta.specs.Reading.{first_prefixed}
use Rattle.am_colmeta.proofs.ReadBack.{prefixed_back, read_found, read_only, no_number, no_parts}
use Rattle.am_colmeta.proofs.actors.ActorList.read.Goals as goal

pub returns-in_default-clause-only : goal.returns-in_default-clause-only
returns-in_default-clause-only c = λ list rest good e. absurd (no_number first_prefixed prefixed IsPrefixed prefixed_back list _ rest good.0 good.1 e c.in_default.ensures.read)

pub returns-in_default-behind_prefixed-clause-only : goal.returns-in_default-behind_prefixed-clause-only
returns-in_default-behind_prefixed-clause-only c = λ list rest good e. absurd (no_parts first_prefixed prefixed IsPrefixed prefixed_back list _ rest _ _ good.0 good.1 e c.in-Some.ensures.read c.in_default-behind_prefixed.ensures)

pub overflow_sub-result : goal.overflow_sub-result
overflow_sub-result c = (read_found first_prefixed prefixed IsPrefixed prefixed_back _ _ _ _ (λ i. omega (arith, c.type_inv.bytes i)) c.in-Some.ensures.read c.in-Some-behind_prefixed.ensures).0

pub returns-clause-found : goal.returns-clause-found
returns-clause-found c =
    let w = read_found first_prefixed prefixed IsPrefixed prefixed_back _ _ _ _ (λ i. omega (arith, c.type_inv.bytes i)) c.in-Some.ensures.read c.in-Some-behind_prefixed.ensures in
    (omega arith, w.1)

pub returns-clause-numbers : goal.returns-clause-numbers
returns-clause-numbers c =
    let w = read_found first_prefixed prefixed IsPrefixed prefixed_back _ _ _ _ (λ i. omega (arith, c.type_inv.bytes i)) c.in-Some.ensures.read c.in-Some-behind_prefixed.ensures in
    (w.2, w.3)

pub returns-clause-only : goal.returns-clause-only
returns-clause-only c = λ list rest good e.
    let w = read_only first_prefixed prefixed IsPrefixed prefixed_back list _ rest _ _ _ good.0 good.1 e c.in-Some.ensures.read c.in-Some-behind_prefixed.ensures in
    cc
