use Rattle.std.proofs.Common.{arith}
use Rattle.am_colmeta.specs.Metadata.{pair_bytes, IsPair}
use Rattle.am_colmeta.specs.Reading.{first_pair}
use Rattle.am_colmeta.proofs.ReadBack.{pairs_back, read_found, read_only, no_number, no_parts}
use Rattle.am_colmeta.proofs.list.ColumnList.read.Goals as goal

pub returns-in_default-clause-only : goal.returns-in_default-clause-only
returns-in_default-clause-only c = λ list rest good e. absurd (no_number first_pair pair_bytes IsPair pairs_back list _ rest good.0 good.1 e c.in_default.ensures.read)

pub returns-in_default-behind_pairs-clause-only : goal.returns-in_default-behind_pairs-clause-only
returns-in_default-behind_pairs-clause-only c = λ list rest good e. absurd (no_parts first_pair pair_bytes IsPair pairs_back list _ rest _ _ good.0 good.1 e c.in-Some.ensures.read c.in_default-behind_pairs.ensures)

pub overflow_sub-result : goal.overflow_sub-result
overflow_sub-result c = (read_found first_pair pair_bytes IsPair pairs_back _ _ _ _ (λ i. omega (arith, c.type_inv.bytes i)) c.in-Some.ensures.read c.in-Some-behind_pairs.ensures).0

pub returns-clause-found : goal.returns-clause-found
returns-clause-found c =
    let w = read_found first_pair pair_bytes IsPair pairs_back _ _ _ _ (λ i. omega (arith, c.type_inv.bytes i)) c.in-Some.ensures.read c.in-Some-behind_pairs.ensures in
    (omega arith, w.1)

pub returns-clause-numbers : goal.returns-clause-numbers
returns-clause-numbers c =
    let w = read_found first_pair pair_bytes IsPair pairs_back _ _ _ _ (λ i. omega (arith, c.type_inv.bytes i)) c.in-Some.ensures.read c.in-Some-behind_pairs.ensures in
    (w.2, w.3)

pub returns-clause-only : goal.returns-clause-only
returns-clause-only c = λ list rest good e.
    let w = read_only first_pair pair_bytes IsPair pairs_back list _ rest _ _ _ good.0 good.1 e c.in-Some.ensures.read c.in-Some-behind_pairs.ensures in
    cc
