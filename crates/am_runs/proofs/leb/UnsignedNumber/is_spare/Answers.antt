use Rattle.std.proofs.Common.{◌≡◌, nat_lt, true, arith}
use Rattle.std.proofs.lemmas.Bool.Decides.{nat_tests}
use Rattle.am_runs.proofs.Skimmed.{unsigned_ends}
use Rattle.am_runs.proofs.leb.UnsignedNumber.is_spare.Goals as goal

pub returns-then-bytes-i-eq0 : goal.returns-then-bytes-i-eq0
returns-then-bytes-i-eq0 c = record {
  ends = λ f last. unsigned_ends c.args.bytes.now c.args.start c.args.i (λ i. omega (arith, c.type_inv.bytes i)) c.requires.begun c.requires.inside last
      (λ p. let t : nat_lt c.args.start c.args.i ≡ true = grind (arith, nat_tests) in absurd (cc));
}

pub returns-else-bytes-i-eq0 : goal.returns-else-bytes-i-eq0
returns-else-bytes-i-eq0 c = record {
  ends = λ f last. unsigned_ends c.args.bytes.now c.args.start c.args.i (λ i. omega (arith, c.type_inv.bytes i)) c.requires.begun c.requires.inside last
      (λ p. omega (arith, c.if-bytes-i-eq0.false));
}
