use Rattle.std.proofs.Common.{arith}
use Rattle.std.proofs.lemmas.Bool.Decides.{nat_tests}
use Rattle.am_runs.proofs.Skimmed.{signed_ends}
use Rattle.am_runs.proofs.leb.SignedNumber.is_spare.Goals as goal

pub returns-then-start-i : goal.returns-then-start-i
returns-then-start-i c = record {
  ends = λ f last. signed_ends c.args.bytes.now c.args.start c.args.i (λ i. omega (arith, c.type_inv.bytes i)) c.requires.begun c.requires.inside last
      (λ p e. grind (arith, nat_tests))
      (λ p e. absurd (omega (arith, c.if-byte-eq0.true)));
}

pub returns-else-start-i : goal.returns-else-start-i
returns-else-start-i c = record {
  ends = λ f last. signed_ends c.args.bytes.now c.args.start c.args.i (λ i. omega (arith, c.type_inv.bytes i)) c.requires.begun c.requires.inside last
      (λ p e. absurd (omega (arith, c.if-start-i.false)))
      (λ p e. absurd (omega (arith, c.if-start-i.false)));
}

pub returns-then-start-i-2 : goal.returns-then-start-i-2
returns-then-start-i-2 c = record {
  ends = λ f last. signed_ends c.args.bytes.now c.args.start c.args.i (λ i. omega (arith, c.type_inv.bytes i)) c.requires.begun c.requires.inside last
      (λ p e. absurd (omega (arith, c.if-byte-eq0.false)))
      (λ p e. grind (arith, nat_tests));
}

pub returns-else-start-i-2 : goal.returns-else-start-i-2
returns-else-start-i-2 c = record {
  ends = λ f last. signed_ends c.args.bytes.now c.args.start c.args.i (λ i. omega (arith, c.type_inv.bytes i)) c.requires.begun c.requires.inside last
      (λ p e. absurd (omega (arith, c.if-start-i-2.false)))
      (λ p e. absurd (omega (arith, c.if-start-i-2.false)));
}

pub returns : goal.returns
returns c = record {
  ends = λ f last. signed_ends c.args.bytes.now c.args.start c.args.i (λ i. omega (arith, c.type_inv.bytes i)) c.requires.begun c.requires.inside last
      (λ p e. absurd (omega (arith, c.if-byte-eq0.false)))
      (λ p e. absurd (omega (arith, c.if-byte-eq127.false)));
}
