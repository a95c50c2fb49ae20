use Rattle.std.proofs.Common.{arith, sym, ap, rules, add-one, refl, nat_lt, true, false, None, ◌≡◌, ◌≤◌, ◌⊎◌, length}
use Rattle.std.proofs.lemmas.Bool.Decides.{nat_tests}
use Rattle.am_leb.specs.Reading.{end_or_fault, end_within}
use Rattle.am_leb.proofs.Ends.{end_within-found, end_within-none}
use Rattle.am_leb.proofs.spelling.end_of.Goals as goal

pub returns-then-bytes-i-lt128 : goal.returns-then-bytes-i-lt128
returns-then-bytes-i-lt128 c = rw add-one (ap (end_or_fault c.args.bytes.now) (sym (end_within-found 10 c.args.bytes.now c.loop-i.i (omega arith) (omega arith) c.loop-i.invariant (search rules))))

pub returns-then-bytes-lt10 : goal.returns-then-bytes-lt10
returns-then-bytes-lt10 c =
    let past : ((10 ≤ c.loop-i.i) ⊎ (length c.args.bytes.now ≤ c.loop-i.i)) = grind arith in
    let none : None ≡ end_within 10 c.args.bytes.now = sym (end_within-none 10 c.args.bytes.now c.loop-i.i c.loop-i.invariant past) in
    let short : nat_lt (length c.args.bytes.now) 10 ≡ true = grind (arith, nat_tests) in
    rw (← none, short) refl

pub returns-else-bytes-lt10 : goal.returns-else-bytes-lt10
returns-else-bytes-lt10 c =
    let past : ((10 ≤ c.loop-i.i) ⊎ (length c.args.bytes.now ≤ c.loop-i.i)) = grind arith in
    let none : None ≡ end_within 10 c.args.bytes.now = sym (end_within-none 10 c.args.bytes.now c.loop-i.i c.loop-i.invariant past) in
    let short : nat_lt (length c.args.bytes.now) 10 ≡ false = grind (arith, nat_tests) in
    rw (← none, short) refl
