use Rattle.std.proofs.Common.{ℕ, List, length, ◌<◌, ◌≤◌, ◌^◌, arith, lit<}
use Rattle.std.proofs.Math.Nat.{pow-le-pow_right}
use Rattle.am_leb.proofs.Laws.{IsUleb-from_tight}
use Rattle.am_leb.proofs.Completion.{completed, completed_value, completed_value-lt}
use Rattle.am_leb.proofs.unsigned.completed.Goals as goal

small : (bytes : List ℕ) → length bytes < 10 → completed_value bytes < 2 ^ 64
small bytes few =
    let less : length bytes ≤ 9 = omega arith in
    let most : 128 ^ length bytes ≤ 128 ^ 9 = pow-le-pow_right (lit< tt) less in
    omega (arith, completed_value-lt bytes, most)

pub returns : goal.returns
returns c = λ bytes high few. (completed_value bytes, small bytes few, IsUleb-from_tight (completed bytes high))
