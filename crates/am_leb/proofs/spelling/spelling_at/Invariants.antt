use Rattle.std.proofs.Common.{◌≡◌, ◌^◌, take}
use Rattle.am_leb.specs.Leb.{unsigned_value}
use Rattle.am_leb.proofs.Ends.{AllHigh}
use Rattle.am_leb.proofs.spelling.spelling_at.Given as goal

abbrev pub invariant-loop-i : goal.invariant-loop-i
invariant-loop-i l = record { high : AllHigh l.bytes l.i; value : l.value ≡ unsigned_value (take l.i l.bytes); bound : l.bound ≡ 128 ^ l.i }
