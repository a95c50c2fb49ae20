use Rattle.std.proofs.Common.{refl}
use Rattle.hex.specs.Hex.{encode_with}
use Rattle.am_json.proofs.room.Digits.none.Goals as goal

pub invariant_of-result : goal.invariant_of-result
unfolding encode_with
invariant_of-result c = record { shown = rw (c.new.ensures, c.new-2.ensures.bytes) refl }
