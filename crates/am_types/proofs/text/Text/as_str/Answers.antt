use Rattle.std.proofs.lemmas.Str.{IsUtf8-had}
use Rattle.am_types.proofs.text.Text.as_str.Goals as goal

pub from_utf8_unchecked-requires : goal.from_utf8_unchecked-requires
from_utf8_unchecked-requires c = rw c.as_slice.ensures (IsUtf8-had _ c.self.invariant)
