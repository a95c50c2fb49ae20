use Rattle.std.proofs.lemmas.Str.{IsUtf8-had, IsUtf8-append}
use Rattle.am_types.proofs.text.Text.push_str.Goals as goal

pub invariant_of-self : goal.invariant_of-self
invariant_of-self c = rw c.in_err-push_slice.ensures.err c.self.invariant

pub invariant_of-self-2 : goal.invariant_of-self-2
invariant_of-self-2 c =
    ∣ rw c.in_ok-push_slice.ensures.ok (IsUtf8-append _ _ (IsUtf8-had _ c.self.invariant) c.as_bytes.ensures.utf8) ∣₁
