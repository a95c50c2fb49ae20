use Rattle.std.proofs.Common.{refl}
use Rattle.std.proofs.lemmas.Str.{IsUtf8-from_ascii, IsUtf8-from_is_utf8, is_utf8-from_IsUtf8}
use Rattle.am_runs.proofs.Grouping.{not_true}
use Rattle.am_runs.proofs.value.text_over.Goals as goal

pub known_text-requires : goal.known_text-requires
known_text-requires c = IsUtf8-from_ascii _ (c.if-are_few_ascii.ensures refl)

pub returns-then-are_few_ascii-clause-some : goal.returns-then-are_few_ascii-clause-some
returns-then-are_few_ascii-clause-some c = (c.known_text.ensures, is_utf8-from_IsUtf8 _ (IsUtf8-from_ascii _ (c.if-are_few_ascii.ensures refl)))

pub returns-in-Ok-clause-some : goal.returns-in-Ok-clause-some
returns-in-Ok-clause-some c = (c.in-Ok.ensures.cases.0, is_utf8-from_IsUtf8 _ c.in-Ok.ensures.cases.1)

pub returns-in-Err-clause-none : goal.returns-in-Err-clause-none
returns-in-Err-clause-none c = not_true _ (λ t. c.in-Err.ensures.cases.0 (IsUtf8-from_is_utf8 _ t))
