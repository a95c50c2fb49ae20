use Rattle.std.proofs.Common.{sym, subst}
use Rattle.std.specs.Str.{IsUtf8}
use Rattle.am_json.proofs.Digits.{digits_are_text}
use Rattle.am_json.proofs.scalars.push_part.Goals as goal

pub unreachable-requires : goal.unreachable-requires
unreachable-requires c = c.in-Err-from_utf8.ensures.cases.0 (subst IsUtf8 (sym c.in-Ok.ensures.written) (digits_are_text c.args.raw.now))
