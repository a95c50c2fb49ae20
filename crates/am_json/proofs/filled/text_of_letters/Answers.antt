use Rattle.std.proofs.lemmas.Str.{IsUtf8-from_ascii}
use Rattle.am_json.proofs.filled.text_of_letters.Goals as goal

pub unreachable-requires : goal.unreachable-requires
unreachable-requires c = c.in-Err.ensures.cases.0 (IsUtf8-from_ascii c.args.letters.now c.requires)
