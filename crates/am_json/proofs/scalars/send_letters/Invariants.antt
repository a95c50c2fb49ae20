use Rattle.std.proofs.Common.{drop}
use Rattle.serde.specs.Event.{Log}
use Rattle.serde_json.specs.Data.{Items}
use Rattle.am_json.specs.Sending.{SendsItems}
use Rattle.am_json.specs.Turns.{letter_items}
use Rattle.am_json.proofs.scalars.send_letters.Given as goal

-- whatever ends it well from here ends it well from the start
abbrev pub invariant-loop-letter : goal.invariant-loop-letter
invariant-loop-letter g l =
    (ds : Items) (end : Log) → SendsItems (letter_items (drop l.letter-index l.letter-items) ds) (g.S.Serializer.written l.out) end
    → SendsItems (letter_items l.letter-items ds) (g.S.Serializer.written l.initial.out) end
