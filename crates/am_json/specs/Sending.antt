-- The events that a value sends to a `Serializer`, where an array or an object doesn't tell how many members it has. Words
-- of private clauses.
use Rattle.std.specs.Prelude.{None}
use Rattle.serde.specs.Event as event
use Rattle.serde.specs.Event.{Log, Logs}
use Rattle.serde.specs.declared.name.Case.TheVariants.{AsIs}
use Rattle.serde_json.specs.Data.{Data, null, boolean, number, string, array, object, Items, no_items, item, Members, no_members, member}
use Rattle.serde_json.specs.Events.{number_event}

abbrev mutual
  pub SendsValue : Data → Log → Log → Type 0
  SendsValue null old new = Logs old new event.nothing
  SendsValue (boolean b) old new = Logs old new (event.boolean b)
  SendsValue (number n) old new = Logs old new (number_event n)
  SendsValue (string s) old new = Logs old new (event.text s)
  SendsValue (array ds) old new = (first : Log) × Logs old first (event.seq_begins None) × SendsItems ds first new
  SendsValue (object ms) old new = (first : Log) × Logs old first (event.map_begins None) × SendsMembers ms first new

  -- with the end
  pub SendsItems : Items → Log → Log → Type 0
  SendsItems no_items old new = Logs old new event.seq_ends
  SendsItems (item d ds) old new = (mid : Log) × SendsValue d old mid × SendsItems ds mid new

  pub SendsMembers : Members → Log → Log → Type 0
  SendsMembers no_members old new = Logs old new event.map_ends
  SendsMembers (member k d ms) old new = (named mid : Log) × Logs old named (event.field_key k AsIs) × SendsValue d named mid × SendsMembers ms mid new
