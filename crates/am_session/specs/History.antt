-- The reply to history: how many changes there are, and a line for each.
use Rattle.std.specs.Prelude.{ℕ, ℤ, ◌∷◌, List, [], ◌++◌, length, codes, decimal, flat_map}
use Rattle.std.specs.Fmt.{signed_decimal}
use Rattle.hex.specs.Hex.{encode_lower}
use Rattle.serde_json.specs.Data.{string}
use Rattle.serde_json.specs.Written.{compact_text}
use Rattle.am_store.specs.declared.HistoryLine.{HistoryLine}
use Rattle.am_session.specs.Replies.{newline, numbered, hash_text}

-- hash and author
abbrev pub name_text : HistoryLine → List ℕ
name_text line = hash_text line.hash ++ codes " " ++ encode_lower line.actor

-- its number among the author's changes, its first counter, and how many operations it has
abbrev pub place_text : ℕ → ℕ → ℕ → List ℕ
place_text seq start count = numbered (codes " ") seq ++ numbered (codes " ") start ++ numbered (codes " ") count

-- when it was made
abbrev pub time_text : ℤ → List ℕ
time_text time = codes " " ++ signed_decimal time ++ codes " "

abbrev pub history_line : HistoryLine → List ℕ
history_line line = name_text line ++ place_text line.seq line.start line.count ++ time_text line.time ++ compact_text (string line.message) ++ newline ∷ []

abbrev pub history_text : List HistoryLine → List ℕ
history_text lines = codes "ok " ++ decimal (length lines) ++ newline ∷ [] ++ flat_map history_line lines
