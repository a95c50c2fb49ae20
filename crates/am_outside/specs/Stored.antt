-- The files of a folder in memory, which stand in a list.
use Rattle.std.specs.Prelude.{List, map, string_bytes}
use Rattle.std.specs.FinMap.{from_entries}
use Rattle.am_outside.specs.declared.stored_files.File.{File}
use Rattle.am_outside.specs.Files.{Files}

-- where a name stands twice, the first counts
abbrev pub files_of : List File → Files
files_of files = from_entries (map (λ file. (string_bytes file.name, file.bytes.items)) files)
