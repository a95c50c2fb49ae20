-- What cutting a frame off finds, whatever its checksum and its type.
use Rattle.std.specs.Prelude.{◌≡◌, ℕ, ◌<◌, ◌^◌, List, ◌++◌, length, Result, Ok, Err}
use Rattle.am_frame.specs.Frames.{sized, covered, IsCut}
use Rattle.am_frame.specs.Faults.{IsBadMagic, IsTruncated, IsBadLength}
use Rattle.am_frame.specs.declared.cut.Cut.{Cut}
use Rattle.am_frame.specs.declared.cut.HeadFault.{HeadFault}
use Rattle.am_frame.specs.declared.cut.HeadFault.TheVariants.{BadMagic, Truncated, BadLength}

-- more bytes make them bytes behind their length
abbrev pub IsShort : List ℕ → Type 0
IsShort bytes = (contents more : List ℕ) × (length contents < 2 ^ 64) × (0 < length more) × (bytes ++ more ≡ sized contents)

abbrev pub JudgesHead : List ℕ → Result Cut HeadFault → Type 0
JudgesHead bytes (Ok cut) = IsCut bytes cut.checksum.now cut.kind cut.contents.now cut.rest.now × (cut.covered.now ≡ covered cut.kind cut.contents.now)
JudgesHead bytes (Err BadMagic) = IsBadMagic bytes
JudgesHead bytes (Err Truncated) = IsTruncated bytes
JudgesHead bytes (Err BadLength) = IsBadLength bytes
