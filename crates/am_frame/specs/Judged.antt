-- What reading the first chunk of some bytes finds.
use Rattle.std.specs.Prelude.{◌≡◌, ℕ, ◌<◌, List, Result, Ok, Err}
use Rattle.sha2.specs.Sha256.{sha256}
use Rattle.am_frame.specs.Frames.{covered, check_of, IsCut}
use Rattle.am_frame.specs.Faults.{HasFault}
use Rattle.am_frame.specs.declared.frame.Frame.{Frame}
use Rattle.am_frame.specs.declared.fault.FrameFault.{FrameFault}

abbrev pub Judges : List ℕ → Result Frame FrameFault → Type 0
Judges bytes (Ok frame) = (frame.kind < 2) × IsCut bytes (check_of frame.kind frame.contents.now) frame.kind frame.contents.now frame.rest.now × (frame.hash.0 ≡ sha256 (covered frame.kind frame.contents.now))
Judges bytes (Err fault) = HasFault bytes fault
