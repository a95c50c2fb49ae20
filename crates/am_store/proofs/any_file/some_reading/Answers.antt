use Rattle.std.proofs.Common.{◌≡◌, ◌<◌, length, rules}
use Rattle.am_frame.specs.Frames.{chunk_of}
use Rattle.am_store.proofs.AnyFile.{at_first, at_bad_frame, at_next, at_last}
use Rattle.am_store.proofs.any_file.some_reading.Goals as goal

pub chunks-init : goal.chunks-init
chunks-init c = at_first c.args.only_changes c.args.bytes.now

pub returns-in-Err : goal.returns-in-Err
returns-in-Err c =
    let some : 0 < length c.chunks.rest.now = search rules in
    let fault = c.in-Err.field-0 in
    at_bad_frame c.args.only_changes c.args.bytes.now c.chunks.rest.now some c.chunks.invariant fault ((c.next_frame.ensures.fault fault).0 (search rules))

pub chunks-preserved : goal.chunks-preserved
chunks-preserved c =
    let frame = c.in-Ok.frame in
    let next = c.in-Ok.ensures.frame in
    let some : 0 < length c.chunks.rest.now = search rules in
    at_next c.args.only_changes c.args.bytes.now c.chunks.rest.now some (chunk_of frame.kind frame.contents.now) frame.rest.now next.0 next.1 c.chunks.invariant c.chunk_told.ensures

pub returns : goal.returns
returns c =
    let none : length c.chunks.rest.now ≡ 0 = search rules in
    at_last c.args.only_changes c.args.bytes.now c.chunks.rest.now none c.chunks.invariant
