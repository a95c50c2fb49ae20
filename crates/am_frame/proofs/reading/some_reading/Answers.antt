use Rattle.std.proofs.Common.{◌≡◌, ◌<◌, ◌+◌, length, ◌++◌, ◌∷◌, [], refl, inr, rules}
use Rattle.am_frame.specs.Frames.{chunk_of}
use Rattle.am_frame.proofs.ReadLaws.{all-more, bytes-more}
use Rattle.am_frame.proofs.reading.some_reading.Goals as goal

pub returns-in-Err : goal.returns-in-Err
returns-in-Err c =
    let read = c.chunks.invariant in
    let some : 0 < length c.chunks.rest.now = search rules in
    let fault = c.in-Err.field-0 in
    inr (length read.0 + 1, fault, record { before = read.0; rest = c.chunks.rest.now; bytes_are = read.1; each = read.2; more = some; bad = (c.next_frame.ensures.fault fault).0 (search rules); number = refl })

pub chunks-preserved : goal.chunks-preserved
chunks-preserved c =
    let read = c.chunks.invariant in
    let frame = c.in-Ok.frame in
    let chunk = chunk_of frame.kind frame.contents.now in
    let next = c.in-Ok.ensures.frame in
    (read.0 ++ chunk ∷ [], bytes-more c.args.bytes.now c.chunks.rest.now frame.rest.now read.0 chunk read.1 next.1, all-more read.0 chunk read.2 next.0)
