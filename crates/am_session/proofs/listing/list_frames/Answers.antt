use Rattle.std.proofs.Common.{◌<◌, length, arith, rules, ◌++◌, ◌∷◌, []}
use Rattle.am_frame.specs.Frames.{chunk_of}
use Rattle.am_session.proofs.ListingLaws.{all-more, bytes-more, lines-more, count-more, bad-reply}
use Rattle.am_session.proofs.listing.list_frames.Goals as goal

pub returns-in-Err : goal.returns-in-Err
returns-in-Err c =
    let read = c.chunks.invariant.read in
    let some : 0 < length c.chunks.rest.now = search rules in
    let fault = c.in-Err.fault in
    bad-reply c.bad_chunk.result c.args.bytes.now c.chunks.rest.now read.0 c.chunks.count fault read.1 read.2 read.4 some ((c.next_frame.ensures.fault fault).0 (search rules)) c.bad_chunk.ensures

pub chunks-preserved : goal.chunks-preserved
chunks-preserved c =
    let read = c.chunks.invariant.read in
    let frame = c.in-Ok.frame in
    let chunk = chunk_of frame.kind frame.contents.now in
    let next = c.in-Ok.ensures.frame in
    record {
      read = (read.0 ++ chunk ∷ [], bytes-more c.args.bytes.now c.chunks.rest.now frame.rest.now read.0 chunk read.1 next.1, all-more read.0 chunk read.2 next.0, lines-more _ _ read.0 chunk read.3 c.in_ok-push_line.ensures, count-more read.0 chunk c.chunks.count read.4);
      bound = omega (arith, c.in-Ok.ensures.shorter);
    }
