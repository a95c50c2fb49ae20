use Rattle.std.proofs.Common.{rules, subst, sym}
use Rattle.std.specs.Bool.{⊤}
use Rattle.am_frame.specs.Frames.{Chunk, chunk_of}
use Rattle.am_store.specs.Files.{IsDocumentHere}
use Rattle.am_store.specs.Reading.{MatchBad, IsWrongWith, GivesPairs, Appends}
use Rattle.am_store.proofs.FirstChunk.{kind_zero, begins_kind, reads_one, wrong_here}
use Rattle.am_store.proofs.chunk.read_chunk.Goals as goal

pub returns-in-Err-clause-bad : goal.returns-in-Err-clause-bad
returns-in-Err-clause-bad c = c.fault_of.ensures c.args.only_changes c.args.bytes.now ((c.next_frame.ensures.fault c.in-Err.fault).0 (search rules))

pub returns-in_err-push_change-clause-bad : goal.returns-in_err-push_change-clause-bad
returns-in_err-push_change-clause-bad c =
    let frame = c.in-Ok.frame in
    let is = c.in-Ok.ensures.frame in
    let fault = c.in_err-push_change.field-0.0 in
    let bad = wrong_here frame.kind 1 c.args.bytes.now frame.contents.now frame.rest.now c.if-frame-eq1.true is.1 c.args.only_changes fault (c.in_err-push_change.ensures.bad c.args.only_changes) in
    search rules

pub returns-then-frame-eq1-clause-ok : goal.returns-then-frame-eq1-clause-ok
returns-then-frame-eq1-clause-ok c =
    let frame = c.in-Ok.frame in
    let is = c.in-Ok.ensures.frame in
    reads_one frame.kind 1 c.args.bytes.now frame.contents.now frame.rest.now c.if-frame-eq1.true is.1 (λ (k : Chunk). Appends (GivesPairs c.args.only_changes k) c.args.changes.now c.push_change.new.changes) is.0
    (c.in_ok-push_change.ensures.ok c.args.only_changes)

pub returns-then-only_changes-clause-bad : goal.returns-then-only_changes-clause-bad
returns-then-only_changes-clause-bad c =
    let frame = c.in-Ok.frame in
    let is = c.in-Ok.ensures.frame in
    subst (λ only. IsDocumentHere only c.args.bytes.now) (sym c.if-only_changes.true)
    (begins_kind frame.kind 0 c.args.bytes.now frame.contents.now frame.rest.now (kind_zero frame.kind is.0.0 c.if-frame-eq1.false) is.1 (λ contents. ⊤) is.0 tt)

pub returns-in_err-push_document-clause-bad : goal.returns-in_err-push_document-clause-bad
returns-in_err-push_document-clause-bad c =
    let frame = c.in-Ok.frame in
    let is = c.in-Ok.ensures.frame in
    let zero = kind_zero frame.kind is.0.0 c.if-frame-eq1.false in
    let fault = c.in_err-push_document.field-0.0 in
    let bad = wrong_here frame.kind 0 c.args.bytes.now frame.contents.now frame.rest.now zero is.1 c.args.only_changes fault
    (subst (λ only. MatchBad fault (IsWrongWith only (chunk_of 0 frame.contents.now))) (sym c.if-only_changes.false) c.in_err-push_document.ensures.bad) in
    search rules

pub returns-clause-ok : goal.returns-clause-ok
returns-clause-ok c =
    let frame = c.in-Ok.frame in
    let is = c.in-Ok.ensures.frame in
    let zero = kind_zero frame.kind is.0.0 c.if-frame-eq1.false in
    reads_one frame.kind 0 c.args.bytes.now frame.contents.now frame.rest.now zero is.1 (λ (k : Chunk). Appends (GivesPairs c.args.only_changes k) c.args.changes.now c.push_document.new.changes) is.0
    (subst (λ only. Appends (GivesPairs only (chunk_of 0 frame.contents.now)) c.args.changes.now c.push_document.new.changes) (sym c.if-only_changes.false) c.in_ok-push_document.ensures.ok)
