use mir.Val.{to_z, of_z}
use Rattle.std.proofs.Common.{◌≡◌, ◌++◌, ◌∙◌, w64}
use Rattle.std.proofs.lemmas.Int.{to_z-of_z}
use Rattle.am_leb.specs.Leb.{uleb, leb}
use Rattle.am_colmeta.specs.Actors.{prefixed, actors_bytes}
use Rattle.am_colmeta.specs.Metadata.{metadata}
use Rattle.am_change.proofs.FrontLaws.{reading, read_is, from_left, front-same}
use Rattle.am_change.proofs.front.FrontRef.read.Goals as goal

pub returns-in_err-others-clause-only : goal.returns-in_err-others-clause-only
returns-in_err-others-clause-only c = λ f rest is e.
    let r5 = actors_bytes f.others ++ (metadata f.listed ++ rest) in
    let r3 = prefixed f.message ++ r5 in
    let r1 = uleb f.seq ++ (uleb f.start ++ (leb f.time ++ r3)) in
    let deps = c.in_ok-count.ensures.only f.deps (prefixed f.actor ++ r1) is.hashes is.deps (from_left f c.args.bytes.now rest e) in
    let actor = c.in_ok-actor.ensures.only f.actor r1 is.actor deps.1 in
    let stamps = c.in_ok-seq.ensures.only f.seq f.start f.time r3 is.seq is.start is.time actor.1 in
    let message = c.in_ok-message.ensures.only f.message r5 is.message stamps.3 in
    absurd (c.in_err-others.ensures.only f.others f.listed rest is.others is.listed message.1)

pub returns-clause-some : goal.returns-clause-some
returns-clause-some c =
    let count = c.in_ok-count.ensures.some in
    let actor = c.in_ok-actor.ensures.some in
    let stamps = c.in_ok-seq.ensures.some in
    let message = c.in_ok-message.ensures.some in
    let lists = c.in_ok-others.ensures.some in
    let back : to_z w64 (of_z w64 c.in_ok-seq.time) ≡ c.in_ok-seq.time = to_z-of_z w64 c.in_ok-seq.time stamps.3 in
    let read = read_is c.args.bytes.now c.in_ok-count.hashes.now c.in_ok-actor.actor.now c.in_ok-message.message.now c.in_ok-count.rest.now c.in_ok-actor.rest.now c.in_ok-seq.rest.now c.in_ok-message.rest.now c.in_ok-others.rest.now
    c.in_ok-count.count c.in_ok-seq.seq c.in_ok-seq.start c.in_ok-seq.time (to_z w64 (of_z w64 c.in_ok-seq.time)) c.in_ok-others.others c.in_ok-others.listed back
    count.0 count.1 count.2 actor.0 actor.1 stamps.0 stamps.1 stamps.2 stamps.3 message.0 message.1 lists.0 lists.1 lists.2 in
    (read.0, read.1, count.1)

pub returns-clause-only : goal.returns-clause-only
returns-clause-only c = λ f rest is e.
    let r5 = actors_bytes f.others ++ (metadata f.listed ++ rest) in
    let r3 = prefixed f.message ++ r5 in
    let r1 = uleb f.seq ++ (uleb f.start ++ (leb f.time ++ r3)) in
    let deps = c.in_ok-count.ensures.only f.deps (prefixed f.actor ++ r1) is.hashes is.deps (from_left f c.args.bytes.now rest e) in
    let actor = c.in_ok-actor.ensures.only f.actor r1 is.actor deps.1 in
    let stamps = c.in_ok-seq.ensures.only f.seq f.start f.time r3 is.seq is.start is.time actor.1 in
    let message = c.in_ok-message.ensures.only f.message r5 is.message stamps.3 in
    let lists = c.in_ok-others.ensures.only f.others f.listed rest is.others is.listed message.1 in
    let back : to_z w64 (of_z w64 c.in_ok-seq.time) ≡ c.in_ok-seq.time = to_z-of_z w64 c.in_ok-seq.time c.in_ok-seq.ensures.some.3 in (
      front-same (reading c.in_ok-count.count c.in_ok-count.hashes.now c.in_ok-actor.actor.now c.in_ok-seq.seq c.in_ok-seq.start (to_z w64 (of_z w64 c.in_ok-seq.time)) c.in_ok-message.message.now c.in_ok-others.others c.in_ok-others.listed) f
          deps.0 actor.0 stamps.0 stamps.1 (back ∙ stamps.2) message.0 lists.0 lists.1,
      lists.2,
    )
