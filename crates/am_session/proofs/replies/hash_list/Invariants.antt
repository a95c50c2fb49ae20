use Rattle.std.proofs.Common.{◌≡◌, take, string_bytes}
use Rattle.std.specs.Prelude.{flat_map}
use Rattle.am_session.specs.Replies.{hash_line}
use Rattle.am_session.proofs.replies.hash_list.Given as goal

abbrev pub invariant-loop-hash : goal.invariant-loop-hash
invariant-loop-hash l = string_bytes l.lines ≡ flat_map hash_line (take l.hash-index l.hashes)
