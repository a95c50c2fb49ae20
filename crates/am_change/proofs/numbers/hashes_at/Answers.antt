use Rattle.std.proofs.Common.{◌≡◌, ◌≤◌, ◌*◌, ◌++◌, length, arith, append_assoc, ◌∙◌}
use Rattle.std.specs.List.{flat_map}
use Rattle.am_leb.specs.Leb.{uleb}
use Rattle.am_change.proofs.FrontLaws.{hashes_is, hashes_room, hashes_only}
use Rattle.am_change.proofs.numbers.hashes_at.Goals as goal

pub returns-then-count-body-clause-only : goal.returns-then-count-body-clause-only
returns-then-count-body-clause-only c = λ hashes rest a small e.
    let flat = flat_map (λ h. h.0) hashes in
    let same = c.in_ok-count.ensures.only (length hashes) (flat ++ rest) small (e ∙ append_assoc (uleb (length hashes)) flat rest) in
    let count : c.in_ok-count.count ≡ length hashes = same.0 in
    let room : 32 * length hashes ≤ length c.in_ok-count.body.now = hashes_room hashes c.in_ok-count.body.now rest a same.1 in
    omega arith

pub returns-clause-some : goal.returns-clause-some
returns-clause-some c = (
  hashes_is c.args.bytes.now c.in_ok-count.body.now c.split_at.result.0.now c.split_at.result.1.now c.in_ok-count.count (c.in_ok-count.count * 32) c.in_ok-count.ensures.some.0 c.split_at.ensures.front c.split_at.ensures.back c.split_at.ensures.front_len (omega arith),
  omega (arith, c.split_at.ensures.front_len),
  c.in_ok-count.ensures.some.1,
)

pub returns-clause-only : goal.returns-clause-only
returns-clause-only c = λ hashes rest a small e.
    let flat = flat_map (λ h. h.0) hashes in
    let same = c.in_ok-count.ensures.only (length hashes) (flat ++ rest) small (e ∙ append_assoc (uleb (length hashes)) flat rest) in
    hashes_only hashes c.in_ok-count.body.now c.split_at.result.0.now c.split_at.result.1.now rest c.in_ok-count.count (c.in_ok-count.count * 32) a same.0 (omega arith) same.1 c.split_at.ensures.front c.split_at.ensures.back
