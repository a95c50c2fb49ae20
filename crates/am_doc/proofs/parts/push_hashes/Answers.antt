use Rattle.std.proofs.Common.{length, ◌++◌, append_assoc, ap, ◌∙◌}
use Rattle.std.specs.List.{flat_map}
use Rattle.am_types.specs.declared.Hash.{Hash}
use Rattle.am_leb.specs.Leb.{uleb}
use Rattle.am_doc.proofs.Turns.{given_all}
use Rattle.am_doc.proofs.parts.push_hashes.Goals as goal

pub returns : goal.returns
returns c =
    let hashes = c.args.hashes.now in
    given_all (λ (h : Hash). h.0) c.push_u.new.out.items hashes c.loop-hash.hash-index c.loop-hash.out.items c.loop-hash-test.false c.loop-hash.invariant
    ∙ ap (λ b. b ++ flat_map (λ (h : Hash). h.0) hashes) c.in_ok-push_u.ensures.ok ∙ append_assoc c.args.out.now.items (uleb (length hashes)) (flat_map (λ (h : Hash). h.0) hashes)
