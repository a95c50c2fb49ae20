use Rattle.std.proofs.Common.{ap, ◌∙◌, rules, FitsSigned, w64}
use Rattle.std.proofs.lemmas.Int.{to_z-of_z}
use Rattle.am_leb.specs.Leb.{uleb, leb}
use Rattle.am_colmeta.specs.Actors.{prefixed}
use Rattle.am_change.specs.Contents.{hashes_bytes}
use Rattle.am_change.proofs.Joined.{six, OnOk-then}
use Rattle.am_change.proofs.write.push_head.Goals as goal

pub returns : goal.returns
returns g c =
    let fits : FitsSigned w64 c.time.result = search rules in
    let back = to_z-of_z w64 c.time.result fits in
    OnOk-then c.push_prefixed-2.result _ _ (λ last. six c.args.out.now.items _ _ _ _ _ _ _ _ _ _ _ _ _ _ _ _ _ _
    c.in_ok-push_hashes.ensures c.in_ok-push_prefixed.ensures c.in_ok-push_u.ensures.ok c.in_ok-push_u-2.ensures.ok c.in_ok-push_i.ensures.ok last
    (ap hashes_bytes c.deps.ensures) (ap prefixed (c.as_slice.ensures.value ∙ c.actor.ensures)) (ap uleb c.seq.ensures) (ap uleb c.start.ensures) (ap leb (back ∙ c.time.ensures))
    (ap prefixed (c.as_bytes.ensures.value ∙ c.message.ensures))) c.push_prefixed-2.ensures
