use Rattle.std.proofs.Common.{rules, ◌∷◌, ◌-◌, ◌<◌, drop, sym, ap, ◌∙◌}
use Rattle.am_change.specs.Building.{hash_with, hashes_in}
use Rattle.am_change.proofs.FrontLaws.{hashes_in-next}
use Rattle.am_change.proofs.hash_list.HashList.next.Goals as goal

pub returns-clause-next : goal.returns-clause-next
returns-clause-next c =
    let r = c.self.inside in
    let some : 0 < r.count = search rules in
    sym c.self.view_is ∙ hashes_in-next r.count r.bytes.now some
    ∙ ap (λ h. h ∷ hashes_in (r.count - 1) (drop 32 r.bytes.now)) (ap hash_with (sym c.split_at.ensures.front) ∙ sym c.hash_in.ensures)
    ∙ ap (λ b. c.hash_in.result ∷ hashes_in (r.count - 1) b) (sym c.split_at.ensures.back)
