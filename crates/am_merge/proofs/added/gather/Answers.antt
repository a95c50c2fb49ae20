use Rattle.std.proofs.Common.{◌∙◌, sym, ap, subst}
use Rattle.std.proofs.Math.ListN.{get_or-map}
use Rattle.std.proofs.lemmas.List.{length-map}
use Rattle.am_places.specs.Sound.{HasRoom}
use Rattle.am_merge.proofs.added.gather.Goals as goal

pub push_operations-requires-clause-room : goal.push_operations-requires-clause-room
push_operations-requires-clause-room c =
    let changes = c.args.changes.now in
    let r = c.index-changes-i.result in
    subst HasRoom (get_or-map (λ c. c.now) changes c.loop-i.i r ∙ ap (λ c. c.now) (sym c.index-changes-i.is)) (c.requires.room c.loop-i.i r.now (simp length-map c.loop-i-test.true))
