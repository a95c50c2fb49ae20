use Rattle.std.proofs.Common.{◌<◌, List, length, ap, ◌∙◌, arith}
use Rattle.std.proofs.lemmas.List.{length-map}
use Rattle.am_types.specs.declared.Hash.{Hash}
use Rattle.am_types.specs.declared.Change.{Change}
use Rattle.am_types.specs.Members.{Member}
use Rattle.am_delivery.specs.Waiting.{member_of}
use Rattle.am_histories.specs.Rebuilt.{hash_at}
use Rattle.am_rebuild.proofs.Entries.{hash_there}
use Rattle.am_rebuild.proofs.gathered.Gathered.hash_at.Goals as goal

pub returns : goal.returns
returns c =
    let es = c.self.inside.entries.items in
    let count = length-map es member_of in
    let same = ap length c.self.view_is in
    let below = c.requires in
    let within : c.args.place < length es = omega (arith, count, same, below) in
    ap (λ (x : Hash × Change). x.0) c.index.ensures ∙ hash_there es c.args.place c.index.result.now within ∙ ap (λ (C : List Member). hash_at C c.args.place) c.self.view_is
