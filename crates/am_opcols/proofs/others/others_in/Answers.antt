use Rattle.std.proofs.Common.{Bor, ℕ, List, map}
use Rattle.am_opcols.proofs.NotedLaws.{noted_others}
use Rattle.am_opcols.proofs.others.others_in.Goals as goal

pub returns : goal.returns
returns g c =
    noted_others c.args.author.now (map g.O.ReadOp.op c.args.ops.now) (map (λ (a : Bor (List ℕ)). a.now) c.in_ok-noted.noted.items) (map (λ (a : Bor (List ℕ)). a.now) c.sort_once.new.actors.items)
    c.in_ok-noted.ensures c.in_ok-sort_once.ensures.up c.in_ok-sort_once.ensures.members
