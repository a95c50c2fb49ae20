-- What decides where a change stands in the canonical order.
--     rank_of r       the depth, the actor, the seq and the hash of r
--     rank_in C m     those of the member m of C
use Rattle.std.specs.Prelude.{ℕ, List}
use Rattle.am_types.specs.declared.Hash.{Hash}
use Rattle.am_types.specs.Members.{Member}
use Rattle.am_types.specs.Canonical.{depth}
use Rattle.am_graph.specs.declared.canonical.Rank.{Rank}

abbrev pub Ranked : Type 0
Ranked = ℕ × (List ℕ × (ℕ × Hash))

abbrev pub rank_of : Rank → Ranked
rank_of r = (r.depth, (r.actor.now, (r.seq, r.hash)))

abbrev pub rank_in : List Member → Member → Ranked
rank_in C m = (depth C m.change, (m.change.actor, (m.change.seq, m.hash)))
