use Rattle.std.proofs.Common.{sym, length, ◌≤◌, arith}
use Rattle.am_cache.proofs.Looking.{with_text-test}
use Rattle.am_cache.proofs.cache.Cache.put.Goals as goal

pub returns-clause-ok : goal.returns-clause-ok
returns-clause-ok c =
    let few : length c.self.inside.views.entries ≤ 16 = omega (arith, c.len-count.ensures.valid.1, c.self.invariant) in
    let same = with_text-test c.args.view c.args.text c.self.inside.views c.self.inside.hits c.self.invariant few in
    rw (c.in_ok-put.ensures.entries, ← c.self.view_is) (sym same)
