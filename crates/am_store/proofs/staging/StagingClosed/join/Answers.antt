use Rattle.std.proofs.Common.{◌++◌, sym, subst}
use Rattle.am_types.specs.declared.Hash.{Hash}
use Rattle.am_types.specs.declared.Change.{Change}
use Rattle.am_types.specs.ValidSets.{Joins}
use Rattle.am_delivery.specs.Waiting.{member_of, members_of}
use Rattle.am_store.specs.Grown.{Grown, AreGrown}
use Rattle.am_store.proofs.Grows.{grown_more, by_result}
use Rattle.am_store.proofs.staging.StagingClosed.join.Goals as goal

pub invariant_of-self : goal.invariant_of-self
invariant_of-self c =
    let old = c.self.inside.old.entries in
    let fresh = c.self.inside.fresh.entries in
    let t = c.self.inside.totals in
    let are = c.self.invariant.grown in
    let x : Hash × Change = (c.args.hash, c.args.change.now) in
    let more = c.grow.new.fresh.entries in
    let h = c.grow.new.graph in
    let iy = c.grow.new.index in
    let joins = subst (λ (g : Grown). Joins (members_of (g.old ++ g.fresh)) (member_of x)) (sym c.self.view_is) c.requires.joins in
    record {
      grown = by_result c.grow.result c.grow.ensures.fresh c.grow.ensures.of_set c.grow.ensures.graph c.grow.ensures.index c.grow.ensures.none
          (λ e adds. grown_more c.joined_is_valid.ensures old fresh more x c.self.inside.graph h c.self.inside.index iy t are joins e adds)
          (λ g i f. subst (λ l. AreGrown old l h iy t) (sym f) (subst (λ q. AreGrown old fresh q iy t) (sym g) (subst (λ q. AreGrown old fresh c.self.inside.graph q t) (sym i) are)));
      valid = c.self.invariant.valid;
      contents = c.self.invariant.contents;
      staged = c.self.invariant.staged;
    }
