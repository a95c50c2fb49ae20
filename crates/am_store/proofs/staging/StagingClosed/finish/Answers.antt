use Rattle.std.proofs.Common.{◌≡◌, ◌++◌, Bor, map, append-nil, sym, ap, subst, ◌∙◌}
use Rattle.am_types.specs.declared.Change.{Change}
use Rattle.am_types.specs.ValidSets.{Valid}
use Rattle.am_fits.specs.Indexes.{AreOf}
use Rattle.am_delivery.specs.Waiting.{members_of}
use Rattle.am_store.specs.Grown.{Grown}
use Rattle.am_store.specs.Staging.{AreStaged}
use Rattle.am_store.proofs.Grows.{begun}
use Rattle.am_store.proofs.Stagings.{more_staged}
use Rattle.am_store.proofs.staging.StagingClosed.finish.Goals as goal

pub invariant_of-self : goal.invariant_of-self
invariant_of-self c = record {
  grown = c.self.invariant.grown;
  valid = c.self.invariant.valid;
  contents = c.self.invariant.contents;
  staged = subst (AreStaged c.self.inside.written.entries c.self.inside.old.entries) (sym c.in_err-stage.ensures.err) c.self.invariant.staged;
}

pub invariant_of-self-2 : goal.invariant_of-self-2
invariant_of-self-2 c =
    let inside = c.self.inside in
    let inv = c.self.invariant in
    let E = c.requires.joined.0 in
    let e = subst (λ (g : Grown). members_of (g.old ++ g.fresh) ≡ members_of g.old ++ E) (sym c.self.view_is) c.requires.joined.1 in
    let cs = map (λ (x : Bor Change). x.now) c.args.joined.now in
    let all = sym c.both-self-inside.ensures in
    let of = subst (λ es. AreOf (members_of es) inside.graph inside.index) all inv.grown.of_set in
    let valid = subst (λ es. Valid (members_of es)) all inv.grown.valid in
    record {
      grown = begun c.both-self-inside.result.entries c.none-self-inside.result.entries inside.graph inside.index c.totals-self-inside.result c.none-self-inside.ensures of valid c.totals-self-inside.ensures;
      valid = valid;
      contents = inv.contents;
      staged = more_staged inside.written.entries inside.old.entries inside.fresh.entries c.both-self-inside.result.entries inside.staged.items c.stage.new.staged.items inv.staged E e cs c.requires.joined.2 c.requires.joined.3
          c.both-self-inside.ensures c.in_ok-stage.ensures.ok;
    }

pub returns-clause-members : goal.returns-clause-members
returns-clause-members c =
    let all : c.both-self-inside.result.entries ++ c.none-self-inside.result.entries ≡ c.self.inside.old.entries ++ c.self.inside.fresh.entries = (λ i. c.both-self-inside.ensures i ++ c.none-self-inside.ensures i) ∙ append-nil (c.self.inside.old.entries ++ c.self.inside.fresh.entries) in
    ap members_of all ∙ ap (λ (g : Grown). members_of (g.old ++ g.fresh)) c.self.view_is

pub returns-clause-rest : goal.returns-clause-rest
returns-clause-rest c = ap members_of c.both-self-inside.ensures ∙ ap (λ (g : Grown). members_of (g.old ++ g.fresh)) c.self.view_is
