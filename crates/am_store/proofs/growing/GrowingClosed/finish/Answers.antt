use Rattle.std.proofs.Common.{◌≡◌, ◌++◌, Bor, map, append-nil, sym, ap, subst, ◌∙◌}
use Rattle.am_types.specs.declared.Change.{Change}
use Rattle.am_types.specs.ValidSets.{Valid}
use Rattle.am_fits.specs.Indexes.{AreOf}
use Rattle.am_delivery.specs.Waiting.{members_of}
use Rattle.am_store.specs.Contents.{IsContents}
use Rattle.am_store.specs.Grown.{Grown}
use Rattle.am_store.proofs.Grows.{begun, is_larger, larger_contents}
use Rattle.am_store.proofs.growing.GrowingClosed.finish.Goals as goal

pub enlarge-requires : goal.enlarge-requires
enlarge-requires c =
    let inside = c.self.inside in
    let inv = c.self.invariant in
    let E = c.requires.joined.0 in
    let e = subst (λ (g : Grown). members_of (g.old ++ g.fresh) ≡ members_of g.old ++ E) (sym c.self.view_is) c.requires.joined.1 in
    record {
      before = members_of inside.old.entries;
      added = E;
      larger = is_larger inside.old.entries inside.fresh.entries inside.graph inside.index inside.totals inv.grown inside.contents inv.contents E e (map (λ (x : Bor Change). x.now) c.args.joined.now) c.requires.joined.2;
    }

pub invariant_of-self : goal.invariant_of-self
invariant_of-self c = record {
  grown = c.self.invariant.grown;
  contents = subst (IsContents (members_of c.self.inside.old.entries)) (sym c.in_err-enlarge.ensures.err) c.self.invariant.contents;
  held = c.self.invariant.held;
}

pub invariant_of-self-2 : goal.invariant_of-self-2
invariant_of-self-2 c =
    let inside = c.self.inside in
    let inv = c.self.invariant in
    let E = c.requires.joined.0 in
    let e = subst (λ (g : Grown). members_of (g.old ++ g.fresh) ≡ members_of g.old ++ E) (sym c.self.view_is) c.requires.joined.1 in
    let cs = map (λ (x : Bor Change). x.now) c.args.joined.now in
    let larger = is_larger inside.old.entries inside.fresh.entries inside.graph inside.index inside.totals inv.grown inside.contents inv.contents E e cs c.requires.joined.2 in
    let made = c.in_ok-enlarge.ensures.ok (members_of inside.old.entries) E larger in
    let all = sym c.both-self-inside.ensures in
    let of = subst (λ es. AreOf (members_of es) inside.graph inside.index) all inv.grown.of_set in
    let valid = subst (λ es. Valid (members_of es)) all inv.grown.valid in
    record {
      grown = begun c.both-self-inside.result.entries c.none-self-inside.result.entries inside.graph inside.index c.totals-self-inside.result c.none-self-inside.ensures of valid c.totals-self-inside.ensures;
      contents = subst (λ es. IsContents (members_of es) c.enlarge.new.contents) all
          (larger_contents inside.old.entries inside.fresh.entries inside.graph inside.index inside.totals inv.grown inside.contents inv.contents E e cs c.requires.joined.2 c.requires.joined.3 c.enlarge.new.contents made);
      held = tt;
    }

pub returns-clause-members : goal.returns-clause-members
returns-clause-members c =
    let all : c.both-self-inside.result.entries ++ c.none-self-inside.result.entries ≡ c.self.inside.old.entries ++ c.self.inside.fresh.entries = (λ i. c.both-self-inside.ensures i ++ c.none-self-inside.ensures i) ∙ append-nil (c.self.inside.old.entries ++ c.self.inside.fresh.entries) in
    ap members_of all ∙ ap (λ (g : Grown). members_of (g.old ++ g.fresh)) c.self.view_is

pub returns-clause-rest : goal.returns-clause-rest
returns-clause-rest c = ap members_of c.both-self-inside.ensures ∙ ap (λ (g : Grown). members_of (g.old ++ g.fresh)) c.self.view_is
