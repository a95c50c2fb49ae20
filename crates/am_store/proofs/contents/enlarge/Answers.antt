use Rattle.std.proofs.Common.{rules, Bor, ◌≡◌, length, map, sym, ap, subst}
use Rattle.am_types.specs.declared.Change.{Change}
use Rattle.am_delivery.proofs.Arrivals.{nothing_left}
use Rattle.am_store.specs.Contents.{IsLarger, MayBecome}
use Rattle.am_store.proofs.Enlarging.{as_before}
use Rattle.am_store.proofs.contents.enlarge.Goals as goal

pub returns-then-is_empty-clause-ok : goal.returns-then-is_empty-clause-ok
returns-then-is_empty-clause-ok c = λ C E is.
    let none : length c.args.joined.now ≡ 0 = search rules in
    as_before c.args.contents.now (map (λ (x : Bor Change). x.now) c.args.joined.now) c.args.graph.now (ap (map (λ (x : Bor Change). x.now)) (nothing_left c.args.joined.now none)) C E is

pub larger_of-requires : goal.larger_of-requires
larger_of-requires c = subst (λ b. MayBecome b (map (λ (x : Bor Change). x.now) c.args.joined.now) c.args.graph.now) (sym c.as_slice.ensures) c.requires

pub returns-clause-ok : goal.returns-clause-ok
returns-clause-ok c = λ C E is.
    c.in_ok-larger.ensures C E (subst (λ b. IsLarger b (map (λ (x : Bor Change). x.now) c.args.joined.now) c.args.graph.now C E) (sym c.as_slice.ensures) is)
