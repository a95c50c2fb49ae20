use Rattle.std.proofs.Common.{◌≡◌, arith, sym, ◌++◌, subst, Some}
use Rattle.std.specs.Prelude.{IfSome}
use Rattle.am_runs.proofs.Neighbours.{spelled_again}
use Rattle.am_runs.proofs.writer.RunWriter+SignedItem.push_spelled.Goals as goal

pub returns-clause-ok : goal.returns-clause-ok
returns-clause-ok c =
    let ok = c.in_ok-k.ensures.ok in
    let again = spelled_again c.args.bytes.now ok.0 _ (λ i. omega (arith, c.type_inv.bytes i)) ok.1 ok.3 in
    (ok.0, _, ok.1, ok.2, ok.3, subst (λ added. IfSome c.args.self.now (λ list. c.push_apart.new.self ≡ Some (list ++ added))) (sym again) ok.4)
