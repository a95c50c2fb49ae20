use Rattle.std.proofs.Common.{◌≡◌, arith, sym, ap, ◌∙◌, ◌++◌, subst, Some, map, take}
use Rattle.std.specs.Prelude.{IfSome}
use Rattle.std.specs.Option.{option_map}
use Rattle.am_leb.specs.Leb.{leb}
use Rattle.am_runs.proofs.writer.RunWriter+SignedItem.push_next.Goals as goal

pub returns-clause-few : goal.returns-clause-few
returns-clause-few c =
    let ok = c.in_ok-k.ensures.ok in
    let front = c.literal-literal.ensures ok.0 ok.1 ok.2 (omega (arith, ok.3, c.in_ok-k.ensures.few)) ok.4 in
    (omega (arith, c.in_ok-k.ensures.few), omega (arith, front.0, ok.3))

pub returns-clause-ok : goal.returns-clause-ok
returns-clause-ok c =
    let ok = c.in_ok-k.ensures.ok in
    let front = c.literal-literal.ensures ok.0 ok.1 ok.2 (omega (arith, ok.3, c.in_ok-k.ensures.few)) ok.4 in
    subst (λ added. IfSome c.args.self.now (λ list. c.push_spelled.new.self ≡ Some (list ++ added)))
    (ap (map (option_map leb)) (sym front.1 ∙ ap (λ n. take n c.args.from.now) ok.3)) ok.5
