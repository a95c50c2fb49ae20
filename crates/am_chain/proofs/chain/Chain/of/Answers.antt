use Rattle.std.proofs.Common.{◌∙◌, ap, sym, arith}
use Rattle.std.proofs.lemmas.List.{drop_all}
use Rattle.am_chain.specs.Insertions.{walked}
use Rattle.am_chain.proofs.InTurn.{walked_elements}
use Rattle.am_chain.proofs.chain.Chain.of.Goals as goal

pub returns-clause-elements : goal.returns-clause-elements
returns-clause-elements c A o xs same distinct listed =
    let ns = c.args.insertions.now in
    ap (walked c.loop-i.chain.nodes c.loop-i.chain.walk) (sym (drop_all c.loop-i.i ns (omega arith)))
    ∙ c.loop-i.invariant.walk
    ∙ walked_elements ns c.requires.turn A o xs same distinct listed
