use Rattle.std.proofs.Common.{sym, subst}
use Rattle.am_types.specs.Order.{id_cmp}
use Rattle.am_opcols.specs.Chains.{Chain}
use Rattle.am_opcols.proofs.Chains.{chain_ascends, ascends_chain}
use Rattle.am_change.proofs.fine_op.ids_ascend.Goals as goal

pub returns : goal.returns
returns c = (
  λ e. chain_ascends id_cmp c.args.ids.now (subst (Chain id_cmp) c.again.ensures (c.ids_chain.ensures.0 e)),
  λ a. c.ids_chain.ensures.1 (subst (Chain id_cmp) (sym c.again.ensures) (ascends_chain id_cmp c.args.ids.now a)),
)
