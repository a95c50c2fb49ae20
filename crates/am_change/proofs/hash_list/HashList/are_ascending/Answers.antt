use Rattle.std.proofs.Common.{sym, subst}
use Rattle.am_types.specs.Order.{hash_cmp, Ascends}
use Rattle.am_opcols.proofs.Chains.{ascends_chain, chain_ascends}
use Rattle.am_change.proofs.hash_list.HashList.are_ascending.Goals as goal

pub returns : goal.returns
returns c = (
  λ h. subst (Ascends hash_cmp) c.self.view_is (chain_ascends hash_cmp _ (c.hashes_ascend.ensures.0 h)),
  λ a. c.hashes_ascend.ensures.1 (ascends_chain hash_cmp _ (subst (Ascends hash_cmp) (sym c.self.view_is) a)),
)
