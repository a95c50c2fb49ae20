use Rattle.std.proofs.Common.{sym, subst}
use Rattle.am_change.specs.Judgement.{HasOwnHashes}
use Rattle.am_store.proofs.Taking.{own_of}
use Rattle.am_store.proofs.store.Store.deliver.Goals as goal

pub take-requires-clause-own_hashes : goal.take-requires-clause-own_hashes
take-requires-clause-own_hashes c = subst HasOwnHashes (sym c.in_ok-pairs.ensures.own_hashes) (own_of c.as_slice.result.now)
