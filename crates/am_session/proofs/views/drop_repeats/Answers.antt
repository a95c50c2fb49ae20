use Rattle.std.proofs.Common.{◌≡◌, ap, sym, ◌∙◌}
use Rattle.std.specs.List.{dedup}
use Rattle.std.proofs.lemmas.List.Filters.{dedup_is}
use Rattle.am_types.specs.declared.Hash.{Hash}
use Rattle.am_types.specs.Same.{same_hash}
use Rattle.am_types.specs.contracts.hash.HashPartialEq.TheImpl.{eq-value}
use Rattle.am_types.proofs.Orders.{same_hash-true, same_hash_itself}
use Rattle.am_cache.specs.Deciding.{hash_Decides}
use Rattle.am_delivery.proofs.Lists.{same_truth}
use Rattle.am_session.proofs.views.drop_repeats.Goals as goal

same_test : (a b : Hash) → eq-value.it a b ≡ same_hash a b
same_test a b =
    same_truth (eq-value.it a b) (same_hash a b)
    (λ t. ap (same_hash a) (sym ((hash_Decides a b).0 t)) ∙ same_hash_itself a)
    (λ t. (hash_Decides a b).1 (same_hash-true a b t))

pub returns : goal.returns
returns c =
    dedup_is eq-value.it c.args.hashes.now.items c.dedup.new.self.items c.dedup.ensures.filtered
    ∙ ap (λ same. dedup same c.args.hashes.now.items) (λ i a b. same_test a b i)
