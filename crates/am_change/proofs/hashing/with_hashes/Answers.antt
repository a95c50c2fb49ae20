use Rattle.std.proofs.Common.{rules, ◌≡◌, ◌∷◌, [], ◌++◌, get_or, ap, ◌∙◌, subst, vec_items}
use Rattle.am_types.specs.Deliver.{MayCome}
use Rattle.am_change.specs.Hashes.{own_pair, with_hash}
use Rattle.am_change.proofs.OwnHashes.{more_pairs, more_may_come}
use Rattle.am_change.proofs.hashing.with_hashes.Goals as goal

pub loop-change-preserved : goal.loop-change-preserved
loop-change-preserved c =
    let at = c.loop-change in
    let cs = c.args.changes.now in
    let d = c.change-item.result in
    let item : d ≡ get_or cs at.change-index d = search rules in
    let same = c.in_ok-copy.ensures ∙ item in
    let new : vec_items c.push.new.self ≡ vec_items at.pairs ++ c.in_ok-pair.pair ∷ [] = search rules in
    record {
      own = new ∙ more_pairs cs at.change-index d c.loop-change-test.true (vec_items at.pairs) c.in_ok-pair.pair (c.in_ok-pair.ensures.own ∙ ap own_pair same) at.invariant.own;
      may_come = more_may_come cs at.change-index d c.loop-change-test.true at.invariant.may_come (subst (λ x. MayCome (with_hash x)) same c.in_ok-pair.ensures.may_come);
    }
