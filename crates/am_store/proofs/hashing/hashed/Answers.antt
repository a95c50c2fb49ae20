use Rattle.std.proofs.Common.{rules, ◌≡◌, ◌+◌, ◌∷◌, [], ◌++◌, All, take, get_or, ap, ◌∙◌, sym, subst, vec_items}
use Rattle.am_types.specs.Deliver.{MayCome}
use Rattle.am_delivery.specs.Waiting.{members_of}
use Rattle.am_change.specs.Contents.{hash}
use Rattle.am_change.specs.Hashes.{with_hashes}
use Rattle.am_store.proofs.Hashes.{more_hashed, more_may_come}
use Rattle.am_store.proofs.hashing.hashed.Goals as goal

pub loop-change-preserved : goal.loop-change-preserved
loop-change-preserved c =
    let at = c.loop-change in
    let cs = c.args.changes.now in
    let h = c.in_ok-hash.hash in
    let item : c.change-item.result ≡ get_or cs at.change-index c.change-item.result = search rules in
    let own = c.in_ok-hash.ensures ∙ ap hash item in
    let twin = c.in_ok-change.ensures ∙ item in
    let new : vec_items c.push.new.self ≡ vec_items at.pairs ++ (h, c.in_ok-change.change) ∷ [] = search rules in
    record {
      own_hashes = subst (λ ps. members_of ps ≡ with_hashes (take (at.change-index + 1) cs)) (sym new)
          (more_hashed (vec_items at.pairs) cs at.change-index c.change-item.result c.loop-change-test.true h c.in_ok-change.change own twin at.invariant.own_hashes);
      may_come = subst (λ ps. All MayCome (members_of ps)) (sym new)
          (more_may_come (vec_items at.pairs) cs at.change-index c.change-item.result c.loop-change-test.true h c.in_ok-change.change own twin at.invariant.may_come c.hash_known.ensures (c.requires at.change-index c.change-item.result c.loop-change-test.true));
    }
