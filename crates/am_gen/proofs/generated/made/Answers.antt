use Rattle.std.proofs.Common.{◌≡◌, ◌≢◌, ◌<◌, [], ◌∷◌, ◌++◌, sym, subst, rules, arith}
use Rattle.std.specs.BTreeSet.{insert_key}
use Rattle.am_types.specs.Order.{hash_cmp}
use Rattle.am_types.specs.Bytes.{IsHash}
use Rattle.am_types.specs.Fine.{Fine}
use Rattle.am_change.specs.Hashes.{own_hash}
use Rattle.am_gen.specs.Made.{in_round}
use Rattle.am_gen.proofs.Fineness.{fine_first}
use Rattle.am_gen.proofs.Keeping.{kept_start, kept_fine, kept_over, kept_on, kept_end}
use Rattle.am_gen.proofs.generated.made.Goals as goal
use Rattle.am_gen.proofs.generated.made.Goals.{then-author-eq2, else-author-eq2}

pub digest_of-requires : goal.digest_of-requires
digest_of-requires c = subst Fine (sym c.in_ok-start.ensures) fine_first

pub loop-count-init : goal.loop-count-init
loop-count-init c =
    kept_start c.args.n c.in_ok-start.start c.in_ok-digest_of.field-0 _ _ _ (search (rules, arith)) (search rules) (search rules) (search rules) (search rules) (search rules) (search rules) (search rules)

pub digest_of-requires-in-loop-count : goal.digest_of-requires-in-loop-count
digest_of-requires-in-loop-count c =
    let is : c.in_ok-change.change ≡ in_round c.loop-count.round c.loop-count.author c.loop-count.before = search rules in
    subst Fine (sym is) (kept_fine c.args.n c.loop-count.count c.loop-count.round c.loop-count.author c.loop-count.before c.loop-count.here c.loop-count.changes c.loop-count.invariant (search rules))

pub loop-count-preserved : goal.loop-count-preserved
loop-count-preserved c =
    let more : c.loop-count.count < c.args.n = search rules in
    let change : c.in_ok-change.change ≡ in_round c.loop-count.round c.loop-count.author c.loop-count.before = search rules in
    let digest : c.in_ok-digest_of-2.field-0 ≡ own_hash c.in_ok-change.change = search rules in
    let is : IsHash c.in_ok-digest_of-2.field-0 = search rules in
    let with_is : c.in_ok-with_this.with_this ≡ insert_key hash_cmp c.loop-count.here c.in_ok-digest_of-2.field-0 = search rules in
    let grown : c.push-in-loop-count.new.self ≡ c.loop-count.changes ++ c.in_ok-change.change ∷ [] = search rules in
    elim c.if-author-eq2.branch [
      | then-author-eq2 w ↦
          let two : c.loop-count.author ≡ 2 = search rules in
          let now = kept_over c.args.n c.loop-count.count c.loop-count.round c.loop-count.author c.loop-count.before c.loop-count.here c.loop-count.changes c.loop-count.invariant more
          c.in_ok-change.change c.in_ok-digest_of-2.field-0 c.in_ok-with_this.with_this c.push-in-loop-count.new.self change digest is with_is grown two in
          search rules
      | else-author-eq2 w ↦
          let other : c.loop-count.author ≢ 2 = search rules in
          let now = kept_on c.args.n c.loop-count.count c.loop-count.round c.loop-count.author c.loop-count.before c.loop-count.here c.loop-count.changes c.loop-count.invariant more
          c.in_ok-change.change c.in_ok-digest_of-2.field-0 c.in_ok-with_this.with_this c.push-in-loop-count.new.self change digest is with_is grown other in
          search rules
    ]

pub returns-clause-list : goal.returns-clause-list
returns-clause-list c = kept_end c.args.n c.loop-count.count c.loop-count.round c.loop-count.author c.loop-count.before c.loop-count.here c.loop-count.changes c.loop-count.invariant (search rules)
