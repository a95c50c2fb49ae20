use Rattle.std.proofs.Common.{◌≡◌, List, ◌∷◌, ◌++◌, [], sym, ap, ◌∙◌, subst}
use Rattle.std.proofs.lemmas.Bool.{false≢true}
use Rattle.am_types.specs.declared.Hash.{Hash}
use Rattle.am_types.specs.Members.{Member}
use Rattle.am_types.specs.ValidSets.{Joins}
use Rattle.am_change.specs.Hashes.{own_hash}
use Rattle.am_delivery.specs.Waiting.{members_of}
use Rattle.am_rebuild.proofs.gathered.Gathered.join.Goals as goal

pub may_join-requires-clause-set : goal.may_join-requires-clause-set
may_join-requires-clause-set c = record { set = members_of c.self.inside.entries.items; of_set = c.self.invariant.of_set; valid = c.self.invariant.valid }

pub returns-then-not-branch : goal.returns-then-not-branch
returns-then-not-branch c = λ j.
    let now = c.args.self.now in
    let own : own_hash c.args.change ≡ c.in_ok-hash.hash = λ i. record { 0 = sym c.in_ok-hash.ensures i } in
    let joins = subst (λ (h : Hash). Joins now (record { hash = h; change = c.args.change })) own j in
    let told = (c.in_ok-may_join.ensures (members_of c.self.inside.entries.items) c.self.invariant.of_set c.self.invariant.valid).1
    (subst (λ (C : List Member). Joins C (record { hash = c.in_ok-hash.hash; change = c.args.change })) (sym c.self.view_is) joins) in
    false≢true (sym c.if-not-branch.true ∙ told)

pub grow-requires : goal.grow-requires
grow-requires c =
    subst (λ (C : List Member). Joins C (record { hash = c.in_ok-hash.hash; change = c.args.change })) c.self.view_is
    ((c.in_ok-may_join.ensures (members_of c.self.inside.entries.items) c.self.invariant.of_set c.self.invariant.valid).0 c.if-not-branch.false)

pub returns : goal.returns
returns c =
    let now = c.args.self.now in
    let own : c.in_ok-hash.hash ≡ own_hash c.args.change = λ i. record { 0 = c.in_ok-hash.ensures i } in
    let joins =
    subst (λ (C : List Member). Joins C (record { hash = c.in_ok-hash.hash; change = c.args.change })) c.self.view_is
    ((c.in_ok-may_join.ensures (members_of c.self.inside.entries.items) c.self.invariant.of_set c.self.invariant.valid).0 c.if-not-branch.false) in (
      subst (λ (h : Hash). Joins now (record { hash = h; change = c.args.change })) own joins,
      c.in_ok-grow.ensures.ok ∙ ap (λ (h : Hash). now ++ record { hash = h; change = c.args.change } ∷ []) own,
    )
