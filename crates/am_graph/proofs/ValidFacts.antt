-- What each valid set says of its members, however it is listed.
use Rattle.std.proofs.Common.{◌≡◌, List, true, subst, All, Contains, get_or}
use Rattle.std.proofs.lemmas.List.Sorted.{Contains-permutation, IsPermutation-sym}
use Rattle.am_types.specs.Members.{Member, holds}
use Rattle.am_types.specs.ValidSets.{Valid}
use Rattle.am_laws.proofs.Agreement.{held_member, ancestors_shared}
use Rattle.am_laws.proofs.Listed.{Facts, listed, holds_own}

pub valid_facts : (C : List Member) → Valid C → Facts C
valid_facts C v = record {
  closed = closed;
  one_hash = λ m n cm cn. facts.one_hash m n (to m cm) (to n cn);
  one_seq = λ m n cm cn. facts.one_seq m n (to m cm) (to n cn);
  positive = λ m cm. facts.positive m (to m cm);
  seqs = λ m cm. facts.seqs m (to m cm);
  ordered = λ m cm n cn. facts.ordered m (to m cm) n (to n cn);
  chained = λ m cm l. let f = facts.chained m (to m cm) l in
      (f.0, ancestors_shared L C m.change.deps (λ p q cp cq. facts.one_hash p q cp (to q cq)) closed (closed m cm) f.0 f.1, f.2, f.3);
}
  where
    L : List Member
    L = v.listing

    facts : Facts L
    facts = listed L v.in_turn

    to : (m : Member) → Contains C m → Contains L m
    to m = Contains-permutation C L m v.same

    back : (m : Member) → Contains L m → Contains C m
    back m = Contains-permutation L C m (IsPermutation-sym C L v.same)

    closed : (m : Member) → Contains C m → All (λ h. holds C h ≡ true) m.change.deps
    closed m cm k d l =
        let f = held_member L (get_or m.change.deps k d) (facts.closed m (to m cm) k d l) in
        subst (λ h. holds C h ≡ true) f.2 (holds_own C f.0 (back f.0 f.1))
