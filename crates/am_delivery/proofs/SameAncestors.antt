-- The ancestors of held hashes are the same members in every closed set that holds the hashes, where one hash stands for one member.
use Rattle.std.proofs.Common.{◌≡◌, List, get_or, true, sym, subst, All, Contains}
use Rattle.std.proofs.lemmas.List.Elements.{All-contains, Contains-get_or}
use Rattle.am_types.specs.declared.Hash.{Hash}
use Rattle.am_types.specs.Order.{hash_cmp, among}
use Rattle.am_types.specs.Members.{Member, holds}
use Rattle.am_types.specs.Ancestors.{is_named, ancestor_hashes, ancestors}
use Rattle.am_laws.proofs.Ancestry.{ancestors_closed, ancestors_named, ancestors_least, Contains-from_filter}
use Rattle.am_delivery.proofs.Lists.{Within, all_found}
use Rattle.am_delivery.proofs.Members.{among_from, from_among, holder, Closed, Unique}

-- an ancestor is a member, and its hash was wanted
pub ancestor_is : (C : List Member) (hs : List Hash) (m : Member) → Contains (ancestors C hs) m → Contains C m × (among hash_cmp (ancestor_hashes C hs) m.hash ≡ true)
unfolding ancestors
ancestor_is C hs m c = Contains-from_filter (is_named (ancestor_hashes C hs)) C m c

module _ (D : List Member) (unique : Unique D) (B C : List Member) (b : Within B D) (c : Within C D) (closed : Closed C) (hs : List Hash) (held : (h : Hash) → Contains hs h → holds C h ≡ true) where
  -- an ancestor within C has the hash
  abbrev Known : Hash → Type 0
  Known h = (n : Member) × Contains (ancestors C hs) n × (n.hash ≡ h)

  named : All Known hs
  named k d l =
      let h = get_or hs k d in
      let there = Contains-get_or hs k d l in
      let n = holder C h (held h there) in
      (n.0, ancestors_named C hs n.0 n.1 (among_from hs n.0.hash (subst (Contains hs) (sym n.2) there)), n.2)

  passes : (m : Member) → Contains B m → Known m.hash → All Known m.change.deps
  passes m bm known k d l =
      let n = known.0 in
      let cn = (ancestor_is C hs n known.1).0 in
      let same : n ≡ m = unique n m (c n cn) (b m bm) known.2 in
      let h = get_or m.change.deps k d in
      let there : Contains n.change.deps h = subst (λ (o : Member). Contains o.change.deps h) (sym same) (Contains-get_or m.change.deps k d l) in
      let e = holder C h (all_found (holds C) n.change.deps (closed n cn) h there) in
      (e.0, ancestors_closed C hs n e.0 known.1 (among_from n.change.deps e.0.hash (subst (Contains n.change.deps) (sym e.2) there)) e.1, e.2)

  pub ancestors_within : Within (ancestors B hs) (ancestors C hs)
  ancestors_within m a =
      let is = ancestor_is B hs m a in
      let known : Known m.hash = All-contains Known (ancestor_hashes B hs) m.hash (ancestors_least B Known passes hs named) (from_among (ancestor_hashes B hs) m.hash is.1) in
      subst (Contains (ancestors C hs)) (unique known.0 m (c known.0 (ancestor_is C hs known.0 known.1).0) (b m is.0) known.2) known.1
