-- What the fields of a store stand for.
use Rattle.std.proofs.Common.{ℕ, ◌≡◌, List, refl, sym, subst}
use Rattle.am_delivery.specs.Waiting.{members_of}
use Rattle.am_store.specs.Contents.{IsContents}
use Rattle.am_store.specs.Growing.{ArePartsOf}
use Rattle.am_store.specs.Whole.{IsWhole, kept_in}
use Rattle.am_store.specs.declared.store.Store.TheInside.{Inside}
use Rattle.am_store.proofs.Taking.{closed_own}

module _ (s : Inside) (is : IsWhole s) where
  its_contents : IsContents (members_of s.closed.entries) s.contents
  its_contents = record {
    valid = is.kept.stored.valid;
    own_hashes = closed_own (kept_in s) is.kept;
    bytes_are = is.contents;
  }

  -- lent bytes are its contents
  pub lent : (bytes : List ℕ) → bytes ≡ s.contents → IsContents (members_of s.closed.entries) bytes
  lent bytes e = subst (IsContents (members_of s.closed.entries)) (sym e) its_contents

  pub its_parts : ArePartsOf s.closed.entries (record { closed = s.closed; contents = s.contents; graph = s.graph; index = s.index })
  its_parts = record { closed = refl; contents = its_contents; of_set = is.of_set }
