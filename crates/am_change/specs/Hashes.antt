-- Changes beside their own hashes.
--     own_hash c          the hash of the change c
--     own_pair c          the change c behind its hash
--     with_hash c         the same, as a member of a set
--     with_hashes cs      the changes cs, each beside its own hash
use Rattle.std.specs.Prelude.{List, map}
use Rattle.am_types.specs.declared.Hash.{Hash}
use Rattle.am_types.specs.declared.Change.{Change}
use Rattle.am_types.specs.Members.{Member}
use Rattle.am_change.specs.Contents.{hash}

abbrev pub own_hash : Change → Hash
own_hash c = record { 0 = hash c }

abbrev pub own_pair : Change → Hash × Change
own_pair c = (own_hash c, c)

abbrev pub with_hash : Change → Member
with_hash c = record { hash = own_hash c; change = c }

abbrev pub with_hashes : List Change → List Member
with_hashes cs = map with_hash cs
