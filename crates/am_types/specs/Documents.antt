-- What a document file says of a set of changes. (Automerge Binary Document Format, "document chunks"; the order of the
-- change rows and the canonical table are choices of amstore's profile.)
--     used_actors C     the authors and the actors of ids, ascending, each once
--     index C h         the place of the hash h in a list of members
--     metas C           the change rows of a list of members
--     suffix C          the places of the heads in the canonical order, where there are any
--     table C           what the canonical document of the set C says
--     IsMetaOf C m row  row is the change row of m among C
--     History t C       C, in this order, are the changes of which the table t tells
use Rattle.std.specs.Prelude.{ℕ, ◌≡◌, List, [], ◌∷◌, ◌++◌, map, flat_map, Option, Some, None, IsPermutation, All, IsTrue}
use Rattle.std.specs.List.{AllZip, dedup, position_or_len}
use Rattle.am_types.specs.Records.{Hash, ObjId, Root, Made, Key, Name, Head, Elem, Op, Change, Meta, Table}
use Rattle.am_types.specs.Order.{bytes_cmp, among, sorted_by, Ascends}
use Rattle.am_types.specs.Same.{same_bytes, same_hash}
use Rattle.am_types.specs.Operations.{max, all_operations}
use Rattle.am_types.specs.Members.{Member, changes, hashes, heads, DepsFirst}
use Rattle.am_types.specs.ValidSets.{Valid}
use Rattle.am_types.specs.Rows.{rows}
use Rattle.am_types.specs.Canonical.{order}

-- ---- actors

abbrev pub object_actors : ObjId → List (List ℕ)
object_actors Root = []
object_actors (Made i) = i.actor ∷ []

abbrev pub key_actors : Key → List (List ℕ)
key_actors (Name n) = []
key_actors Head = []
key_actors (Elem i) = i.actor ∷ []

-- the actors of the ids that an operation names
abbrev pub op_actors : Op → List (List ℕ)
op_actors op = object_actors op.obj ++ key_actors op.key ++ map (λ i. i.actor) op.preds

-- the authors, and the actors of ids
abbrev pub actors : List Member → List (List ℕ)
actors C = flat_map (λ m. m.change.actor ∷ flat_map op_actors m.change.ops) C

abbrev pub used_actors : List Member → List (List ℕ)
used_actors C = dedup same_bytes (sorted_by bytes_cmp (actors C))

-- ---- change rows

abbrev pub index : List Member → Hash → ℕ
index C h = position_or_len (same_hash h) (hashes C)

-- the change row of c, with these places as its dependencies
abbrev pub meta_of : Change → List ℕ → Meta
meta_of c deps = record {
  actor = c.actor;
  seq = c.seq;
  max = max c;
  time = c.time;
  message = c.message;
  deps = deps;
  extra = c.extra;
}

abbrev pub metas : List Member → List Meta
metas C = map (λ m. meta_of m.change (map (index C) m.change.deps)) C

-- ---- the table

abbrev pub unless_empty : List ℕ → Option (List ℕ)
unless_empty [] = None
unless_empty (i ∷ is) = Some (i ∷ is)

abbrev pub suffix : List Member → Option (List ℕ)
suffix C = unless_empty (map (index (order C)) (heads C))

unfoldable pub table : List Member → Table
table C = record {
  actors = used_actors C;
  heads = heads C;
  metas = metas (order C);
  rows = rows (all_operations (changes C));
  suffix = suffix C;
}

-- ---- history

-- the change row of m among the members C, with its dependencies in any order
abbrev pub IsMetaOf : List Member → Member → Meta → Type 0
IsMetaOf C m meta = (deps : List ℕ) × IsPermutation (map (index C) m.change.deps) deps × (meta ≡ meta_of m.change deps)

-- The heads and the suffix of the table are no part of it, and its actors may be more than those that are used.
pub record History (t : Table) (C : List Member) : Type 0 where
  pub valid : Valid C
  pub deps_first : DepsFirst [] C
  pub metas : AllZip (IsMetaOf C) C t.metas
  pub rows : t.rows ≡ rows (all_operations (changes C))
  pub actors_ascend : Ascends bytes_cmp t.actors
  pub actors : All (λ a. IsTrue (among bytes_cmp t.actors a)) (actors C)
