-- What the canonical table of a valid set meets, so that it can be written.
--     authors C                    the actors of the members of C
--     row_actors r                 the actors that a row names
--     RowWithin actors r           the numbers, texts and values of a row are within their limits, its actors are listed
--     MetaWithin actors count m    the same of a change row, whose dependencies are places below count
--     TableWithin t                each row and change row is so, and the table is within the limits of one document
use Rattle.std.specs.Prelude.{ℕ, ◌≡◌, ◌≤◌, ◌<◌, ◌^◌, ◌<ℤ◌, neg_ℤ, pos, List, ◌∷◌, ◌++◌, length, map, sum_by, All, IfSome, IsTrue, IsUtf8}
use Rattle.std.specs.List.{dedup}
use Rattle.am_laws.specs.Records.{Row, Meta, Table}
use Rattle.am_types.specs.Bytes.{IsBytes}
use Rattle.am_types.specs.Order.{bytes_cmp, among, sorted_by}
use Rattle.am_types.specs.Same.{same_bytes}
use Rattle.am_types.specs.Fine.{IsId, IsObject, IsKey}
use Rattle.am_types.specs.Values.{Good}
use Rattle.am_types.specs.Members.{Member}
use Rattle.am_types.specs.ValidSets.{Valid}
use Rattle.am_types.specs.Documents.{object_actors, key_actors, used_actors, table}
use Rattle.am_types.specs.Limits.{counter_end, greatest_action, most_changes, most_operations}

abbrev pub authors : List Member → List (List ℕ)
authors C = map (λ m. m.change.actor) C

abbrev pub IsListed : List (List ℕ) → List ℕ → Type 0
IsListed actors a = IsTrue (among bytes_cmp actors a)

abbrev pub row_actors : Row → List (List ℕ)
row_actors r = r.id.actor ∷ (object_actors r.obj ++ (key_actors r.key ++ map (λ i. i.actor) r.succs))

pub record RowWithin (actors : List (List ℕ)) (r : Row) : Type 0 where
  pub object : IsObject r.obj
  pub key : IsKey r.key
  pub id : IsId r.id
  pub action : r.action ≤ greatest_action
  pub value : Good r.value
  pub mark : IfSome r.mark IsUtf8
  pub succs : All IsId r.succs
  pub listed : All (IsListed actors) (row_actors r)

pub record MetaWithin (actors : List (List ℕ)) (count : ℕ) (m : Meta) : Type 0 where
  pub actor : IsListed actors m.actor
  pub seq : (1 ≤ m.seq) × (m.seq < counter_end)
  pub max : m.max < counter_end
  pub time : (neg_ℤ (pos (2 ^ 62)) <ℤ m.time) × (m.time <ℤ pos (2 ^ 62))
  pub message : IsUtf8 m.message
  pub deps : All (λ i. i < count) m.deps
  pub extra : IsBytes m.extra
  pub short_extra : length m.extra < 2 ^ 60

pub record TableWithin (t : Table) : Type 0 where
  pub rows : All (RowWithin t.actors) t.rows
  pub few_rows : length t.rows ≤ most_operations
  pub few_succs : sum_by (λ r. length r.succs) t.rows ≤ most_operations
  pub metas : All (MetaWithin t.actors (length t.metas)) t.metas
  pub few_metas : length t.metas ≤ most_changes
  pub few_deps : sum_by (λ m. length m.deps) t.metas ≤ most_operations

-- the canonical table of a valid set is within the limits of one document
abbrev pub TableIsWithin : Type 0
TableIsWithin = (C : List Member) → Valid C → TableWithin (table C)

-- the actors that a valid set uses are the authors of its members
abbrev pub ActorsAreAuthors : Type 0
ActorsAreAuthors = (C : List Member) → Valid C → used_actors C ≡ dedup same_bytes (sorted_by bytes_cmp (authors C))
