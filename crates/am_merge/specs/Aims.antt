-- Who names which of some operations, by places. Here A are operations, and p x n says that n names x.
--     one_at A k            the operation of A at the place k, if there is one
--     picked A ks           the operations of A at these places
--     stacked_at A ks       those of a stack of places whose top is last, the top first
--     means_id, means_element     n names x as a predecessor, or as an element of the object of x, which x inserts
--     places_to aims k        the places of those that name what is at the place k, by these aims, in their order
--     namers A aims k         these operations
--     AreAims p A ns aims  aims tell what ns name among A
--     Tells p A ns t        t has aims that tell what ns name among A, and their links
--     AreLinked t           t has the links of its aims: where those to each place begin, and which comes next
use Rattle.std.specs.Prelude.{ℕ, Bool, ◌≡◌, ◌<◌, ◌==◌, ◌&&◌, All, List, [], ◌∷◌, drop, filter, length, map, reverse, take}
use Rattle.std.specs.List.{flat_map}
use Rattle.am_types.specs.declared.ObjId.TheVariants.{Root}
use Rattle.am_types.specs.Same.{same_id, same_object}
use Rattle.am_types.specs.Operations.{Operation}
use Rattle.am_merge.specs.Buckets.{AreLinks}
use Rattle.am_merge.specs.Naming.{Named, is_named}
use Rattle.am_merge.specs.declared.aims.Aim.{Aim}
use Rattle.am_merge.specs.declared.aims.Aims.{Aims}

abbrev pub one_at : List Operation → ℕ → List Operation
one_at A k = take 1 (drop k A)

abbrev pub picked : List Operation → List ℕ → List Operation
picked A ks = flat_map (one_at A) ks

abbrev pub stacked_at : List Operation → List ℕ → List Operation
stacked_at A ks = picked A (reverse ks)

abbrev pub means_id : Operation → Named → Bool
means_id x n = is_named Root x.id n

abbrev pub means_element : Operation → Named → Bool
means_element x n = (x.op.insert && same_object n.obj x.op.obj) && same_id n.id x.id

abbrev pub places_to : List Aim → ℕ → List ℕ
places_to aims k = map (λ a. a.place) (filter (λ a. a.target == k) aims)

abbrev pub namers : List Operation → List Aim → ℕ → List Operation
namers A aims k = picked A (places_to aims k)

pub record AreAims (p : Operation → Named → Bool) (A : List Operation) (ns : List Named) (aims : List Aim) : Type 0 where
  pub targets : All (λ a. a.target < length A) aims
  pub places : All (λ a. a.place < length A) aims
  pub tell : (k : ℕ) (x : Operation) → one_at A k ≡ x ∷ [] → namers A aims k ≡ map (λ n. n.operation) (filter (p x) ns)

pub record AreLinked (t : Aims) : Type 0 where
  pub nexts : length t.nexts.items ≡ length t.aims.items
  pub links : AreLinks (λ a. a.target) t.aims.items 0 t.heads.items t.nexts.items

pub record Tells (p : Operation → Named → Bool) (A : List Operation) (ns : List Named) (t : Aims) : Type 0 where
  pub are : AreAims p A ns t.aims.items
  pub linked : AreLinked t
  pub heads : length t.heads.items ≡ length A
