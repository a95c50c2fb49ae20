-- The canonical contents of a table spell it.
use Rattle.std.proofs.Common.{◌≡◌, ℕ, ◌<◌, ◌≤◌, ◌^◌, List, [], ◌∷◌, ◌++◌, length, Option, Some, None, refl, arith, length-append}
use Rattle.std.specs.Prelude.{IfSome}
use Rattle.std.specs.List.{AllByRecursion, flat_map}
use Rattle.am_leb.specs.Leb.{uleb}
use Rattle.am_leb.proofs.Laws.{length_uleb-pos}
use Rattle.am_types.specs.declared.Hash.{Hash}
use Rattle.am_types.specs.declared.Table.{Table}
use Rattle.am_colmeta.specs.Metadata.{metadata, listing, body as columns_body}
use Rattle.am_colmeta.specs.Actors.{prefixed, actors_bytes, IsPrefixed}
use Rattle.am_fields.specs.Limits.{IsShortActor}
use Rattle.am_change.specs.Contents.{hashes_bytes}
use Rattle.am_change.specs.Fronts.{Has32}
use Rattle.am_doccols.specs.Columns.{written_rows, written_metas}
use Rattle.am_doccols.proofs.MetasSpelled.{metas_spelled}
use Rattle.am_doccols.proofs.RowsSpelled.{rows_spelled}
use Rattle.am_doc.specs.Conditions.{IsWritable, IsReadable}
use Rattle.am_doc.specs.Contents.{suffix_bytes, body}
use Rattle.am_doc.specs.Fronts.{Front, front_bytes, IsFront}
use Rattle.am_doc.specs.Spelling.{IsSuffix, SpellsBehind, SpellsTable}
use Rattle.am_doc.proofs.ListedColumns.{are_metas, are_rows, metas_listed, rows_listed}
use Rattle.am_doc.proofs.FrontLaws.{to_left}

-- ---- parts of bytes that are short are short

record Short (a b e f : List ℕ) : Type 0 where
  actors : length a < 2 ^ 64
  heads : length b < 2 ^ 64
  metas : length e < 2 ^ 64
  rows : length f < 2 ^ 64

short_parts : (a b c d e f g : List ℕ) → length (a ++ (b ++ (c ++ (d ++ (e ++ (f ++ g)))))) < 2 ^ 64 → Short a b e f
short_parts a b c d e f g s =
    let l1 = length-append a (b ++ (c ++ (d ++ (e ++ (f ++ g))))) in
    let l2 = length-append b (c ++ (d ++ (e ++ (f ++ g)))) in
    let l3 = length-append c (d ++ (e ++ (f ++ g))) in
    let l4 = length-append d (e ++ (f ++ g)) in
    let l5 = length-append e (f ++ g) in
    let l6 = length-append f g in
    record { actors = omega arith; heads = omega arith; metas = omega arith; rows = omega arith }

-- an actor has a byte for its length at least
count_actors : (xs : List (List ℕ)) → length xs ≤ length (flat_map prefixed xs)
count_actors [] = omega arith
count_actors (x ∷ xs) =
    let l = length-append (prefixed x) (flat_map prefixed xs) in
    let m = length-append (uleb (length x)) x in
    let one = length_uleb-pos (length x) in
    let more = count_actors xs in
    omega arith

count_hashes : (hs : List Hash) → AllByRecursion Has32 hs → length hs ≤ length (flat_map (λ (h : Hash). h.0) hs)
count_hashes [] all = omega arith
count_hashes (h ∷ hs) all =
    let l = length-append h.0 (flat_map (λ (h : Hash). h.0) hs) in
    let one = all.0 in
    let more = count_hashes hs all.1 in
    omega arith

few_actors : (xs : List (List ℕ)) → length (actors_bytes xs) < 2 ^ 64 → length xs < 2 ^ 64
few_actors xs s =
    let l = length-append (uleb (length xs)) (flat_map prefixed xs) in
    let count = count_actors xs in
    omega arith

few_hashes : (hs : List Hash) → AllByRecursion Has32 hs → length (hashes_bytes hs) < 2 ^ 64 → length hs < 2 ^ 64
few_hashes hs all s =
    let l = length-append (uleb (length hs)) (flat_map (λ (h : Hash). h.0) hs) in
    let count = count_hashes hs all in
    omega arith

all_prefixed : (xs : List (List ℕ)) → AllByRecursion IsShortActor xs → AllByRecursion IsPrefixed xs
all_prefixed [] all = tt
all_prefixed (x ∷ xs) all = (let few = all.0.1 in omega arith, all_prefixed xs all.1)

-- ---- the suffix

suffix_is : (heads metas : ℕ) (suffix : Option (List ℕ)) → IfSome suffix (λ places. (length places ≡ heads) × (0 < heads) × AllByRecursion (λ i. i < metas) places) → IsSuffix heads metas (suffix_bytes suffix) suffix
suffix_is heads metas None h = refl
suffix_is heads metas (Some places) h = (refl, h.0, h.1, h.2)

-- ---- the whole

module _ (t : Table) (w : IsWritable t) (r : IsReadable t) where
  abbrev front : Front
  front = record { actors = t.actors; heads = t.heads; metas = listing (written_metas t.actors t.metas); rows = listing (written_rows t.actors t.rows) }

  abbrev rest : List ℕ
  rest = columns_body (written_metas t.actors t.metas) ++ (columns_body (written_rows t.actors t.rows) ++ suffix_bytes t.suffix)

  abbrev Parts : Type 0
  Parts = Short (actors_bytes t.actors) (hashes_bytes t.heads) (columns_body (written_metas t.actors t.metas)) (columns_body (written_rows t.actors t.rows))

  parts : length (body t) < 2 ^ 64 → Parts
  unfolding body
  parts s = short_parts (actors_bytes t.actors) (hashes_bytes t.heads) (metadata (listing (written_metas t.actors t.metas))) (metadata (listing (written_rows t.actors t.rows)))
      (columns_body (written_metas t.actors t.metas)) (columns_body (written_rows t.actors t.rows)) (suffix_bytes t.suffix) s

  bytes_are : body t ≡ front_bytes front ++ rest
  unfolding body
  bytes_are = to_left front (body t) rest refl

  is_front : Parts → IsFront front
  is_front p = record {
    actors = (few_actors t.actors p.actors, all_prefixed t.actors r.short);
    hashes = r.sized;
    heads = few_hashes t.heads r.sized p.heads;
    metas = metas_listed t.actors t.metas p.metas;
    rows = rows_listed t.actors t.rows p.rows;
  }

  behind : Parts → SpellsBehind front rest t
  behind p = record {
    metas = written_metas t.actors t.metas;
    rows = written_rows t.actors t.rows;
    suffix = suffix_bytes t.suffix;
    joined = refl;
    metas_listed = refl;
    rows_listed = refl;
    are_metas = are_metas t.actors t.metas;
    are_rows = are_rows t.actors t.rows;
    actors = refl;
    heads = refl;
    are_short = r.short;
    ascend = r.heads;
    spells_metas = metas_spelled t.actors t.metas w.metas r.metas w.few_metas w.few_deps (few_actors t.actors p.actors) p.metas;
    spells_rows = rows_spelled t.actors t.rows w.rows r.rows w.few_rows w.few_succs (few_actors t.actors p.actors) p.rows;
    is_suffix = suffix_is (length t.heads) (length t.metas) t.suffix r.places;
  }

  pub contents_spell : length (body t) < 2 ^ 64 → SpellsTable (body t) t
  contents_spell s = let p = parts s in record { front = front; rest = rest; is_front = is_front p; bytes_are = bytes_are; behind = behind p }
