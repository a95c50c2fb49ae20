-- Contents spell one table at most.
use Rattle.std.proofs.Common.{◌≡◌, ℕ, ◌≤◌, ◌^◌, List, ◌++◌, length, Option, refl, sym, ap, ◌∙◌, subst, arith}
use Rattle.am_types.specs.declared.Hash.{Hash}
use Rattle.am_types.specs.declared.Meta.{Meta}
use Rattle.am_types.specs.declared.Row.{Row}
use Rattle.am_types.specs.declared.Table.{Table}
use Rattle.am_colmeta.specs.Metadata.{metadata, total, listing, body, pair_bytes}
use Rattle.am_colmeta.specs.Actors.{actors_bytes, prefixed}
use Rattle.am_colmeta.proofs.Splitting.{pair-Splits, prefixed-Splits, counted-Splits}
use Rattle.am_colmeta.proofs.Cutting.{total-listing}
use Rattle.am_colmeta.proofs.Judging.{one_cut}
use Rattle.am_fields.proofs.Lists.{same_parts}
use Rattle.am_change.specs.Contents.{hashes_bytes}
use Rattle.am_change.proofs.FrontLaws.{hashes-split}
use Rattle.am_doccols.specs.Columns.{SpellsMetas, SpellsRows}
use Rattle.am_doccols.proofs.OneReading.{metas-same, rows-same}
use Rattle.am_doc.specs.Fronts.{Front, front_bytes, IsFront}
use Rattle.am_doc.specs.Spelling.{IsSuffix, SpellsBehind, SpellsTable}
use Rattle.am_doc.proofs.FrontLaws.{from_left, front_same}
use Rattle.am_doc.proofs.Places.{suffix_one}

-- no front begins another
pub front_splits : (f g : Front) (r s : List ℕ) → IsFront f → IsFront g → front_bytes f ++ r ≡ front_bytes g ++ s → (f ≡ g) × (r ≡ s)
front_splits f g r s p q e =
    let r3 = metadata f.rows ++ r in
    let s3 = metadata g.rows ++ s in
    let r2 = metadata f.metas ++ r3 in
    let s2 = metadata g.metas ++ s3 in
    let r1 = hashes_bytes f.heads ++ r2 in
    let s1 = hashes_bytes g.heads ++ s2 in
    let whole : actors_bytes f.actors ++ r1 ≡ actors_bytes g.actors ++ s1 = sym (from_left f (front_bytes f ++ r) r refl) ∙ from_left g (front_bytes f ++ r) s e in
    let actors = counted-Splits prefixed prefixed-Splits f.actors g.actors r1 s1 whole in
    let heads = hashes-split f.heads g.heads r2 s2 p.hashes q.hashes actors.1 in
    let metas = counted-Splits pair_bytes pair-Splits f.metas g.metas r3 s3 heads.1 in
    let rows = counted-Splits pair_bytes pair-Splits f.rows g.rows r s metas.1 in
    (front_same f g actors.0 heads.0 metas.0 rows.0, rows.1)

-- columns that are listed alike stand first in one way
columns_split : (xs ys : List (ℕ × List ℕ)) (listed : List (ℕ × ℕ)) (r s : List ℕ) → listing xs ≡ listed → listing ys ≡ listed → body xs ++ r ≡ body ys ++ s → (xs ≡ ys) × (r ≡ s)
columns_split xs ys listed r s a b e =
    let size : length (body xs) ≡ length (body ys) = sym (total-listing xs) ∙ ap total (a ∙ sym b) ∙ total-listing ys in
    let parts = same_parts (body xs) (body ys) r s size e in
    (one_cut listed (body ys) xs ys (record { listed_are = a; bytes_are = parts.0 }) (record { listed_are = b; bytes_are = refl }), parts.1)

abbrev table_with : List (List ℕ) → List Hash → List Meta → List Row → Option (List ℕ) → Table
table_with actors heads metas rows suffix = record { actors = actors; heads = heads; metas = metas; rows = rows; suffix = suffix }

table_same : (t u : Table) → t.actors ≡ u.actors → t.heads ≡ u.heads → t.metas ≡ u.metas → t.rows ≡ u.rows → t.suffix ≡ u.suffix → t ≡ u
table_same t u a b c d e =
    ap (λ x. table_with x t.heads t.metas t.rows t.suffix) a
    ∙ ap (λ x. table_with u.actors x t.metas t.rows t.suffix) b
    ∙ ap (λ x. table_with u.actors u.heads x t.rows t.suffix) c
    ∙ ap (λ x. table_with u.actors u.heads u.metas x t.suffix) d
    ∙ ap (λ x. table_with u.actors u.heads u.metas u.rows x) e

-- the columns are short enough for a program's numbers
few : (t : Table) (columns : List (ℕ × List ℕ)) (actors : List (List ℕ)) → SpellsMetas actors columns t.metas → length t.metas ≤ 2 ^ 64
few t columns actors s = let n = (s.within).few in omega (arith, n)

behind_same : (f : Front) (rest : List ℕ) (t u : Table) → SpellsBehind f rest t → SpellsBehind f rest u → t ≡ u
behind_same f rest t u p q =
    let metas = columns_split p.metas q.metas f.metas (body p.rows ++ p.suffix) (body q.rows ++ q.suffix) p.metas_listed q.metas_listed (sym p.joined ∙ q.joined) in
    let rows = columns_split p.rows q.rows f.rows p.suffix q.suffix p.rows_listed q.rows_listed metas.1 in
    let same_metas : t.metas ≡ u.metas = metas-same f.actors q.metas t.metas u.metas (subst (λ (cs : List (ℕ × List ℕ)). SpellsMetas f.actors cs t.metas) metas.0 p.spells_metas) q.spells_metas in
    let same_rows : t.rows ≡ u.rows = rows-same f.actors q.rows t.rows u.rows (subst (λ (cs : List (ℕ × List ℕ)). SpellsRows f.actors cs t.rows) rows.0 p.spells_rows) q.spells_rows in
    let P : ℕ → List ℕ → Type 0 = λ n b. IsSuffix (length f.heads) n b t.suffix in
    let there = subst (λ n. P n q.suffix) (ap length same_metas) (subst (P (length t.metas)) rows.1 p.is_suffix) in
    table_same t u (p.actors ∙ sym q.actors) (p.heads ∙ sym q.heads) same_metas same_rows
    (suffix_one (length f.heads) (length u.metas) q.suffix t.suffix u.suffix (few u q.metas f.actors q.spells_metas) there q.is_suffix)

pub one_table : (bytes : List ℕ) (t u : Table) → SpellsTable bytes t → SpellsTable bytes u → t ≡ u
one_table bytes t u p q =
    let same = front_splits p.front q.front p.rest q.rest p.is_front q.is_front (sym p.bytes_are ∙ q.bytes_are) in
    behind_same q.front q.rest t u (subst (λ (r : List ℕ). SpellsBehind q.front r t) same.1 (subst (λ (f : Front). SpellsBehind f p.rest t) same.0 p.behind)) q.behind
