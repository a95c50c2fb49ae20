-- A table that contents spell is sound.
use Rattle.std.proofs.Common.{ℕ, zero, suc, ◌≡◌, List, [], ◌∷◌, ◌++◌, map, Option, Some, None, Bool, true, false, ◌||◌, refl, sym, ap, ◌∙◌, subst, All}
use Rattle.std.specs.Prelude.{option_map, slice_get}
use Rattle.std.specs.List.{AllByRecursion}
use Rattle.std.specs.Ordering.{is_eq}
use Rattle.std.proofs.lemmas.Cmp.{nat_list_cmp_total, tied_itself}
use Rattle.std.proofs.lemmas.List.Elements.{All-from_recursion}
use Rattle.am_types.specs.declared.OpId.{OpId}
use Rattle.am_types.specs.declared.ObjId.{ObjId}
use Rattle.am_types.specs.declared.ObjId.TheVariants.{Root, Made}
use Rattle.am_types.specs.declared.Key.{Key}
use Rattle.am_types.specs.declared.Key.TheVariants.{Name, Head, Elem}
use Rattle.am_types.specs.declared.Row.{Row}
use Rattle.am_types.specs.declared.Meta.{Meta}
use Rattle.am_types.specs.declared.Table.{Table}
use Rattle.am_types.specs.Documents.{object_actors, key_actors}
use Rattle.am_types.specs.Order.{bytes_cmp, hash_cmp, among, Ascends}
use Rattle.am_laws.specs.Tables.{IsListed, row_actors}
use Rattle.am_fields.specs.Columns as columns
use Rattle.am_fields.specs.Layout.{object_actor, key_actor, id_actor, flat}
use Rattle.am_fields.specs.Limits.{IsShortActor}
use Rattle.am_fields.proofs.Lists.{all-append}
use Rattle.am_doccols.specs.Columns.{SpellsRows, SpellsMetas}
use Rattle.am_doccols.proofs.RowLaws.{objects_of, keys_of, ids_of, succs_of}
use Rattle.am_doccols.proofs.MetaLaws.{authors_of}
use Rattle.am_doc.specs.Spelling.{SpellsTable}
use Rattle.am_doc.specs.Sound.{IsSound}

abbrev IfListed : List (List ℕ) → Option (List ℕ) → Type 0
IfListed actors None = Unit {0}
IfListed actors (Some a) = IsListed actors a

-- ---- places name actors that are listed

is_there : (actors : List (List ℕ)) (k : ℕ) (a : List ℕ) → slice_get actors k ≡ Some a → IsListed actors a
is_there [] k a e = absurd (cc)
is_there (x ∷ xs) zero a e =
    let same : a ≡ x = cc in
    ap (λ b. b || among bytes_cmp xs a) (ap (λ (y : List ℕ). is_eq (bytes_cmp a y)) (sym same) ∙ ap is_eq (tied_itself nat_list_cmp_total a))
is_there (x ∷ xs) (suc k) a e = either (is_eq (bytes_cmp a x)) (among bytes_cmp xs a) (is_there xs k a e)
  where
    either : (b c : Bool) → c ≡ true → (b || c) ≡ true
    either true c r = refl
    either false c r = r

named_one : (actors : List (List ℕ)) (place : Option ℕ) (name : Option (List ℕ)) → option_map (slice_get actors) place ≡ option_map Some name → IfListed actors name
named_one actors place None e = tt
named_one actors None (Some a) e = absurd (cc)
named_one actors (Some k) (Some a) e = is_there actors k a (cc)

named_all : (actors : List (List ℕ)) (places : List (Option ℕ)) (names : List (Option (List ℕ))) → columns.Name actors places names → AllByRecursion (IfListed actors) names
named_all actors places [] e = tt
named_all actors [] (n ∷ names) e = absurd (cc)
named_all actors (p ∷ places) (n ∷ names) e =
    let first : option_map (slice_get actors) p ≡ option_map Some n = cc in
    let more : map (option_map (slice_get actors)) places ≡ map (option_map Some) names = cc in
    (named_one actors p n first, named_all actors places names more)

spelled_all : (actors : List (List ℕ)) (bytes : List ℕ) (names : List (Option (List ℕ))) → columns.SpellsActors actors bytes names → AllByRecursion (IfListed actors) names
spelled_all actors bytes names (places, s, named) = named_all actors places names named

-- ---- what rows and change rows name

object_listed : (actors : List (List ℕ)) (o : ObjId) → IfListed actors (object_actor o) → AllByRecursion (IsListed actors) (object_actors o)
object_listed actors Root l = tt
object_listed actors (Made i) l = (l, tt)

key_listed : (actors : List (List ℕ)) (k : Key) → IfListed actors (key_actor k) → AllByRecursion (IsListed actors) (key_actors k)
key_listed actors (Name n) l = tt
key_listed actors Head l = tt
key_listed actors (Elem i) l = (l, tt)

-- those of the first list, and those of the others
ids_split : (actors : List (List ℕ)) (xs ys : List OpId) → AllByRecursion (IfListed actors) (map id_actor (xs ++ ys)) → AllByRecursion (IsListed actors) (map (λ (i : OpId). i.actor) xs) × AllByRecursion (IfListed actors) (map id_actor ys)
ids_split actors [] ys l = (tt, l)
ids_split actors (x ∷ xs) ys l = let again = ids_split actors xs ys l.1 in ((l.0, again.0), again.1)

row_named : (actors : List (List ℕ)) (r : Row) → IfListed actors (object_actor r.obj) → IfListed actors (key_actor r.key) → IsListed actors r.id.actor → AllByRecursion (IsListed actors) (map (λ (i : OpId). i.actor) r.succs) → All (IsListed actors) (row_actors r)
row_named actors r o k i s =
    All-from_recursion (IsListed actors) (row_actors r) (
      i,
      all-append (IsListed actors) (object_actors r.obj) (key_actors r.key ++ map (λ (j : OpId). j.actor) r.succs) (object_listed actors r.obj o)
          (all-append (IsListed actors) (key_actors r.key) (map (λ (j : OpId). j.actor) r.succs) (key_listed actors r.key k) s),
    )

rows_named : (actors : List (List ℕ)) (rows : List Row) → AllByRecursion (IfListed actors) (map object_actor (map (λ (r : Row). r.obj) rows)) → AllByRecursion (IfListed actors) (map key_actor (map (λ (r : Row). r.key) rows)) → AllByRecursion (IfListed actors) (map id_actor (map (λ (r : Row). r.id) rows))
    → AllByRecursion (IfListed actors) (map id_actor (flat (map (λ (r : Row). r.succs) rows))) → AllByRecursion (λ (r : Row). All (IsListed actors) (row_actors r)) rows
rows_named actors [] o k i s = tt
rows_named actors (r ∷ rows) o k i s =
    let parts = ids_split actors r.succs (flat (map (λ (x : Row). x.succs) rows)) s in
    (row_named actors r o.0 k.0 i.0 parts.0, rows_named actors rows o.1 k.1 i.1 parts.1)

authors_named : (actors : List (List ℕ)) (metas : List Meta) → AllByRecursion (IfListed actors) (map Some (map (λ (m : Meta). m.actor) metas)) → AllByRecursion (λ (m : Meta). IsListed actors m.actor) metas
authors_named actors [] l = tt
authors_named actors (m ∷ metas) l = (l.0, authors_named actors metas l.1)

all_rows : (actors : List (List ℕ)) (cs : List (ℕ × List ℕ)) (rows : List Row) → SpellsRows actors cs rows → All (λ (r : Row). All (IsListed actors) (row_actors r)) rows
all_rows actors cs rows s =
    let o = objects_of actors cs rows s in
    let k = keys_of actors cs rows s in
    let i = ids_of actors cs rows s in
    let g = (succs_of actors cs rows s).ids in
    All-from_recursion (λ (r : Row). All (IsListed actors) (row_actors r)) rows
    (rows_named actors rows
    (spelled_all actors _ (map object_actor (map (λ (r : Row). r.obj) rows)) o.actor_column)
    (spelled_all actors _ (map key_actor (map (λ (r : Row). r.key) rows)) k.actor_column)
    (spelled_all actors _ (map id_actor (map (λ (r : Row). r.id) rows)) i.actor_column)
    (spelled_all actors _ (map id_actor (flat (map (λ (r : Row). r.succs) rows))) g.actor_column))

all_authors : (actors : List (List ℕ)) (cs : List (ℕ × List ℕ)) (metas : List Meta) → SpellsMetas actors cs metas → All (λ (m : Meta). IsListed actors m.actor) metas
all_authors actors cs metas s =
    All-from_recursion (λ (m : Meta). IsListed actors m.actor) metas
    (authors_named actors metas (spelled_all actors _ (map Some (map (λ (m : Meta). m.actor) metas)) (authors_of actors cs metas s).actor_column))

-- ---- the table

pub sound : (bytes : List ℕ) (t : Table) → SpellsTable bytes t → IsSound t
sound bytes t s =
    let b = s.behind in
    record {
      rows = (b.spells_rows).within;
      metas = (b.spells_metas).within;
      heads = subst (Ascends hash_cmp) (sym b.heads) b.ascend;
      short = subst (λ (actors : List (List ℕ)). All IsShortActor actors) (sym b.actors) (All-from_recursion IsShortActor (s.front).actors b.are_short);
      authors = subst (λ (actors : List (List ℕ)). All (λ (m : Meta). IsListed actors m.actor) t.metas) (sym b.actors) (all_authors (s.front).actors b.metas t.metas b.spells_metas);
      named = subst (λ (actors : List (List ℕ)). All (λ (r : Row). All (IsListed actors) (row_actors r)) t.rows) (sym b.actors) (all_rows (s.front).actors b.rows t.rows b.spells_rows);
    }
