-- What is judged of the bare table of a document, of the document.
use Rattle.std.proofs.Common.{ℕ, ◌≡◌, ◌<◌, ◌^◌, List, [], ◌∷◌, ◌++◌, map, flat_map, None, All, IsTrue, refl, sym, ap, ◌∙◌, subst}
use Rattle.std.specs.Prelude.{Result, Ok, Err, IsErrAnd}
use Rattle.std.specs.List.{AllByRecursion}
use Rattle.std.proofs.lemmas.List.Elements.{All-from_recursion, recursion_from_All}
use Rattle.std.proofs.lemmas.List.Sorted.{IsPermutation-sym, All-permutation}
use Rattle.am_types.specs.declared.OpId.{OpId}
use Rattle.am_types.specs.declared.Change.{Change}
use Rattle.am_types.specs.declared.Hash.{Hash}
use Rattle.am_types.specs.declared.Meta.{Meta}
use Rattle.am_types.specs.declared.Row.{Row}
use Rattle.am_types.specs.declared.Table.{Table}
use Rattle.am_types.specs.Order.{bytes_cmp, among}
use Rattle.am_types.specs.Members.{Member, changes, heads}
use Rattle.am_types.specs.ValidSets.{Valid, JoinInTurn}
use Rattle.am_types.specs.Deliver.{MayCome}
use Rattle.am_types.specs.Fine.{Fine}
use Rattle.am_types.specs.Documents.{History, object_actors, key_actors}
use Rattle.am_change.specs.Hashes.{own_hash, with_hash, with_hashes}
use Rattle.am_delivery.specs.Waiting.{member_of, members_of}
use Rattle.am_fields.specs.Limits.{IsShortActor, IsBelow}
use Rattle.am_fields.proofs.Lists.{all-append}
use Rattle.am_laws.specs.Tables as tables
use Rattle.am_doc.specs.Sound.{IsSound}
use Rattle.am_histories.specs.Laws.{AreHashedBy, table_actors, row_actors}
use Rattle.am_rebuild.specs.declared.fault.RebuildFault.{RebuildFault}
use Rattle.am_rebuild.specs.declared.fault.RebuildFault.TheVariants.{NoMemory}
use Rattle.am_rebuild.specs.declared.rebuilt.Rebuilt.{Rebuilt}
use Rattle.am_rebuild.specs.Documents.{bare, IsHistoryOf, Rebuilds, changes_of, changes_rebuilt, AreOwn}
use Rattle.am_rebuild.specs.Judged.{IsLeastApart, IsTheHistory}

-- ---- members beside their own hashes

own_one : (m : Member) → m.hash ≡ own_hash m.change → m ≡ with_hash m.change
own_one m e = λ i. record { hash = e i; change = m.change }

own_members : (R : List Member) → AllByRecursion (λ (m : Member). m.hash ≡ own_hash m.change) R → R ≡ with_hashes (changes R)
own_members [] a = refl
own_members (m ∷ R) a = λ i. own_one m a.0 i ∷ own_members R a.1 i

are_own : (cs : List Change) → AllByRecursion (λ (m : Member). m.hash ≡ own_hash m.change) (with_hashes cs)
are_own [] = tt
are_own (c ∷ cs) = (refl, are_own cs)

changes_back : (cs : List Change) → changes (with_hashes cs) ≡ cs
changes_back [] = refl
changes_back (c ∷ cs) = ap (λ (l : List Change). c ∷ l) (changes_back cs)

hashed : (cs : List Change) → AreHashedBy own_hash (with_hashes cs)
hashed cs = All-from_recursion (λ (m : Member). m.hash ≡ own_hash m.change) (with_hashes cs) (are_own cs)

-- ---- the places of the heads are no part of a history

to_bare : (t : Table) (C : List Member) → History t C → History (bare t) C
to_bare t C h = record { valid = h.valid; deps_first = h.deps_first; metas = h.metas; rows = h.rows; actors_ascend = h.actors_ascend; actors = h.actors }

from_bare : (t : Table) (C : List Member) → History (bare t) C → History t C
from_bare t C h = record { valid = h.valid; deps_first = h.deps_first; metas = h.metas; rows = h.rows; actors_ascend = h.actors_ascend; actors = h.actors }

pub as_own : (t : Table) (R : List Member) → IsTheHistory own_hash (bare t) R → R ≡ with_hashes (changes R)
as_own t R h = own_members R (recursion_from_All (λ (m : Member). m.hash ≡ own_hash m.change) R h.hashed)

pub history_of : (t : Table) (R : List Member) → IsTheHistory own_hash (bare t) R → IsHistoryOf t (changes R)
history_of t R h = record {
  history = subst (History t) (as_own t R h) (from_bare t R h.history);
  one = λ ds k. sym (changes_back ds) ∙ ap changes (h.one (with_hashes ds) (hashed ds) (to_bare t (with_hashes ds) k));
}

pub no_history_of : (t : Table) → ((C : List Member) → AreHashedBy own_hash C → History (bare t) C → ⊥) → (cs : List Change) → History t (with_hashes cs) → ⊥
no_history_of t none cs h = none (with_hashes cs) (hashed cs) (to_bare t (with_hashes cs) h)

-- ---- a sound table can be copied and judged

maxes_below : (metas : List Meta) → AllByRecursion (IsBelow 0 (2 ^ 53)) (map (λ (m : Meta). m.max) metas) → AllByRecursion (λ (m : Meta). m.max < 2 ^ 53) metas
maxes_below [] a = tt
maxes_below (m ∷ metas) a = (a.0.1, maxes_below metas a.1)

pub maxes_of : (t : Table) → IsSound t → All (λ (m : Meta). m.max < 2 ^ 53) t.metas
maxes_of t s = All-from_recursion (λ (m : Meta). m.max < 2 ^ 53) t.metas (maxes_below t.metas (s.metas).maxes)

short_authors : (metas : List Meta) → AllByRecursion IsShortActor (map (λ (m : Meta). m.actor) metas) → AllByRecursion (λ (m : Meta). IsShortActor m.actor) metas
short_authors [] a = tt
short_authors (m ∷ metas) a = (a.0, short_authors metas a.1)

pub authors_of : (t : Table) → IsSound t → AllByRecursion (λ (m : Meta). IsShortActor m.actor) t.metas
authors_of t s = short_authors t.metas (s.metas).authors

split : {A : Type 0} (P : A → Type 0) (xs ys : List A) → AllByRecursion P (xs ++ ys) → AllByRecursion P xs × AllByRecursion P ys
split P [] ys a = (tt, a)
split P (x ∷ xs) ys a = let again = split P xs ys a.1 in ((a.0, again.0), again.1)

abbrev Among : List (List ℕ) → List ℕ → Type 0
Among actors a = IsTrue (among bytes_cmp actors a)

row_named : (actors : List (List ℕ)) (r : Row) → AllByRecursion (Among actors) (tables.row_actors r) → AllByRecursion (Among actors) (row_actors r)
row_named actors r a =
    let objects = object_actors r.obj in
    let keys = key_actors r.key in
    let ids = map (λ (i : OpId). i.actor) r.succs in
    let first = split (Among actors) objects (keys ++ ids) a.1 in
    let second = split (Among actors) keys ids first.1 in
    all-append (Among actors) (objects ++ keys) (r.id.actor ∷ ids) (all-append (Among actors) objects keys first.0 second.0) (a.0, second.1)

rows_named : (actors : List (List ℕ)) (rows : List Row) → AllByRecursion (λ (r : Row). All (Among actors) (tables.row_actors r)) rows → AllByRecursion (Among actors) (flat_map row_actors rows)
rows_named actors [] a = tt
rows_named actors (r ∷ rows) a =
    all-append (Among actors) (row_actors r) (flat_map row_actors rows) (row_named actors r (recursion_from_All (Among actors) (tables.row_actors r) a.0)) (rows_named actors rows a.1)

authors_named : (actors : List (List ℕ)) (metas : List Meta) → AllByRecursion (λ (m : Meta). Among actors m.actor) metas → AllByRecursion (Among actors) (map (λ (m : Meta). m.actor) metas)
authors_named actors [] a = tt
authors_named actors (m ∷ metas) a = (a.0, authors_named actors metas a.1)

pub actors_of : (t : Table) → IsSound t → All (Among t.actors) (table_actors t)
actors_of t s =
    All-from_recursion (Among t.actors) (table_actors t)
    (all-append (Among t.actors) (map (λ (m : Meta). m.actor) t.metas) (flat_map row_actors t.rows)
    (authors_named t.actors t.metas (recursion_from_All (λ (m : Meta). Among t.actors m.actor) t.metas s.authors))
    (rows_named t.actors t.rows (recursion_from_All (λ (r : Row). All (Among t.actors) (tables.row_actors r)) t.rows s.named)))

-- ---- what is answered

pub whole : (t : Table) (R : List Member) (cs : List Change) → IsTheHistory own_hash (bare t) R → heads R ≡ t.heads → cs ≡ changes R → IsHistoryOf t cs × (heads (with_hashes cs) ≡ t.heads)
whole t R cs h same e = (subst (IsHistoryOf t) (sym e) (history_of t R h), ap (λ l. heads (with_hashes l)) e ∙ sym (ap heads (as_own t R h)) ∙ same)

pub other : (t : Table) (R : List Member) (h : Hash) → IsTheHistory own_hash (bare t) R → IsLeastApart (heads R) t.heads h → (cs : List Change) × IsHistoryOf t cs × IsLeastApart (heads (with_hashes cs)) t.heads h
other t R h is apart = (changes R, history_of t R is, subst (λ (C : List Member). IsLeastApart (heads C) t.heads h) (as_own t R is) apart)

-- ---- entries

changes_same : (es : List (Hash × Change)) → changes_of es ≡ changes (members_of es)
changes_same [] = refl
changes_same (e ∷ es) = ap (λ (l : List Change). e.1 ∷ l) (changes_same es)

in_turn_come : (B L : List Member) → JoinInTurn B L → AllByRecursion MayCome L
in_turn_come B [] j = tt
in_turn_come B (m ∷ L) j = (record { hash = j.0.hash; fine = j.0.fine }, in_turn_come (B ++ m ∷ []) L j.1)

pub valid_come : (C : List Member) → Valid C → All MayCome C
valid_come C v = All-permutation MayCome v.listing C (IsPermutation-sym C v.listing v.same) (All-from_recursion MayCome v.listing (in_turn_come [] v.listing v.in_turn))

module _ (t : Table) (R : List Member) (es : List (Hash × Change)) (same : members_of es ≡ R) (h : IsTheHistory own_hash (bare t) R) where
  pub entries_whole : heads R ≡ t.heads → IsHistoryOf t (changes_of es) × (heads (with_hashes (changes_of es)) ≡ t.heads)
  entries_whole k = whole t R (changes_of es) h k (changes_same es ∙ ap changes same)

  pub entries_own : AreOwn es
  entries_own = same ∙ as_own t R h ∙ sym (ap (λ (cs : List Change). with_hashes cs) (changes_same es ∙ ap changes same))

  pub entries_come : All MayCome (members_of es)
  entries_come = subst (All MayCome) (sym same) (valid_come R h.history.valid)

-- ---- the parts of a table that were read

module _ (t : Table) (actors : List (List ℕ)) (hs : List Hash) (ms : List Meta) (rs : List Row) (a : actors ≡ t.actors) (h : hs ≡ t.heads) (m : ms ≡ t.metas) (r : rs ≡ t.rows) where
  pub read_is_bare : record { actors = actors; heads = hs; metas = ms; rows = rs; suffix = None } ≡ bare t
  read_is_bare = λ i. record { actors = a i; heads = h i; metas = m i; rows = r i; suffix = None }

-- ---- an entry that is let go

come_here : (before rest : List (Hash × Change)) (x : Hash × Change) → AllByRecursion MayCome (members_of (before ++ x ∷ rest)) → MayCome (member_of x)
come_here [] rest x a = a.0
come_here (e ∷ before) rest x a = come_here before rest x a.1

pub comes_fine : (es before rest : List (Hash × Change)) (x : Hash × Change) → before ++ x ∷ rest ≡ es → All MayCome (members_of es) → Fine x.1
comes_fine es before rest x e all = (come_here before rest x (recursion_from_All MayCome (members_of (before ++ x ∷ rest)) (subst (λ l. All MayCome (members_of l)) (sym e) all))).fine

-- where there was no memory nothing is said
pub no_memory : (t : Table) (r : Result Rebuilt RebuildFault) → IsErrAnd r (λ e. e ≡ NoMemory) → Rebuilds t (changes_rebuilt r)
no_memory t (Ok x) e = absurd e
no_memory t (Err fault) e = subst (λ (f : RebuildFault). Rebuilds t (Err f)) (sym e) tt
