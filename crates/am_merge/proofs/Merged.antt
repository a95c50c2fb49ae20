-- The parts of the document of a larger set.
use Rattle.std.proofs.Common.{ℕ, ◌≡◌, ◌≤◌, ◌^◌, List, [], ◌∷◌, ◌++◌, length, map, Option, Some, None, option_map, Bor, All, Contains, refl, sym, ap, ◌∙◌, subst, inl, inr}
use Rattle.std.specs.Prelude.{IfSome}
use Rattle.std.specs.List.{AllByRecursion, dedup}
use Rattle.std.proofs.lemmas.Bool.{cases_Bool}
use Rattle.std.proofs.lemmas.List.{length-map}
use Rattle.std.proofs.lemmas.List.Elements.{All-contains, All-from_recursion}
use Rattle.std.proofs.lemmas.List.Sorted.{length_permutation}
use Rattle.am_types.specs.declared.Hash.{Hash}
use Rattle.am_types.specs.declared.Change.{Change}
use Rattle.am_types.specs.declared.Meta.{Meta}
use Rattle.am_types.specs.declared.Row.{Row}
use Rattle.am_types.specs.declared.Table.{Table}
use Rattle.am_types.specs.Fine.{Fine}
use Rattle.am_types.specs.Order.{bytes_cmp, sorted_by}
use Rattle.am_types.specs.Same.{same_bytes}
use Rattle.am_types.specs.Members.{Member, changes, hashes, heads, holds}
use Rattle.am_types.specs.Rows.{rows}
use Rattle.am_types.specs.Canonical.{canonical_cmp, order}
use Rattle.am_types.specs.Documents.{metas, used_actors, suffix, table}
use Rattle.am_types.specs.ValidSets.{Valid}
use Rattle.am_types.specs.Deliver.{MayCome}
use Rattle.am_types.proofs.Lists.{Contains-head, Contains-tail}
use Rattle.am_types.proofs.Sorting.{IsPermutation-sorted_by}
use Rattle.am_laws.specs.Laws.{ValidSetsKeepRules}
use Rattle.am_laws.specs.Tables.{authors}
use Rattle.am_colmeta.specs.Metadata.{metadata, listing, body as columns_body}
use Rattle.am_colmeta.specs.Actors.{actors_bytes}
use Rattle.am_change.specs.Contents.{hashes_bytes}
use Rattle.am_doccols.specs.Columns.{written_rows, written_metas}
use Rattle.am_doccols.specs.Conditions.{IsMetaFor, IsRowFor, dep_count, succ_count}
use Rattle.am_doc.specs.Conditions.{IsWritable}
use Rattle.am_doc.specs.Contents.{body, suffix_bytes}
use Rattle.am_doc.proofs.Bodies.{body_is}
use Rattle.am_graph.specs.declared.Node.{Node}
use Rattle.am_merge.specs.ChangeRows.{turn, turns, change_rows}
use Rattle.am_merge.specs.Grown.{Joins, Merges, Respells}
use Rattle.am_merge.specs.Growing.{Grows, rows_in}
use Rattle.am_merge.specs.Laws.{MetasOfLarger, AuthorsOfLarger, operations_of}
use Rattle.am_merge.proofs.ChangeRows.{from_order}
use Rattle.am_merge.proofs.Lists.{map-map}
use Rattle.am_merge.proofs.StackLaw.{nothing_valid}

-- ---- change rows

-- a document has as many change rows as its set has members
pub metas_count : (C : List Member) → length (metas (order C)) ≡ length C
unfolding order
metas_count C = length-map (order C) _ ∙ length_permutation C (order C) (IsPermutation-sorted_by (canonical_cmp C) C)

pub rows_are : MetasOfLarger → (C E : List Member) → Valid C → Valid (C ++ E) → (hs : List Hash) (ts : List (Option Change)) (ms : List Meta)
    → hs ≡ hashes (order (C ++ E)) → ts ≡ turns C (order (C ++ E)) → ms ≡ metas (order C) → change_rows hs ts ms ≡ metas (order (C ++ E))
rows_are law C E v w hs ts ms eh et em = (λ i. change_rows (eh i) (et i) (em i)) ∙ sym (law C E v w)

-- what a writer asks of them
pub record AreWritten (actors : List (List ℕ)) (ms : List Meta) : Type 0 where
  pub all : AllByRecursion (IsMetaFor actors) ms
  pub few : length ms ≤ 2 ^ 20
  pub few_deps : dep_count ms ≤ 2 ^ 22

pub written : (D : List Member) → IsWritable (table D) → (actors : List (List ℕ)) (ms : List Meta) → actors ≡ used_actors D → ms ≡ metas (order D) → AreWritten actors ms
unfolding table
written D w actors ms ea em =
    let given : AreWritten (used_actors D) (metas (order D)) = record { all = w.metas; few = w.few_metas; few_deps = w.few_deps } in
    subst (λ a. AreWritten a ms) (sym ea) (subst (AreWritten (used_actors D)) (sym em) given)

abbrev pub lent_turns : List (Option (Bor Change)) → List (Option Change)
lent_turns ts = map (option_map (λ (c : Bor Change). c.now)) ts

fine_turn : (C : List Member) (m : Member) (t : Option (Bor Change)) → option_map (λ (c : Bor Change). c.now) t ≡ turn C m → Fine m.change → IfSome t (λ c. Fine c.now)
fine_turn C m None e f = tt
fine_turn C m (Some c) e f = elim (cases_Bool (holds C m.hash)) [
  | inl t ↦ let is : Some c.now ≡ None = simp t at e in absurd (cc)
  | inr t ↦ let is : Some c.now ≡ Some m.change = simp t at e in let same : c.now ≡ m.change = cc in subst Fine (sym same) f
]

fine_turns : (C M : List Member) (ts : List (Option (Bor Change))) → lent_turns ts ≡ turns C M → ((m : Member) → Contains M m → Fine m.change) → AllByRecursion (λ t. IfSome t (λ c. Fine c.now)) ts
fine_turns C M [] e f = tt
fine_turns C [] (t ∷ ts) e f = cc
fine_turns C (m ∷ M) (t ∷ ts) e f =
    let head : option_map (λ (c : Bor Change). c.now) t ≡ turn C m = cc in
    let tail : lent_turns ts ≡ turns C M = cc in
    (fine_turn C m t head (f m (Contains-head m M)), fine_turns C M ts tail (λ n c. f n (Contains-tail m M n c)))

pub turns_fine : ValidSetsKeepRules → (C D : List Member) → Valid D → (ts : List (Option (Bor Change))) → lent_turns ts ≡ turns C (order D) → All (λ t. IfSome t (λ c. Fine c.now)) ts
turns_fine keep C D v ts e =
    All-from_recursion (λ (t : Option (Bor Change)). IfSome t (λ c. Fine c.now)) ts
    (fine_turns C (order D) ts e (λ m c. (All-contains MayCome D m (keep D v).members (from_order D m c)).fine))

-- ---- actors

pub actors_are : AuthorsOfLarger → (C E : List Member) → Valid C → Valid (C ++ E) → (names : List (List ℕ)) (cs : List (Bor Change)) → names ≡ (table C).actors → changes E ≡ map (λ (c : Bor Change). c.now) cs
    → dedup same_bytes (sorted_by bytes_cmp (names ++ map (λ (c : Bor Change). c.now.actor) cs)) ≡ used_actors (C ++ E)
unfolding table
actors_are law C E v w names cs en ec =
    let who : map (λ (c : Bor Change). c.now.actor) cs ≡ authors E =
    sym (map-map (λ (c : Change). c.actor) (λ (c : Bor Change). c.now) cs) ∙ ap (map (λ (c : Change). c.actor)) (sym ec) ∙ map-map (λ (c : Change). c.actor) (λ (m : Member). m.change) E in
    (λ i. dedup same_bytes (sorted_by bytes_cmp (en i ++ who i))) ∙ sym (law C E v w)

-- the actors that are listed once
pub once : AuthorsOfLarger → (t : Table) (cs : List (Bor Change)) (g : List (Hash × Node)) (C E : List Member) → Merges t (map (λ (c : Bor Change). c.now) cs) g C E → (actors : List (List ℕ))
    → actors ≡ dedup same_bytes (sorted_by bytes_cmp (t.actors ++ map (λ (c : Bor Change). c.now.actor) cs)) → actors ≡ used_actors (C ++ E)
once law t cs g C E m actors e =
    e ∙ actors_are law C E m.grown.valid_before m.grown.valid t.actors cs (ap (λ (x : Table). x.actors) m.document) m.grown.added

-- ---- rows

pub grows : (t : Table) (cs : List Change) (g : List (Hash × Node)) (C E : List Member) → Merges t cs g C E → IsWritable (table (C ++ E)) → (actors : List (List ℕ)) → actors ≡ used_actors (C ++ E)
    → (rs : List Row) → rs ≡ t.rows → Grows C E actors rs cs
unfolding table
grows t cs g C E m w actors ea rs er =
    let fit : AllByRecursion (IsRowFor (used_actors (C ++ E))) (rows_in (C ++ E)) = w.rows in
    record {
      smaller = m.grown.valid_before;
      larger = m.grown.valid;
      rows_are = er ∙ ap (λ (x : Table). x.rows) m.document;
      added_are = m.grown.added;
      fit = subst (λ a. AllByRecursion (IsRowFor a) (rows_in (C ++ E))) (sym ea) fit;
      few = w.few_rows;
      few_succs = w.few_succs;
    }

-- ---- the change rows of the smaller set

pub joins : (t : Table) (cs : List Change) (g : List (Hash × Node)) (C E : List Member) → Merges t cs g C E → (actors : List (List ℕ)) → actors ≡ used_actors (C ++ E) → (ms : List Meta) → ms ≡ t.metas
    → Joins ms actors cs g C E
unfolding table
joins t cs g C E m actors ea ms em = record { change_rows = em ∙ ap (λ (x : Table). x.metas) m.document; used = ea; grown = m.grown }

-- ---- the whole

pub body_of : (D : List Member) (actors : List (List ℕ)) (hs : List Hash) (places : Option (List ℕ)) (m r n s : List ℕ)
    → actors ≡ used_actors D → hs ≡ heads D → places ≡ suffix D
    → m ≡ metadata (listing (written_metas (used_actors D) (metas (order D)))) → r ≡ metadata (listing (written_rows (used_actors D) (rows (operations_of D))))
    → n ≡ columns_body (written_metas (used_actors D) (metas (order D))) → s ≡ columns_body (written_rows (used_actors D) (rows (operations_of D)))
    → actors_bytes actors ++ (hashes_bytes hs ++ (m ++ (r ++ (n ++ (s ++ suffix_bytes places))))) ≡ body (table D)
unfolding table
body_of D actors hs places m r n s ea eh ep em er en es =
    ap (λ p. actors_bytes actors ++ (hashes_bytes hs ++ (m ++ (r ++ (n ++ (s ++ suffix_bytes p)))))) ep
    ∙ body_is (table D) (actors_bytes actors) (hashes_bytes hs) m r n s (ap actors_bytes ea) (ap hashes_bytes eh) em er en es

-- ---- a set's document, spelled in another way

-- the set, added to nothing
pub from_nothing : (t : Table) (cs : List (Bor Change)) (g : List (Hash × Node)) (C : List Member) → Respells t (map (λ (c : Bor Change). c.now) cs) g C → AuthorsOfLarger → (actors : List (List ℕ))
    → actors ≡ dedup same_bytes (sorted_by bytes_cmp (map (λ (c : Bor Change). c.now.actor) cs)) → Joins [] actors (map (λ (c : Bor Change). c.now) cs) g [] C
unfolding order table
from_nothing t cs g C m law actors ea = record {
  change_rows = refl;
  used = ea ∙ actors_are law [] C nothing_valid m.valid [] cs refl m.all;
  grown = record { graph = m.graph; count = refl; added = m.all; valid_before = nothing_valid; valid = m.valid };
}

pub record AreWrittenRows (actors : List (List ℕ)) (rs : List Row) : Type 0 where
  pub fit : AllByRecursion (IsRowFor actors) rs
  pub few : length rs ≤ 2 ^ 22
  pub few_succs : succ_count rs ≤ 2 ^ 22

pub rows_written : (t : Table) (cs : List Change) (g : List (Hash × Node)) (C : List Member) → Respells t cs g C → IsWritable (table C) → (actors : List (List ℕ)) → actors ≡ used_actors C
    → (rs : List Row) → rs ≡ t.rows → AreWrittenRows actors rs
unfolding table
rows_written t cs g C m w actors ea rs er =
    let given : AreWrittenRows (used_actors C) (rows_in C) = record { fit = w.rows; few = w.few_rows; few_succs = w.few_succs } in
    subst (λ a. AreWrittenRows a rs) (sym ea) (subst (AreWrittenRows (used_actors C)) (sym (er ∙ m.same_rows)) given)
