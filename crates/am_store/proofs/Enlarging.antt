-- The contents of a larger set.
use Rattle.std.proofs.Common.{ℕ, ◌≡◌, List, [], ◌∷◌, ◌++◌, refl, sym, ap, ◌∙◌, append-nil}
use Rattle.am_types.specs.declared.Hash.{Hash}
use Rattle.am_types.specs.declared.Change.{Change}
use Rattle.am_types.specs.declared.Table.{Table}
use Rattle.am_types.specs.Members.{Member, changes}
use Rattle.am_types.specs.Documents.{table}
use Rattle.am_doc.specs.Contents.{body}
use Rattle.am_graph.specs.declared.Node.{Node}
use Rattle.am_merge.specs.Grown.{Merges, MayMerge}
use Rattle.am_store.specs.Contents.{ForContents, IsLarger, MayBecome}

no_changes : (E : List Member) → changes E ≡ [] → E ≡ []
no_changes [] e = refl
no_changes (m ∷ E) e = cc

-- nothing has joined
pub as_before : (bytes : List ℕ) (cs : List Change) (g : List (Hash × Node)) → cs ≡ [] → (C E : List Member) → IsLarger bytes cs g C E → bytes ≡ body (table (C ++ E))
as_before bytes cs g none C E is =
    let nothing : E ≡ [] = no_changes E (is.added ∙ none) in
    is.before.bytes_are ∙ ap (λ D. body (table D)) (sym (append-nil C)) ∙ ap (λ F. body (table (C ++ F))) (sym nothing)

pub merges : (bytes : List ℕ) (cs : List Change) (g : List (Hash × Node)) (t : Table) → ForContents bytes (λ C. t ≡ table C) → (C E : List Member) → IsLarger bytes cs g C E → Merges t cs g C E
merges bytes cs g t doc C E is = record {
  document = doc C is.before;
  grown = record {
    graph = is.graph;
    count = refl;
    added = is.added;
    valid_before = is.before.valid;
    valid = is.valid;
  };
}

pub may_merge : (bytes : List ℕ) (cs : List Change) (g : List (Hash × Node)) (t : Table) → ForContents bytes (λ C. t ≡ table C) → MayBecome bytes cs g → MayMerge t cs g
may_merge bytes cs g t doc may = record {
  before = may.before;
  added = may.added;
  merges = merges bytes cs g t doc may.before may.added may.larger;
}
