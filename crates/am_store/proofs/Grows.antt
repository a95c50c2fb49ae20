-- A closed set with one more change.
use Rattle.std.proofs.Common.{ℕ, ◌≡◌, List, [], ◌∷◌, ◌++◌, length, take, false, cond, Result, Ok, Err, sym, ap, ◌∙◌, subst}
use Rattle.std.specs.Prelude.{OnOk, OnErr}
use Rattle.std.proofs.lemmas.List.{map-append, append-nil, append_assoc, length-map, take_at}
use Rattle.std.proofs.lemmas.List.Elements.{All-append}
use Rattle.am_types.specs.declared.Hash.{Hash}
use Rattle.am_types.specs.declared.Change.{Change}
use Rattle.am_types.specs.declared.Totals.{Totals}
use Rattle.am_types.specs.Members.{Member, changes}
use Rattle.am_types.specs.Totals.{totals_of}
use Rattle.am_types.specs.ValidSets.{Valid, Joins}
use Rattle.am_types.specs.Documents.{table}
use Rattle.am_change.specs.Judgement.{HasOwnHashes}
use Rattle.am_graph.specs.declared.Node.{Node}
use Rattle.am_graph.specs.Graphs.{node_of, nodes, is_held}
use Rattle.am_graph.proofs.Held.{is_held-nodes}
use Rattle.am_fits.specs.Indexes.{Indexed, AreOf, MayAdmit, index_of}
use Rattle.am_delivery.specs.Waiting.{member_of, members_of}
use Rattle.am_delivery.specs.Laws.{JoinedIsValid}
use Rattle.am_delivery.proofs.Steady.{valid_push}
use Rattle.am_doc.specs.Contents.{body}
use Rattle.am_store.specs.Contents.{IsContents, IsLarger}
use Rattle.am_store.specs.Grown.{AreGrown, MayGrow, IsOwn}

pub may_admit : (g : List (Hash × Node)) (ix : Indexed) (m : Member) → MayGrow g ix m → MayAdmit ix m.change
may_admit g ix m may = record {
  set = changes may.set;
  of_set = may.of_set.index;
  valid = record {
    set = may.set ++ m ∷ [];
    are = map-append (λ (n : Member). n.change) may.set (m ∷ []);
    valid = valid_push may.set m may.valid may.joins;
  };
}

pub not_held : (g : List (Hash × Node)) (ix : Indexed) (m : Member) → MayGrow g ix m → is_held g m.hash ≡ false
not_held g ix m may = ap (λ g. is_held g m.hash) may.of_set.graph ∙ is_held-nodes may.set m.hash ∙ may.joins.fresh

pub grown : (g h : List (Hash × Node)) (ix iy : Indexed) (m : Member) → is_held g m.hash ≡ false → h ≡ cond (is_held g m.hash) g (g ++ (m.hash, node_of m.change) ∷ [])
    → ((cs : List Change) → ix ≡ index_of cs → iy ≡ index_of (cs ++ m.change ∷ [])) → (C : List Member) → AreOf C g ix → AreOf (C ++ m ∷ []) h iy
grown g h ix iy m fresh added admitted C of = record {
  graph = added ∙ ap (λ b. cond b g (g ++ (m.hash, node_of m.change) ∷ [])) fresh ∙ ap (λ l. l ++ (m.hash, node_of m.change) ∷ []) of.graph ∙ sym (map-append (λ (n : Member). (n.hash, node_of n.change)) C (m ∷ []));
  index = admitted (changes C) of.index ∙ ap index_of (sym (map-append (λ (n : Member). n.change) C (m ∷ [])));
}

-- one more entry is one more member
pub more_members : (old fresh : List (Hash × Change)) (x : Hash × Change) → members_of (old ++ (fresh ++ x ∷ [])) ≡ members_of (old ++ fresh) ++ member_of x ∷ []
more_members old fresh x = ap members_of (sym (append_assoc old fresh (x ∷ []))) ∙ map-append member_of (old ++ fresh) (x ∷ [])

-- one more change has joined
pub grown_more : JoinedIsValid → (old fresh more : List (Hash × Change)) (x : Hash × Change) (g h : List (Hash × Node)) (ix iy : Indexed) (t : Totals) → AreGrown old fresh g ix t → Joins (members_of (old ++ fresh)) (member_of x)
    → more ≡ fresh ++ x ∷ [] → ((C : List Member) → AreOf C g ix → AreOf (C ++ member_of x ∷ []) h iy) → AreGrown old more h iy t
grown_more law old fresh more x g h ix iy t are joins e adds =
    let all : members_of (old ++ more) ≡ members_of (old ++ fresh) ++ member_of x ∷ [] = ap (λ l. members_of (old ++ l)) e ∙ more_members old fresh x in
    record {
      of_set = subst (λ C. AreOf C h iy) (sym all) (adds (members_of (old ++ fresh)) are.of_set);
      valid = subst Valid (sym all) (law (members_of (old ++ fresh)) (member_of x) are.valid joins);
      totals = are.totals;
    }

-- ---- what has joined is cut off

both : (old fresh : List (Hash × Change)) → members_of (old ++ fresh) ≡ members_of old ++ members_of fresh
both old fresh = map-append member_of old fresh

pub cut_graph : (old fresh : List (Hash × Change)) (g h : List (Hash × Node)) (n : ℕ) → n ≡ length old → g ≡ nodes (members_of (old ++ fresh)) → h ≡ take n g → h ≡ nodes (members_of old)
cut_graph old fresh g h n count is cut =
    let told : Member → Hash × Node = λ m. (m.hash, node_of m.change) in
    let split : g ≡ nodes (members_of old) ++ nodes (members_of fresh) = is ∙ ap nodes (both old fresh) ∙ map-append told (members_of old) (members_of fresh) in
    let first : length (nodes (members_of old)) ≡ n = length-map (members_of old) told ∙ length-map old member_of ∙ sym count in
    cut ∙ ap (take n) split ∙ take_at (nodes (members_of old)) (nodes (members_of fresh)) n first

pub two_parts : (old fresh : List (Hash × Change)) (ix : Indexed) → ix ≡ index_of (changes (members_of (old ++ fresh))) → ix ≡ index_of (changes (members_of old) ++ changes (members_of fresh))
two_parts old fresh ix e = e ∙ ap (λ C. index_of (changes C)) (both old fresh) ∙ ap index_of (map-append (λ (m : Member). m.change) (members_of old) (members_of fresh))

-- the call went well, or nothing has changed
pub by_result : {T E A B C D F P : Type 0} (r : Result T E) → OnOk r A → OnOk r B → OnErr r C → OnErr r D → OnErr r F → (A → B → P) → (C → D → F → P) → P
by_result (Ok x) a b c d e f g = f a b
by_result (Err x) a b c d e f g = g c d e

-- ---- the set comes to rest

pub count_at_rest : (old : List (Hash × Change)) (t : Totals) → t ≡ totals_of (changes (members_of old)) → t.changes ≡ length old
count_at_rest old t e = ap (λ (u : Totals). u.changes) e ∙ length-map (members_of old) (λ (m : Member). m.change) ∙ length-map old member_of

-- nothing has joined yet
pub begun : (old fresh : List (Hash × Change)) (g : List (Hash × Node)) (ix : Indexed) (t : Totals) → fresh ≡ [] → AreOf (members_of old) g ix → Valid (members_of old) → t ≡ ix.totals → AreGrown old fresh g ix t
begun old fresh g ix t none of v e =
    let all : old ≡ old ++ fresh = sym (append-nil old) ∙ ap (λ l. old ++ l) (sym none) in
    record {
      of_set = subst (λ es. AreOf (members_of es) g ix) all of;
      valid = subst (λ es. Valid (members_of es)) all v;
      totals = e ∙ ap (λ (x : Indexed). x.totals) of.index;
    }

-- E has joined
module _ (old fresh : List (Hash × Change)) (g : List (Hash × Node)) (ix : Indexed) (t : Totals) (are : AreGrown old fresh g ix t) (bytes : List ℕ) (is : IsContents (members_of old) bytes)
    (E : List Member) (e : members_of (old ++ fresh) ≡ members_of old ++ E) (cs : List Change) (same : changes E ≡ cs) where
  pub is_larger : IsLarger bytes cs g (members_of old) E
  is_larger = record {
    before = is;
    valid = subst Valid e are.valid;
    added = same;
    graph = are.of_set.graph ∙ ap nodes e;
  }

  pub larger_contents : HasOwnHashes E → (new : List ℕ) → new ≡ body (table (members_of old ++ E)) → IsContents (members_of (old ++ fresh)) new
  larger_contents own new f = record {
    valid = are.valid;
    own_hashes = subst HasOwnHashes (sym e) (All-append IsOwn (members_of old) E is.own_hashes own);
    bytes_are = f ∙ ap (λ C. body (table C)) (sym e);
  }
