-- A closed set whose document lacks its last changes.
use Rattle.std.proofs.Common.{ℕ, ◌≡◌, List, [], ◌∷◌, ◌++◌, refl, sym, ap, ◌∙◌, subst}
use Rattle.std.proofs.lemmas.List.{map-append, append-nil, append_assoc}
use Rattle.std.proofs.lemmas.List.Elements.{All-append, All-nil}
use Rattle.am_types.specs.declared.Hash.{Hash}
use Rattle.am_types.specs.declared.Change.{Change}
use Rattle.am_types.specs.declared.Totals.{Totals}
use Rattle.am_types.specs.Members.{Member, changes}
use Rattle.am_types.specs.ValidSets.{Valid}
use Rattle.am_change.specs.Judgement.{HasOwnHashes}
use Rattle.am_graph.specs.declared.Node.{Node}
use Rattle.am_fits.specs.Indexes.{Indexed, AreOf}
use Rattle.am_delivery.specs.Waiting.{members_of}
use Rattle.am_store.specs.Contents.{IsContents}
use Rattle.am_store.specs.Grown.{AreGrown, IsOwn}
use Rattle.am_store.specs.Staging.{AreStaged}

-- the document has all
pub none_staged : (written old : List (Hash × Change)) (staged : List Change) → written ≡ old → staged ≡ [] → AreStaged written old staged
none_staged written old staged e none = record {
  added = [];
  behind = ap members_of (sym e) ∙ sym (append-nil (members_of written));
  are = sym none;
  own_hashes = All-nil IsOwn;
}

no_member : (E : List Member) → changes E ≡ [] → E ≡ []
no_member [] e = refl
no_member (m ∷ E) e = cc

-- where nothing is staged, the document lacks nothing
pub all_written : (written old : List (Hash × Change)) (staged : List Change) → AreStaged written old staged → staged ≡ [] → (bytes : List ℕ) → IsContents (members_of written) bytes
    → IsContents (members_of old) bytes
all_written written old staged st none bytes is =
    let same : members_of old ≡ members_of written = st.behind ∙ ap (λ E. members_of written ++ E) (no_member st.added (st.are ∙ none)) ∙ append-nil (members_of written) in
    subst (λ C. IsContents C bytes) (sym same) is

-- what has joined is cut off
pub cut_back : (old fresh none : List (Hash × Change)) (g h : List (Hash × Node)) (ix iy : Indexed) (t : Totals) → AreGrown old fresh g ix t → Valid (members_of old) → none ≡ []
    → AreOf (members_of old) h iy → AreGrown old none h iy t
cut_back old fresh none g h ix iy t are valid e of =
    let all : old ≡ old ++ none = sym (append-nil old) ∙ ap (λ l. old ++ l) (sym e) in
    record {
      of_set = subst (λ es. AreOf (members_of es) h iy) all of;
      valid = subst (λ es. Valid (members_of es)) all valid;
      totals = are.totals;
    }

-- E has joined, and is staged
pub more_staged : (written old fresh all : List (Hash × Change)) (before after : List Change) → AreStaged written old before
    → (E : List Member) → members_of (old ++ fresh) ≡ members_of old ++ E → (cs : List Change) → changes E ≡ cs → HasOwnHashes E
    → all ≡ old ++ fresh → after ≡ before ++ cs → AreStaged written all after
more_staged written old fresh all before after st E e cs same own is more = record {
  added = st.added ++ E;
  behind = ap members_of is ∙ e ∙ ap (λ C. C ++ E) st.behind ∙ append_assoc (members_of written) st.added E;
  are = map-append (λ (m : Member). m.change) st.added E ∙ (λ i. st.are i ++ same i) ∙ sym more;
  own_hashes = All-append IsOwn st.added E st.own_hashes own;
}
