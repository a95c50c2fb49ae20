-- A set with one more change, and what is kept beside it.
use Rattle.std.proofs.Common.{◌≡◌, List, [], ◌∷◌, ◌++◌, false, cond, Result, Ok, Err, sym, ap, ◌∙◌}
use Rattle.std.specs.Prelude.{OnOk, OnErr}
use Rattle.std.proofs.lemmas.List.{map-append}
use Rattle.am_types.specs.declared.Hash.{Hash}
use Rattle.am_types.specs.declared.Change.{Change}
use Rattle.am_types.specs.Members.{Member, changes}
use Rattle.am_graph.specs.declared.Node.{Node}
use Rattle.am_graph.specs.Graphs.{node_of, is_held}
use Rattle.am_graph.proofs.Held.{is_held-nodes}
use Rattle.am_fits.specs.Indexes.{Indexed, AreOf, MayAdmit, index_of}
use Rattle.am_delivery.proofs.Steady.{valid_push}
use Rattle.am_rebuild.specs.Gathered.{MayGrow}

pub may_admit : (g : List (Hash × Node)) (ix : Indexed) (m : Member) → MayGrow g ix m → MayAdmit ix m.change
may_admit g ix m may = record {
  set = changes may.set;
  of_set = may.of_set.index;
  valid = record {
    set = may.set ++ m ∷ [];
    are = map-append (λ (n : Member). n.change) may.set (m ∷ []);
    valid = valid_push may.set m may.valid may.joins;
  };
}

pub not_held : (g : List (Hash × Node)) (ix : Indexed) (m : Member) → MayGrow g ix m → is_held g m.hash ≡ false
not_held g ix m may = ap (λ g. is_held g m.hash) may.of_set.graph ∙ is_held-nodes may.set m.hash ∙ may.joins.fresh

pub grown : (g h : List (Hash × Node)) (ix iy : Indexed) (m : Member) → is_held g m.hash ≡ false → h ≡ cond (is_held g m.hash) g (g ++ (m.hash, node_of m.change) ∷ [])
    → ((cs : List Change) → ix ≡ index_of cs → iy ≡ index_of (cs ++ m.change ∷ [])) → (C : List Member) → AreOf C g ix → AreOf (C ++ m ∷ []) h iy
grown g h ix iy m fresh added admitted C of = record {
  graph = added ∙ ap (λ b. cond b g (g ++ (m.hash, node_of m.change) ∷ [])) fresh ∙ ap (λ l. l ++ (m.hash, node_of m.change) ∷ []) of.graph ∙ sym (map-append (λ (n : Member). (n.hash, node_of n.change)) C (m ∷ []));
  index = admitted (changes C) of.index ∙ ap index_of (sym (map-append (λ (n : Member). n.change) C (m ∷ [])));
}

-- the call went well, or nothing has changed
pub by_result : {T E A B C D F P : Type 0} (r : Result T E) → OnOk r A → OnOk r B → OnErr r C → OnErr r D → OnErr r F → (A → B → P) → (C → D → F → P) → P
by_result (Ok x) a b c d e f g = f a b
by_result (Err x) a b c d e f g = g c d e
