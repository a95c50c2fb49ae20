-- What the map's look-ups say of a graph.
use Rattle.std.proofs.Common.{◌≡◌, Bool, true, false, ◌||◌, List, [], ◌∷◌, ◌++◌, map, refl, sym, ap, ◌∙◌}
use Rattle.std.specs.List.{list_any}
use Rattle.std.specs.Map.{lookup, keys_of}
use Rattle.std.specs.Option.{is_some}
use Rattle.std.proofs.lemmas.Map.Text.{is_eq-slice_cmp}
use Rattle.std.proofs.lemmas.Map.Made.{is_some-lookup}
use Rattle.am_types.specs.contracts.hash.HashPartialEq.TheImpl as equality
use Rattle.am_types.specs.declared.Hash.{Hash}
use Rattle.std.proofs.lemmas.Bool.{both_ways}
use Rattle.indexmap.specs.IndexMap.{insert_entry}
use Rattle.am_types.specs.Order.{hash_cmp, same, among}
use Rattle.am_types.specs.Members.{Member, hashes, holds}
use Rattle.am_graph.specs.declared.node.Node.{Node}
use Rattle.am_graph.specs.Graphs.{nodes, is_held}

pub among-eq : (h : Hash) (hs : List Hash) → list_any (equality.eq-value.it h) hs ≡ among hash_cmp hs h
among-eq h hs i = list_any (λ k. sym (is_eq-slice_cmp h.0 k.0) i) hs

pub is_some-held : (h : Hash) (g : List (Hash × Node)) → is_some (lookup (equality.eq-value.it h) g) ≡ is_held g h
is_some-held h g = is_some-lookup (equality.eq-value.it h) g ∙ among-eq h (keys_of g)

pub hashes-nodes : (C : List Member) → map (λ (e : Hash × Node). e.0) (nodes C) ≡ hashes C
hashes-nodes [] = refl
hashes-nodes (m ∷ C) = ap (λ hs. m.hash ∷ hs) (hashes-nodes C)

pub is_held-nodes : (C : List Member) (h : Hash) → is_held (nodes C) h ≡ holds C h
is_held-nodes C h = ap (λ hs. among hash_cmp hs h) (hashes-nodes C)

pub held_of_set : (g : List (Hash × Node)) (C : List Member) (h : Hash) → g ≡ nodes C → is_held g h ≡ holds C h
held_of_set g C h e = ap (λ g. is_held g h) e ∙ is_held-nodes C h

-- a new hash goes to the end
pub entries_pushed : (g : List (Hash × Node)) (h : Hash) (n : Node) → is_held g h ≡ false → insert_entry equality.eq-value.it g h n ≡ g ++ (h, n) ∷ []
entries_pushed [] h n f = refl
entries_pushed (e ∷ g) h n f =
    let parts = or_false (same hash_cmp h e.0) (is_held g h) f in
    let apart : equality.eq-value.it h e.0 ≡ false = sym (is_eq-slice_cmp h.0 e.0.0) ∙ parts.0 in
    simp apart (ap (λ l. e ∷ l) (entries_pushed g h n parts.1))
  where
    or_false : (a b : Bool) → (a || b) ≡ false → (a ≡ false) × (b ≡ false)
    or_false true b e = absurd (both_ways false refl (sym e))
    or_false false b e = (refl, e)
