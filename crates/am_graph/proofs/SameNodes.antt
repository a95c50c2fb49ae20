-- The test of two nodes, part by part, is equality.
use Rattle.std.proofs.Common.{◌≡◌, List, [], ◌∷◌, true, false, Option, Some, None, refl, sym, ap, ◌∙◌, eq-eqb}
use Rattle.std.proofs.lemmas.Bool.{both_ways, and_parts, and_from, eqb-true}
use Rattle.std.proofs.lemmas.Cmp.{nat_list_eq_equiv}
use lib.Pointwise.{pointwise}
use Rattle.am_types.specs.contracts.hash.HashPartialEq.TheImpl as equality
use Rattle.am_types.specs.declared.Hash.{Hash}
use Rattle.am_types.proofs.Orders.{same_bytes-true}
use Rattle.am_graph.specs.declared.node.Node.{Node}
use Rattle.am_graph.specs.declared.fault.Added.TheVariants.{Same, Clash}
use Rattle.am_graph.specs.Graphs.{Answers, find_node, is_held, same_node}
use Rattle.std.specs.Option.{is_some}
use Rattle.am_graph.proofs.Held.{is_some-held}
use Rattle.am_graph.proofs.Sweeping.{eq-true, eq_itself}

hashes-true : (xs ys : List Hash) → pointwise equality.eq-value.it xs ys ≡ true → xs ≡ ys
hashes-true [] [] e = refl
hashes-true [] (y ∷ ys) e = absurd (both_ways false refl e)
hashes-true (x ∷ xs) [] e = absurd (both_ways false refl e)
hashes-true (x ∷ xs) (y ∷ ys) e = let b = and_parts _ _ e in λ i. eq-true x y b.0 i ∷ hashes-true xs ys b.1 i

hashes_itself : (xs : List Hash) → pointwise equality.eq-value.it xs xs ≡ true
hashes_itself [] = refl
hashes_itself (x ∷ xs) = and_from _ _ (eq_itself x) (hashes_itself xs)

same_node-true : (a b : Node) → same_node a b ≡ true → a ≡ b
same_node-true a b e =
    let p = and_parts _ _ e in let q = and_parts _ _ p.0 in let r = and_parts _ _ q.0 in let s = and_parts _ _ r.0 in
    λ i. record { actor = same_bytes-true a.actor b.actor q.1 i; seq = eqb-true a.seq b.seq s.0 i; start = eqb-true a.start b.start s.1 i; count = eqb-true a.count b.count r.1 i; deps = hashes-true a.deps b.deps p.1 i }

same_node_itself : (a : Node) → same_node a a ≡ true
same_node_itself a = and_from _ _ (and_from _ _ (and_from _ _ (and_from _ _ (eq-eqb a.seq a.seq refl) (eq-eqb a.start a.start refl)) (eq-eqb a.count a.count refl)) (nat_list_eq_equiv.refl a.actor)) (hashes_itself a.deps)

pub answers_same : (a b : Node) → same_node a b ≡ true → Answers Same (Some a) b
answers_same a b e = ap Some (same_node-true a b e)

pub answers_clash : (a b : Node) → same_node a b ≡ false → Answers Clash (Some a) b
answers_clash a b e = (a, refl, λ s. both_ways (same_node a b) e (ap (same_node a) (sym s) ∙ same_node_itself a))

-- nothing is found where the hash isn't held
pub found_none : (g : List (Hash × Node)) (h : Hash) → is_held g h ≡ false → find_node g h ≡ None
found_none g h f = go (find_node g h) (is_some-held h g ∙ f)
  where
    go : (o : Option Node) → is_some o ≡ false → o ≡ None
    go None e = refl
    go (Some n) e = absurd (both_ways true e refl)
