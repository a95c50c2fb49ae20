-- Laws of a walk and of places.
use Rattle.std.proofs.Common.{ℕ, suc, ◌≡◌, ◌≢◌, ◌<◌, ◌≤◌, ◌+◌, ◌^◌, ◌==◌, ◌++◌, List, [], ◌∷◌, length, Option, Some, None, true, false, slice_get, option_map, inl, inr, get_or, refl, sym, ap, ◌∙◌, arith, subst, length-append, append_assoc}
use Rattle.std.proofs.lemmas.Bool.{cases_Bool, both_ways, eqb-true}
use Rattle.std.proofs.lemmas.List.{map-append, length-map}
use Rattle.std.proofs.lemmas.Option.{slice_get-map, slice_get-get_or}
use Rattle.am_types.specs.declared.OpId.{OpId}
use Rattle.am_chain.specs.declared.node.Node.{Node}
use Rattle.am_chain.specs.Chains.{Element, spelled, Leads, ids_of, IsFresh, IdsDiffer, has_node, IsLinked, node_ids}
use Rattle.am_chain.specs.Walks.{IsReached}
use Rattle.std.specs.List.{position_or_len}
use Rattle.am_types.specs.Same.{same_id}
use Rattle.am_types.proofs.Orders.{same_id_itself}
use Rattle.am_chain.proofs.Links.{IdsDiffer-front, not_same, spelled-Leads, IsStep, step, step_smaller, Leads-within}

-- ---- walks

pub record IsNext (nodes : List Node) (at : Option ℕ) (node : Node) : Type 0 where
  pub rest : List Element
  pub leads : Leads nodes node.next rest
  pub few : length rest ≤ length nodes
  pub ids : ids_of (spelled nodes at) ≡ node.id ∷ ids_of (spelled nodes node.next)

pub next_id : (nodes : List Node) (at : Option ℕ) (es : List Element) → Leads nodes at es → length es ≤ length nodes → (n : ℕ) → at ≡ Some n → (node : Node) → node ≡ get_or nodes n node → IsNext nodes at node
next_id nodes at es leads few n is node read =
    let s : IsStep nodes n node es = step nodes at es leads n node is in
    let on : Leads nodes node.next s.behind = subst (λ (r : Node). Leads nodes r.next s.behind) (sym read) s.leads in
    let whole : es ≡ (n, node.id) ∷ s.behind = subst (λ (r : Node). es ≡ (n, r.id) ∷ s.behind) (sym read) s.whole in
    let shorter : length es ≡ suc (length s.behind) = ap length s.whole in
    let fewer : length s.behind ≤ length nodes = omega arith in
    record {
      rest = s.behind;
      leads = on;
      few = fewer;
      ids = ap ids_of (spelled-Leads nodes at es leads few) ∙ ap ids_of whole ∙ ap (λ l. node.id ∷ ids_of l) (sym (spelled-Leads nodes node.next s.behind on fewer));
    }

pub no_id : (nodes : List Node) (at : Option ℕ) (es : List Element) → Leads nodes at es → length es ≤ length nodes → at ≡ None → ids_of (spelled nodes at) ≡ []
no_id nodes at es leads few is = ap ids_of (spelled-Leads nodes at es leads few ∙ ended es leads)
  where
    ended : (rest : List Element) → Leads nodes at rest → rest ≡ []
    ended [] h = refl
    ended (f ∷ fs) h = let there : at ≡ Some f.0 = h.0 in absurd (cc)

-- ---- places

pub reached_first : (nodes : List Node) (first : Option ℕ) → IsLinked nodes first → (node : ℕ) → node < length nodes → IsReached nodes (spelled nodes first) first 0 node
reached_first nodes first linked node low = record { passed = []; rest = spelled nodes first; whole = refl; leads = linked.leads; count = refl; held = linked.all node low }

pub reached_within : (nodes : List Node) (es : List Element) (at : Option ℕ) (place node : ℕ) → IsReached nodes es at place node → (n : ℕ) → at ≡ Some n → n < length nodes
reached_within nodes es at place node g n is = Leads-within nodes at g.rest g.leads n is

pub reached_few : (nodes : List Node) (first : Option ℕ) (at : Option ℕ) (place node : ℕ) → IsLinked nodes first → IsReached nodes (spelled nodes first) at place node → place ≤ 2 ^ 22
reached_few nodes first at place node linked g =
    let whole = ap length g.whole in
    omega (arith, length-append g.passed g.rest, g.count, linked.count, linked.few)

pub reached_next : (nodes : List Node) (es : List Element) (at : Option ℕ) (place node : ℕ) → IsReached nodes es at place node → (n : ℕ) → at ≡ Some n → (n ≢ node) → (here : Node) → here ≡ get_or nodes n here → IsReached nodes es here.next (place + 1) node
reached_next nodes es at place node g n is apart here read =
    let s : IsStep nodes n here g.rest = step nodes at g.rest g.leads n here is in
    let whole : g.rest ≡ (n, here.id) ∷ s.behind = subst (λ (r : Node). g.rest ≡ (n, r.id) ∷ s.behind) (sym read) s.whole in
    let held : has_node node ((n, here.id) ∷ s.behind) ≡ true = subst (λ l. has_node node l ≡ true) whole g.held in
    record {
      passed = g.passed ++ (n, here.id) ∷ [];
      rest = s.behind;
      whole = g.whole ∙ ap (λ l. g.passed ++ l) whole ∙ sym (append_assoc g.passed ((n, here.id) ∷ []) s.behind);
      leads = subst (λ (r : Node). Leads nodes r.next s.behind) (sym read) s.leads;
      count = omega (arith, length-append g.passed ((n, here.id) ∷ []), g.count);
      held = other n node apart s.behind here.id held;
    }
  where
    other : (n node : ℕ) → n ≢ node → (fs : List Element) (i : OpId) → has_node node ((n, i) ∷ fs) ≡ true → has_node node fs ≡ true
    other n node apart fs i h = elim (cases_Bool (n == node)) [
      | inl s ↦ absurd (apart (eqb-true n node s))
      | inr s ↦ simp s at h
    ]

pub reached_smaller : (nodes : List Node) (first : Option ℕ) (at : Option ℕ) (place node : ℕ) → IsLinked nodes first → IsReached nodes (spelled nodes first) at place node → (n : ℕ) → at ≡ Some n → (here : Node) → here ≡ get_or nodes n here → length (spelled nodes here.next) < length (spelled nodes at)
reached_smaller nodes first at place node linked g n is here read =
    let whole = ap length g.whole in
    let few : length g.rest ≤ length nodes = omega (arith, length-append g.passed g.rest, linked.count) in
    subst (λ (r : Node). length (spelled nodes r.next) < length (spelled nodes at)) (sym read) (step_smaller nodes at g.rest g.leads few n here is)

slice_get_behind : {X : Type 0} (xs : List X) (y : X) (ys : List X) → slice_get (xs ++ y ∷ ys) (length xs) ≡ Some y
slice_get_behind [] y ys = refl
slice_get_behind (x ∷ xs) y ys = slice_get_behind xs y ys

pub reached_there : (nodes : List Node) (es : List Element) (at : Option ℕ) (place node : ℕ) → IsReached nodes es at place node → at ≡ Some node → slice_get (ids_of es) place ≡ slice_get (node_ids nodes) node
reached_there nodes es at place node g is =
    let d : Node = first_node g.rest g.leads g.held in
    let s : IsStep nodes node d g.rest = step nodes at g.rest g.leads node d is in
    let i : OpId = (get_or nodes node d).id in
    let walk : ids_of es ≡ ids_of g.passed ++ i ∷ ids_of s.behind = ap ids_of (g.whole ∙ ap (λ l. g.passed ++ l) s.whole) ∙ map-append (λ (x : Element). x.1) g.passed ((node, i) ∷ s.behind) in
    let count : length (ids_of g.passed) ≡ place = length-map g.passed (λ (x : Element). x.1) ∙ g.count in
    let there : slice_get (ids_of es) place ≡ Some i = rw (walk, ← count) (slice_get_behind (ids_of g.passed) i (ids_of s.behind)) in
    let held : slice_get (node_ids nodes) node ≡ Some i = slice_get-map (λ (r : Node). r.id) nodes node ∙ ap (λ (o : Option Node). option_map (λ (r : Node). r.id) o) (slice_get-get_or nodes node d s.within) in
    there ∙ sym held
  where
    first_node : (rest : List Element) → Leads nodes at rest → has_node node rest ≡ true → Node
    first_node [] h held = absurd (both_ways false refl held)
    first_node (f ∷ fs) h held = record { id = f.1; next = h.1.0 }

pub reached_never : (nodes : List Node) (es : List Element) (at : Option ℕ) (place node : ℕ) → IsReached nodes es at place node → at ≡ None → ⊥
reached_never nodes es at place node g is = none g.rest g.leads g.held
  where
    none : (rest : List Element) → Leads nodes at rest → has_node node rest ≡ true → ⊥
    none [] h held = both_ways false refl held
    none (f ∷ fs) h held = let there : at ≡ Some f.0 = h.0 in absurd (cc)

-- the ids before it differ from its own, so its place is the first at which its id stands
position_behind : (fs : List Element) (i : OpId) (gs : List OpId) → IsFresh i fs → position_or_len (same_id i) (ids_of fs ++ i ∷ gs) ≡ length fs
position_behind [] i gs fresh = simp (same_id_itself i) refl
position_behind (f ∷ fs) i gs fresh =
    let again = position_behind fs i gs fresh.1 in
    let apart = not_same i f.1 (λ h. fresh.0 (sym h)) in
    simp (apart, again) (omega arith)

pub reached_position : (nodes : List Node) (first : Option ℕ) (at : Option ℕ) (place node : ℕ) → IsLinked nodes first → IsReached nodes (spelled nodes first) at place node → at ≡ Some node → (i : OpId) → slice_get (node_ids nodes) node ≡ Some i → place ≡ position_or_len (same_id i) (ids_of (spelled nodes first))
reached_position nodes first at place node linked g is i held =
    let d : Node = first_node g.rest g.leads g.held in
    let s : IsStep nodes node d g.rest = step nodes at g.rest g.leads node d is in
    let j : OpId = (get_or nodes node d).id in
    let here : slice_get (node_ids nodes) node ≡ Some j = slice_get-map (λ (r : Node). r.id) nodes node ∙ ap (λ (o : Option Node). option_map (λ (r : Node). r.id) o) (slice_get-get_or nodes node d s.within) in
    let one : Some j ≡ Some i = sym here ∙ held in
    let same : j ≡ i = cc in
    let whole : spelled nodes first ≡ g.passed ++ (node, j) ∷ s.behind = g.whole ∙ ap (λ l. g.passed ++ l) s.whole in
    let fresh : IsFresh j g.passed = IdsDiffer-front g.passed (node, j) s.behind (subst IdsDiffer whole linked.differ) in
    let walk : ids_of (spelled nodes first) ≡ ids_of g.passed ++ j ∷ ids_of s.behind = ap ids_of whole ∙ map-append (λ (x : Element). x.1) g.passed ((node, j) ∷ s.behind) in
    sym g.count ∙ sym (position_behind g.passed j (ids_of s.behind) fresh) ∙ ap (λ l. position_or_len (same_id j) l) (sym walk) ∙ ap (λ (k : OpId). position_or_len (same_id k) (ids_of (spelled nodes first))) same
  where
    first_node : (rest : List Element) → Leads nodes at rest → has_node node rest ≡ true → Node
    first_node [] h held = absurd (both_ways false refl held)
    first_node (f ∷ fs) h held = record { id = f.1; next = h.1.0 }
