-- Laws of linked nodes.
use Rattle.std.proofs.Common.{ℕ, zero, suc, ◌≡◌, ◌≢◌, ◌<◌, ◌≤◌, ◌==◌, ◌++◌, List, [], ◌∷◌, length, Option, Some, None, true, false, slice_get, get_or, refl, sym, ap, ◌∙◌, inl, inr, arith, subst, length-append, append_assoc}
use Rattle.std.proofs.lemmas.List.{map-append}
use Rattle.std.specs.Ordering.{is_gt}
use Rattle.std.proofs.lemmas.Bool.{cases_Bool, both_ways, eqb-true}
use Rattle.std.proofs.lemmas.Option.{slice_get_within, slice_get-map, get_or_from_slice_get}
use Rattle.am_types.specs.declared.OpId.{OpId}
use Rattle.am_types.specs.declared.Key.{Key}
use Rattle.am_types.specs.declared.Key.TheVariants.{Elem}
use Rattle.am_types.specs.Elements.{put_after, put_at}
use Rattle.am_types.specs.Order.{id_cmp}
use Rattle.am_types.specs.Same.{same_id}
use Rattle.am_types.proofs.Orders.{same_id_itself, same_id-true}
use Rattle.am_chain.specs.declared.node.Node.{Node}
use Rattle.am_chain.specs.Passing.{put_below, put_below_after, put_passing}
use Rattle.am_chain.specs.Sequences.{key_of_node}
use Rattle.am_chain.specs.Chains.{Element, led, spelled, Leads, ids_of, IsFresh, IdsDiffer, has_node, IsChain, IsLinked, IsGap, node_ids}

-- ---- what the links lead through is what is spelled

led-Leads : (k : ℕ) (nodes : List Node) (at : Option ℕ) (es : List Element) → Leads nodes at es → length es ≤ k → led k nodes at ≡ es
led-Leads zero nodes at [] h few = refl
led-Leads (suc k) nodes at [] h few = rw h
led-Leads zero nodes at (e ∷ es) h few = absurd (omega arith)
led-Leads (suc k) nodes at (e ∷ es) h few =
    let again : led k nodes h.1.0 ≡ es = led-Leads k nodes h.1.0 es h.1.2 (omega arith) in
    let here = h.1.1 in
    rw (h.0, here, again)

pub spelled-Leads : (nodes : List Node) (at : Option ℕ) (es : List Element) → Leads nodes at es → length es ≤ length nodes → spelled nodes at ≡ es
unfolding spelled
spelled-Leads nodes at es h few = led-Leads (length nodes) nodes at es h few

pub IsLinked-from : (nodes : List Node) (first : Option ℕ) (es : List Element) → IsChain nodes first es → IsLinked nodes first
IsLinked-from nodes first es h = subst (IsChain nodes first) (sym (spelled-Leads nodes first es h.leads (omega (arith, h.count)))) h

-- ---- a gap

-- a list with the node n, cut there
pub record IsCut (n : ℕ) (es : List Element) : Type 0 where
  pub front : List Element
  pub id : OpId
  pub back : List Element
  pub whole : es ≡ front ++ (n, id) ∷ back

cut : (n : ℕ) (es : List Element) → has_node n es ≡ true → IsCut n es
cut n [] h = absurd (both_ways false refl h)
cut n (e ∷ es) h = elim (cases_Bool (e.0 == n)) [
  | inl here ↦ let same : e.0 ≡ n = eqb-true e.0 n here in record { front = []; id = e.1; back = es; whole = ap (λ (k : ℕ). (k, e.1) ∷ es) same }
  | inr not ↦ let there : has_node n es ≡ true = simp not at h in
      let c = cut n es there in
      record { front = e ∷ c.front; id = c.id; back = c.back; whole = ap (λ l. e ∷ l) c.whole }
]

-- the links behind a node lead through what stands behind it
pub Leads-back : (nodes : List Node) (at : Option ℕ) (fs : List Element) (e : Element) (gs : List Element) → Leads nodes at (fs ++ e ∷ gs) → (next : Option ℕ) × (slice_get nodes e.0 ≡ Some (record { id = e.1; next = next })) × Leads nodes next gs
Leads-back nodes at [] e gs h = h.1
Leads-back nodes at (f ∷ fs) e gs h = Leads-back nodes h.1.0 fs e gs h.1.2

pub IdsDiffer-front : (fs : List Element) (e : Element) (gs : List Element) → IdsDiffer (fs ++ e ∷ gs) → IsFresh e.1 fs
IdsDiffer-front [] e gs d = tt
IdsDiffer-front (f ∷ fs) e gs d = (λ h. fresh_in f.1 fs e gs d.0 (sym h), IdsDiffer-front fs e gs d.1)
  where
    fresh_in : (i : OpId) (fs : List Element) (e : Element) (gs : List Element) → IsFresh i (fs ++ e ∷ gs) → e.1 ≢ i
    fresh_in i [] e gs d = d.0
    fresh_in i (f ∷ fs) e gs d = fresh_in i fs e gs d.1

pub not_same : (a b : OpId) → a ≢ b → same_id a b ≡ false
not_same a b n = elim (cases_Bool (same_id a b)) [ inl h ↦ absurd (n (same_id-true a b h)) | inr h ↦ h ]

put_below_after-there : (fs : List Element) (n : ℕ) (i : OpId) (gs : List Element) (e : OpId) → IsFresh i fs → put_below_after i e (ids_of (fs ++ (n, i) ∷ gs)) ≡ ids_of (fs ++ (n, i) ∷ []) ++ put_below e (ids_of gs)
put_below_after-there [] n i gs e fresh = simp (same_id_itself i) refl
put_below_after-there (f ∷ fs) n i gs e fresh =
    let again = put_below_after-there fs n i gs e fresh.1 in
    let apart = not_same f.1 i fresh.0 in
    simp apart (ap (λ l. f.1 ∷ l) again)

put_after-there : (fs : List Element) (n : ℕ) (i : OpId) (gs : List Element) (e : OpId) → IsFresh i fs → put_after i e (ids_of (fs ++ (n, i) ∷ gs)) ≡ ids_of (fs ++ (n, i) ∷ []) ++ e ∷ ids_of gs
put_after-there [] n i gs e fresh = simp (same_id_itself i) refl
put_after-there (f ∷ fs) n i gs e fresh =
    let again = put_after-there fs n i gs e fresh.1 in
    let apart = not_same f.1 i fresh.0 in
    simp apart (ap (λ l. f.1 ∷ l) again)

key_there : (nodes : List Node) (n : ℕ) (node : Node) → slice_get nodes n ≡ Some node → key_of_node (node_ids nodes) (Some n) ≡ Elem node.id
key_there nodes n node h = rw (slice_get-map (λ (m : Node). m.id) nodes n, h)

-- the gap behind a node: put changes what stands behind it, and put_key says so of the whole list
behind_node : (nodes : List Node) (first : Option ℕ) (es : List Element) → IsChain nodes first es → (n : ℕ) (d : Node) → n < length nodes → (put : List OpId → List OpId) (put_key : Key → List OpId → List OpId) → ((fs : List Element) (i : OpId) (gs : List Element) → IsFresh i fs → put_key (Elem i) (ids_of (fs ++ (n, i) ∷ gs)) ≡ ids_of (fs ++ (n, i) ∷ []) ++ put (ids_of gs)) → IsGap nodes es (Some n) (get_or nodes n d).next put (put_key (key_of_node (node_ids nodes) (Some n)) (ids_of es))
behind_node nodes first es h n d low put put_key puts =
    let c : IsCut n es = cut n es (h.all n low) in
    let there : (next : Option ℕ) × (slice_get nodes n ≡ Some (record { id = c.id; next = next })) × Leads nodes next c.back = Leads-back nodes first c.front (n, c.id) c.back (subst (Leads nodes first) c.whole h.leads) in
    let read : get_or nodes n d ≡ record { id = c.id; next = there.0 } = get_or_from_slice_get nodes n (record { id = c.id; next = there.0 }) d there.1 in
    record {
      passed = c.front ++ (n, c.id) ∷ [];
      rest = c.back;
      whole = c.whole ∙ sym (append_assoc c.front ((n, c.id) ∷ []) c.back);
      leads = subst (λ (r : Node). Leads nodes r.next c.back) (sym read) there.2;
      last = (c.front, c.id, refl);
      there = rw (key_there nodes n (record { id = c.id; next = there.0 }) there.1) (ap (λ l. put_key (Elem c.id) (ids_of l)) c.whole ∙ puts c.front c.id c.back (IdsDiffer-front c.front (n, c.id) c.back (subst IdsDiffer c.whole h.differ)));
    }

pub behind_passing : (nodes : List Node) (first : Option ℕ) → IsLinked nodes first → (n : ℕ) (d : Node) → n < length nodes → (e : OpId) → IsGap nodes (spelled nodes first) (Some n) (get_or nodes n d).next (put_below e) (put_passing (key_of_node (node_ids nodes) (Some n)) e (ids_of (spelled nodes first)))
behind_passing nodes first h n d low e = behind_node nodes first (spelled nodes first) h n d low (put_below e) (λ k l. put_passing k e l) (λ fs i gs fresh. put_below_after-there fs n i gs e fresh)

pub behind_directly : (nodes : List Node) (first : Option ℕ) → IsLinked nodes first → (n : ℕ) (d : Node) → n < length nodes → (e : OpId) → IsGap nodes (spelled nodes first) (Some n) (get_or nodes n d).next (λ fs. e ∷ fs) (put_at (key_of_node (node_ids nodes) (Some n)) e (ids_of (spelled nodes first)))
behind_directly nodes first h n d low e = behind_node nodes first (spelled nodes first) h n d low (λ fs. e ∷ fs) (λ k l. put_at k e l) (λ fs i gs fresh. put_after-there fs n i gs e fresh)

-- ---- one step along the links

pub record IsStep (nodes : List Node) (n : ℕ) (d : Node) (rest : List Element) : Type 0 where
  pub within : n < length nodes
  pub behind : List Element
  pub whole : rest ≡ (n, (get_or nodes n d).id) ∷ behind
  pub leads : Leads nodes (get_or nodes n d).next behind

pub step : (nodes : List Node) (at : Option ℕ) (rest : List Element) → Leads nodes at rest → (n : ℕ) (d : Node) → at ≡ Some n → IsStep nodes n d rest
step nodes at [] h n d e = absurd (cc)
step nodes at (f ∷ fs) h n d e =
    let same : f.0 ≡ n = cc in
    let there : slice_get nodes n ≡ Some (record { id = f.1; next = h.1.0 }) = subst (λ (k : ℕ). slice_get nodes k ≡ Some (record { id = f.1; next = h.1.0 })) same h.1.1 in
    let read : record { id = f.1; next = h.1.0 } ≡ get_or nodes n d = sym (get_or_from_slice_get nodes n (record { id = f.1; next = h.1.0 }) d there) in
    record {
      within = slice_get_within nodes n (record { id = f.1; next = h.1.0 }) there;
      behind = fs;
      whole = λ i. (same i, (read i).id) ∷ fs;
      leads = subst (λ (r : Node). Leads nodes r.next fs) read h.1.2;
    }

pub step_smaller : (nodes : List Node) (at : Option ℕ) (rest : List Element) → Leads nodes at rest → length rest ≤ length nodes → (n : ℕ) (d : Node) → at ≡ Some n → length (spelled nodes (get_or nodes n d).next) < length (spelled nodes at)
step_smaller nodes at rest h few n d e =
    let s : IsStep nodes n d rest = step nodes at rest h n d e in
    let shorter : length rest ≡ suc (length s.behind) = ap length s.whole in
    rw (spelled-Leads nodes at rest h few, spelled-Leads nodes (get_or nodes n d).next s.behind s.leads (omega arith)) (omega arith)

rest_few : (nodes : List Node) (es : List Element) (before at : Option ℕ) (put : List OpId → List OpId) (target : List OpId) (g : IsGap nodes es before at put target) → length es ≡ length nodes → length g.rest ≤ length nodes
rest_few nodes es before at put target g count = let whole = ap length g.whole in omega (arith, length-append g.passed g.rest)

pub gap_smaller : (nodes : List Node) (first : Option ℕ) (before at : Option ℕ) (put : List OpId → List OpId) (target : List OpId) → IsLinked nodes first → IsGap nodes (spelled nodes first) before at put target → (n : ℕ) (d : Node) → at ≡ Some n → length (spelled nodes (get_or nodes n d).next) < length (spelled nodes at)
gap_smaller nodes first before at put target linked g n d e = step_smaller nodes at g.rest g.leads (rest_few nodes (spelled nodes first) before at put target g linked.count) n d e

pub Leads-within : (nodes : List Node) (at : Option ℕ) (rest : List Element) → Leads nodes at rest → (n : ℕ) → at ≡ Some n → n < length nodes
Leads-within nodes at [] h n e = absurd (cc)
Leads-within nodes at (f ∷ fs) h n e =
    let same : f.0 ≡ n = cc in
    subst (λ (k : ℕ). k < length nodes) same (slice_get_within nodes f.0 (record { id = f.1; next = h.1.0 }) h.1.1)

pub gap_within : (nodes : List Node) (es : List Element) (before at : Option ℕ) (put : List OpId → List OpId) (target : List OpId) → IsGap nodes es before at put target → (n : ℕ) → at ≡ Some n → n < length nodes
gap_within nodes es before at put target g n e = Leads-within nodes at g.rest g.leads n e

pub gap_passed : (nodes : List Node) (es : List Element) (before at : Option ℕ) (e : OpId) (target : List OpId) → IsGap nodes es before at (put_below e) target → (n : ℕ) (d : Node) → at ≡ Some n → is_gt (id_cmp (get_or nodes n d).id e) ≡ true → IsGap nodes es (Some n) (get_or nodes n d).next (put_below e) target
gap_passed nodes es before at e target g n d is up =
    let s : IsStep nodes n d g.rest = step nodes at g.rest g.leads n d is in
    let f : Element = (n, (get_or nodes n d).id) in
    let opened : put_below e (ids_of g.rest) ≡ f.1 ∷ put_below e (ids_of s.behind) = ap (λ l. put_below e (ids_of l)) s.whole ∙ simp up refl in
    record {
      passed = g.passed ++ f ∷ [];
      rest = s.behind;
      whole = g.whole ∙ ap (λ l. g.passed ++ l) s.whole ∙ sym (append_assoc g.passed (f ∷ []) s.behind);
      leads = s.leads;
      last = (g.passed, f.1, refl);
      there = g.there ∙ ap (λ l. ids_of g.passed ++ l) opened ∙ sym (append_assoc (ids_of g.passed) (f.1 ∷ []) (put_below e (ids_of s.behind))) ∙ ap (λ l. l ++ put_below e (ids_of s.behind)) (sym (map-append (λ (x : Element). x.1) g.passed (f ∷ [])));
    }

pub gap_stops : (nodes : List Node) (es : List Element) (before at : Option ℕ) (e : OpId) (target : List OpId) → IsGap nodes es before at (put_below e) target → (n : ℕ) (d : Node) → at ≡ Some n → is_gt (id_cmp (get_or nodes n d).id e) ≡ false → IsGap nodes es before at (λ fs. e ∷ fs) target
gap_stops nodes es before at e target g n d is low =
    let s : IsStep nodes n d g.rest = step nodes at g.rest g.leads n d is in
    let f : Element = (n, (get_or nodes n d).id) in
    let opened : put_below e (ids_of (f ∷ s.behind)) ≡ e ∷ ids_of (f ∷ s.behind) = simp low refl in
    let same : put_below e (ids_of g.rest) ≡ e ∷ ids_of g.rest = ap (λ l. put_below e (ids_of l)) s.whole ∙ opened ∙ ap (λ l. e ∷ ids_of l) (sym s.whole) in
    record { passed = g.passed; rest = g.rest; whole = g.whole; leads = g.leads; last = g.last; there = g.there ∙ ap (λ l. ids_of g.passed ++ l) same }

pub gap_ends : (nodes : List Node) (es : List Element) (before at : Option ℕ) (e : OpId) (target : List OpId) → IsGap nodes es before at (put_below e) target → at ≡ None → IsGap nodes es before at (λ fs. e ∷ fs) target
gap_ends nodes es before at e target g is =
    let over : g.rest ≡ [] = ended g.rest g.leads in
    let same : put_below e (ids_of g.rest) ≡ e ∷ ids_of g.rest = rw over in
    record { passed = g.passed; rest = g.rest; whole = g.whole; leads = g.leads; last = g.last; there = g.there ∙ ap (λ l. ids_of g.passed ++ l) same }
  where
    ended : (rest : List Element) → Leads nodes at rest → rest ≡ []
    ended [] h = refl
    ended (f ∷ fs) h = let there : at ≡ Some f.0 = h.0 in absurd (cc)
