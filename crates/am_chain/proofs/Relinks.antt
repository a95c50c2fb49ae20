-- What an insertion leaves: the same chain with one more node.
use Rattle.std.proofs.Common.{ℕ, zero, suc, ◌≡◌, ◌≢◌, ◌<◌, ◌+◌, ◌^◌, ◌==◌, ◌++◌, List, [], ◌∷◌, length, Option, Some, None, true, slice_get, get_or, set, refl, sym, ap, ◌∙◌, inl, inr, arith, subst, length-append, length-set, append_assoc}
use Rattle.std.specs.List.{AllByRecursion, Contains}
use Rattle.std.proofs.lemmas.Bool.{cases_Bool, eq-eqb, cases_eq}
use Rattle.std.proofs.lemmas.List.{length-map, length_push, map-append, map-set, set-get_or, set-append_left, get_or_append_left, get_or-map}
use Rattle.std.proofs.lemmas.Option.{slice_get_within, slice_get-get_or, get_or_from_slice_get}
use Rattle.am_types.specs.declared.OpId.{OpId}
use Rattle.am_chain.specs.declared.node.Node.{Node}
use Rattle.am_chain.specs.Chains.{Element, spelled, Leads, ids_of, IsFresh, IdsDiffer, has_node, IsChain, IsLinked, IsLast, IsGap, IsInserted, node_ids}
use Rattle.am_chain.proofs.Links.{spelled-Leads, IsLinked-from, Leads-back, IdsDiffer-front}

-- ---- reads

slice_get-set_same : {X : Type 0} (xs : List X) (i : ℕ) (v : X) → i < length xs → slice_get (set xs i v) i ≡ Some v
slice_get-set_same [] i v h = absurd (omega arith)
slice_get-set_same (x ∷ xs) zero v h = refl
slice_get-set_same (x ∷ xs) (suc i) v h = slice_get-set_same xs i v (omega arith)

slice_get-set_other : {X : Type 0} (xs : List X) (i k : ℕ) (v : X) → k ≢ i → slice_get (set xs i v) k ≡ slice_get xs k
slice_get-set_other [] i k v n = refl
slice_get-set_other (x ∷ xs) zero zero v n = absurd (n refl)
slice_get-set_other (x ∷ xs) zero (suc k) v n = refl
slice_get-set_other (x ∷ xs) (suc i) zero v n = refl
slice_get-set_other (x ∷ xs) (suc i) (suc k) v n = slice_get-set_other xs i k v (λ h. n (ap suc h))

slice_get-append_left : {X : Type 0} (xs ys : List X) (k : ℕ) → k < length xs → slice_get (xs ++ ys) k ≡ slice_get xs k
slice_get-append_left [] ys k h = absurd (omega arith)
slice_get-append_left (x ∷ xs) ys zero h = refl
slice_get-append_left (x ∷ xs) ys (suc k) h = slice_get-append_left xs ys k (omega arith)

slice_get-push : {X : Type 0} (xs : List X) (y : X) → slice_get (xs ++ y ∷ []) (length xs) ≡ Some y
slice_get-push [] y = refl
slice_get-push (x ∷ xs) y = slice_get-push xs y

-- ---- links that stay

Leads-frame : (nodes more : List Node) (at : Option ℕ) (es : List Element) → Leads nodes at es → AllByRecursion (λ f. slice_get more f.0 ≡ slice_get nodes f.0) es → Leads more at es
Leads-frame nodes more at [] h kept = h
Leads-frame nodes more at (e ∷ es) h kept = (h.0, (h.1.0, kept.0 ∙ h.1.1, Leads-frame nodes more h.1.0 es h.1.2 kept.1))

-- nodes with other ids have other numbers
apart : (nodes : List Node) (p : ℕ) (node : Node) → slice_get nodes p ≡ Some node → (at : Option ℕ) (es : List Element) → Leads nodes at es → IsFresh node.id es → AllByRecursion (λ f. (f.0 < length nodes) × (f.0 ≢ p)) es
apart nodes p node here at [] h fresh = tt
apart nodes p node here at (e ∷ es) h fresh =
    let there : slice_get nodes e.0 ≡ Some (record { id = e.1; next = h.1.0 }) = h.1.1 in (
      (
        slice_get_within nodes e.0 (record { id = e.1; next = h.1.0 }) there,
        λ q. let one : Some (record { id = e.1; next = h.1.0 }) ≡ Some node = sym there ∙ ap (slice_get nodes) q ∙ here in
            let same : record { id = e.1; next = h.1.0 } ≡ node = cc in
            fresh.0 (ap (λ (r : Node). r.id) same),
      ),
      apart nodes p node here h.1.0 es h.1.2 fresh.1,
    )

all_within : (nodes : List Node) (at : Option ℕ) (es : List Element) → Leads nodes at es → AllByRecursion (λ f. f.0 < length nodes) es
all_within nodes at [] h = tt
all_within nodes at (e ∷ es) h = (slice_get_within nodes e.0 (record { id = e.1; next = h.1.0 }) h.1.1, all_within nodes h.1.0 es h.1.2)

weaker : {X : Type 0} (P Q : X → Type 0) → ((x : X) → P x → Q x) → (xs : List X) → AllByRecursion P xs → AllByRecursion Q xs
weaker P Q f [] all = tt
weaker P Q f (x ∷ xs) all = (f x all.0, weaker P Q f xs all.1)

front_of : (P : Element → Type 0) (fs gs : List Element) → AllByRecursion P (fs ++ gs) → AllByRecursion P fs
front_of P [] gs all = tt
front_of P (f ∷ fs) gs all = (all.0, front_of P fs gs all.1)

back_of : (P : Element → Type 0) (fs gs : List Element) → AllByRecursion P (fs ++ gs) → AllByRecursion P gs
back_of P [] gs all = all
back_of P (f ∷ fs) gs all = back_of P fs gs all.1

-- ---- the chain with one more

IsFresh-put : (i : OpId) (fs : List Element) (e : Element) (gs : List Element) → IsFresh i (fs ++ gs) → e.1 ≢ i → IsFresh i (fs ++ e ∷ gs)
IsFresh-put i [] e gs d n = (n, d)
IsFresh-put i (f ∷ fs) e gs d n = (d.0, IsFresh-put i fs e gs d.1 n)

IdsDiffer-put : (fs : List Element) (e : Element) (gs : List Element) → IdsDiffer (fs ++ gs) → IsFresh e.1 (fs ++ gs) → IdsDiffer (fs ++ e ∷ gs)
IdsDiffer-put [] e gs d fresh = (fresh, d)
IdsDiffer-put (f ∷ fs) e gs d fresh = (IsFresh-put f.1 fs e gs d.0 (λ h. fresh.0 (sym h)), IdsDiffer-put fs e gs d.1 fresh.1)

has_put : (k : ℕ) (fs : List Element) (e : Element) (gs : List Element) → has_node k (fs ++ gs) ≡ true → has_node k (fs ++ e ∷ gs) ≡ true
has_put k [] e gs h = elim (cases_Bool (e.0 == k)) [ inl s ↦ simp s refl | inr s ↦ simp s h ]
has_put k (f ∷ fs) e gs h = elim (cases_Bool (f.0 == k)) [
  | inl s ↦ simp s refl
  | inr s ↦ let there : has_node k (fs ++ gs) ≡ true = simp s at h in let again = has_put k fs e gs there in simp (s, again) refl
]

has_new : (fs : List Element) (e : Element) (gs : List Element) → has_node e.0 (fs ++ e ∷ gs) ≡ true
has_new [] e gs = let s = eq-eqb e.0 e.0 refl in simp s refl
has_new (f ∷ fs) e gs = let again = has_new fs e gs in elim (cases_Bool (f.0 == e.0)) [ inl s ↦ simp s refl | inr s ↦ simp (s, again) refl ]

-- ids that no node has are fresh
IsFresh-from : (nodes : List Node) (i : OpId) → (Contains (node_ids nodes) i → ⊥) → (at : Option ℕ) (es : List Element) → Leads nodes at es → IsFresh i es
IsFresh-from nodes i fresh at [] h = tt
IsFresh-from nodes i fresh at (e ∷ es) h =
    ((λ q. fresh (held e.0 (record { id = e.1; next = h.1.0 }) h.1.1 q)), IsFresh-from nodes i fresh h.1.0 es h.1.2)
  where
    held : (k : ℕ) (node : Node) → slice_get nodes k ≡ Some node → node.id ≡ i → Contains (node_ids nodes) i
    held k node there q =
        let low : k < length nodes = slice_get_within nodes k node there in (
          k,
          rw (length-map nodes (λ (n : Node). n.id)) low,
          get_or-map (λ (n : Node). n.id) nodes k node i low ∙ ap (λ (r : Node). r.id) (get_or_from_slice_get nodes k node node there) ∙ q,
        )

-- the elements with e, a new node, in the gap
abbrev pub with_new : (nodes : List Node) (es : List Element) (before at : Option ℕ) (e : OpId) (target : List OpId) → IsGap nodes es before at (λ fs. e ∷ fs) target → List Element
with_new nodes es before at e target g = g.passed ++ (length nodes, e) ∷ g.rest

pub chain_more : (nodes : List Node) (first : Option ℕ) (before at : Option ℕ) (e : OpId) (target : List OpId) (linked : IsLinked nodes first) (g : IsGap nodes (spelled nodes first) before at (λ fs. e ∷ fs) target) (more : List Node) (start : Option ℕ) → (Contains (node_ids nodes) e → ⊥) → length nodes < 2 ^ 22 → length more ≡ suc (length nodes) → Leads more start (with_new nodes (spelled nodes first) before at e target g) → IsChain more start (with_new nodes (spelled nodes first) before at e target g)
chain_more nodes first before at e target linked g more start fresh room longer leads =
    let whole : spelled nodes first ≡ g.passed ++ g.rest = g.whole in
    let new : Element = (length nodes, e) in
    let count : length (g.passed ++ g.rest) ≡ length nodes = ap length (sym whole) ∙ linked.count in
    let apart : IsFresh e (g.passed ++ g.rest) = subst (IsFresh e) whole (IsFresh-from nodes e fresh first (spelled nodes first) linked.leads) in
    record {
      leads = leads;
      count = omega (arith, length-append g.passed g.rest, length-append g.passed (new ∷ g.rest));
      differ = IdsDiffer-put g.passed new g.rest (subst IdsDiffer whole linked.differ) apart;
      all = λ k low. elim (cases_eq k (length nodes)) [
        | inl s ↦ rw s (has_new g.passed new g.rest)
        | inr s ↦ has_put k g.passed new g.rest (subst (λ l. has_node k l ≡ true) whole (linked.all k (omega arith)))
      ];
      few = omega arith;
    }

pub walk_more : (nodes : List Node) (first : Option ℕ) (before at : Option ℕ) (e : OpId) (target : List OpId) (g : IsGap nodes (spelled nodes first) before at (λ fs. e ∷ fs) target) (more : List Node) (start : Option ℕ) → IsChain more start (with_new nodes (spelled nodes first) before at e target g) → ids_of (spelled more start) ≡ target
walk_more nodes first before at e target g more start chain =
    ap ids_of (spelled-Leads more start (with_new nodes (spelled nodes first) before at e target g) chain.leads (omega (arith, chain.count)))
    ∙ map-append (λ (x : Element). x.1) g.passed ((length nodes, e) ∷ g.rest)
    ∙ sym g.there

-- ---- at the front

pub front_leads : (nodes : List Node) (first : Option ℕ) (at : Option ℕ) (e : OpId) (target : List OpId) (linked : IsLinked nodes first) (g : IsGap nodes (spelled nodes first) None at (λ fs. e ∷ fs) target) → Leads (nodes ++ record { id = e; next = at } ∷ []) (Some (length nodes)) (with_new nodes (spelled nodes first) None at e target g)
front_leads nodes first at e target linked g =
    let more : List Node = nodes ++ record { id = e; next = at } ∷ [] in
    let kept : AllByRecursion (λ f. slice_get more f.0 ≡ slice_get nodes f.0) g.rest =
    weaker (λ f. f.0 < length nodes) (λ f. slice_get more f.0 ≡ slice_get nodes f.0) (λ f low. slice_get-append_left nodes (record { id = e; next = at } ∷ []) f.0 low) g.rest (all_within nodes at g.rest g.leads) in
    let here : Leads more (Some (length nodes)) ((length nodes, e) ∷ g.rest) = (refl, (at, slice_get-push nodes (record { id = e; next = at }), Leads-frame nodes more at g.rest g.leads kept)) in
    rw g.last here

-- ---- behind a node

relinked : (nodes more : List Node) (start : Option ℕ) (fs : List Element) (f : Element) (n : ℕ) (e : OpId) (at : Option ℕ) (gs : List Element) → Leads nodes start (fs ++ f ∷ gs) → AllByRecursion (λ x. slice_get more x.0 ≡ slice_get nodes x.0) fs → slice_get more f.0 ≡ Some (record { id = f.1; next = Some n }) → Leads more (Some n) ((n, e) ∷ gs) → Leads more start (fs ++ f ∷ (n, e) ∷ gs)
relinked nodes more start [] f n e at gs h kept here rest = (h.0, (Some n, here, rest))
relinked nodes more start (x ∷ fs) f n e at gs h kept here rest = (h.0, (h.1.0, kept.0 ∙ h.1.1, relinked nodes more h.1.0 fs f n e at gs h.1.2 kept.1 here rest))

IdsDiffer-back : (fs : List Element) (e : Element) (gs : List Element) → IdsDiffer (fs ++ e ∷ gs) → IsFresh e.1 gs
IdsDiffer-back [] e gs d = d.0
IdsDiffer-back (f ∷ fs) e gs d = IdsDiffer-back fs e gs d.1

-- a vector with a new node at its end, and a new link at p
abbrev pub relink : List Node → OpId → Option ℕ → ℕ → OpId → List Node
relink nodes e at p i = set (nodes ++ record { id = e; next = at } ∷ []) p (record { id = i; next = Some (length nodes) })

pub behind_leads : (nodes : List Node) (first : Option ℕ) (p : ℕ) (at : Option ℕ) (e : OpId) (target : List OpId) (linked : IsLinked nodes first) (g : IsGap nodes (spelled nodes first) (Some p) at (λ fs. e ∷ fs) target) (node : Node) → slice_get nodes p ≡ Some node → Leads (relink nodes e at p node.id) first (with_new nodes (spelled nodes first) (Some p) at e target g)
behind_leads nodes first p at e target linked g node there =
    let n : ℕ = length nodes in
    let i : OpId = node.id in
    let new : Node = record { id = e; next = at } in
    let more : List Node = relink nodes e at p i in
    let fs : List Element = g.last.0 in
    let low : p < length nodes = slice_get_within nodes p node there in
    let long : length (nodes ++ new ∷ []) ≡ length nodes + 1 = length_push nodes new in
    let front : g.passed ≡ fs ++ (p, g.last.1) ∷ [] = g.last.2 in
    let whole : spelled nodes first ≡ fs ++ (p, g.last.1) ∷ g.rest = g.whole ∙ ap (λ l. l ++ g.rest) front ∙ append_assoc fs ((p, g.last.1) ∷ []) g.rest in
    let leads : Leads nodes first (fs ++ (p, g.last.1) ∷ g.rest) = subst (Leads nodes first) whole linked.leads in
    let differ : IdsDiffer (fs ++ (p, g.last.1) ∷ g.rest) = subst IdsDiffer whole linked.differ in
    let back = Leads-back nodes first fs (p, g.last.1) g.rest leads in
    let one : Some (record { id = g.last.1; next = back.0 }) ≡ Some node = sym back.1 ∙ there in
    let same_node : record { id = g.last.1; next = back.0 } ≡ node = cc in
    let named : g.last.1 ≡ i = ap (λ (r : Node). r.id) same_node in
    let stays : (k : ℕ) → (k < n) × (k ≢ p) → slice_get more k ≡ slice_get nodes k
    = λ k h. slice_get-set_other (nodes ++ new ∷ []) p k (record { id = i; next = Some n }) h.1 ∙ slice_get-append_left nodes (new ∷ []) k h.0 in
    let kept_front : AllByRecursion (λ f. slice_get more f.0 ≡ slice_get nodes f.0) fs
    = weaker (λ f. (f.0 < n) × (f.0 ≢ p)) (λ f. slice_get more f.0 ≡ slice_get nodes f.0) (λ f h. stays f.0 h) fs
    (apart_front nodes p node there first fs (p, g.last.1) g.rest leads (subst (λ (j : OpId). IsFresh j fs) named (IdsDiffer-front fs (p, g.last.1) g.rest differ))) in
    let kept_back : AllByRecursion (λ f. slice_get more f.0 ≡ slice_get nodes f.0) g.rest
    = weaker (λ f. (f.0 < n) × (f.0 ≢ p)) (λ f. slice_get more f.0 ≡ slice_get nodes f.0) (λ f h. stays f.0 h) g.rest
    (apart nodes p node there at g.rest g.leads (subst (λ (j : OpId). IsFresh j g.rest) named (IdsDiffer-back fs (p, g.last.1) g.rest differ))) in
    let made : slice_get more n ≡ Some new = slice_get-set_other (nodes ++ new ∷ []) p n (record { id = i; next = Some n }) (λ (h : n ≡ p). omega arith) ∙ slice_get-push nodes new in
    let here : slice_get more p ≡ Some (record { id = g.last.1; next = Some n }) = rw named (slice_get-set_same (nodes ++ new ∷ []) p (record { id = i; next = Some n }) (omega arith)) in
    let rest : Leads more (Some n) ((n, e) ∷ g.rest) = (refl, (at, made, Leads-frame nodes more at g.rest g.leads kept_back)) in
    let done : Leads more first (fs ++ (p, g.last.1) ∷ (n, e) ∷ g.rest) = relinked nodes more first fs (p, g.last.1) n e at g.rest leads kept_front here rest in
    subst (Leads more first) (sym (ap (λ l. l ++ (n, e) ∷ g.rest) front ∙ append_assoc fs ((p, g.last.1) ∷ []) ((n, e) ∷ g.rest))) done
  where
    apart_front : (nodes : List Node) (p : ℕ) (node : Node) → slice_get nodes p ≡ Some node → (at : Option ℕ) (fs : List Element) (f : Element) (gs : List Element) → Leads nodes at (fs ++ f ∷ gs) → IsFresh node.id fs → AllByRecursion (λ x. (x.0 < length nodes) × (x.0 ≢ p)) fs
    apart_front nodes p node there at [] f gs h fresh = tt
    apart_front nodes p node there at (x ∷ fs) f gs h fresh =
        let one : Some (record { id = x.1; next = h.1.0 }) ≡ slice_get nodes x.0 = sym h.1.1 in (
          (
            slice_get_within nodes x.0 (record { id = x.1; next = h.1.0 }) h.1.1,
            λ q. let two : Some (record { id = x.1; next = h.1.0 }) ≡ Some node = one ∙ ap (slice_get nodes) q ∙ there in
                let same : record { id = x.1; next = h.1.0 } ≡ node = cc in
                fresh.0 (ap (λ (r : Node). r.id) same),
          ),
          apart_front nodes p node there h.1.0 fs f gs h.1.2 fresh.1,
        )

-- ---- what an insertion gives, in the form of the code's steps

pub inserted_front : (nodes : List Node) (first : Option ℕ) (linked : IsLinked nodes first) (before at : Option ℕ) (e : OpId) (target : List OpId) (g : IsGap nodes (spelled nodes first) before at (λ fs. e ∷ fs) target) → (Contains (node_ids nodes) e → ⊥) → length nodes < 2 ^ 22 → before ≡ None → (more : List Node) → more ≡ nodes ++ record { id = e; next = at } ∷ [] → (n : ℕ) → n ≡ length nodes → IsInserted nodes e target more (Some n)
inserted_front nodes first linked before at e target g fresh room is more pushed n count =
    let pushed_list : List Node = nodes ++ record { id = e; next = at } ∷ [] in
    let h : IsGap nodes (spelled nodes first) None at (λ fs. e ∷ fs) target = subst (λ (b : Option ℕ). IsGap nodes (spelled nodes first) b at (λ fs. e ∷ fs) target) is g in
    let longer : length pushed_list ≡ suc (length nodes) = length_push nodes (record { id = e; next = at }) ∙ (let s : length nodes + 1 ≡ suc (length nodes) = omega arith in s) in
    let chain = chain_more nodes first None at e target linked h pushed_list (Some (length nodes)) fresh room longer (front_leads nodes first at e target linked h) in
    let done : IsInserted nodes e target pushed_list (Some (length nodes)) = record {
      linked = IsLinked-from pushed_list (Some (length nodes)) (with_new nodes (spelled nodes first) None at e target h) chain;
      ids = map-append (λ (r : Node). r.id) nodes (record { id = e; next = at } ∷ []);
      walk = walk_more nodes first None at e target h pushed_list (Some (length nodes)) chain;
    } in
    rw (pushed, count) done

-- the node before a gap is one of the nodes
pub gap_last : (nodes : List Node) (first : Option ℕ) (linked : IsLinked nodes first) (before at : Option ℕ) (e : OpId) (target : List OpId) → IsGap nodes (spelled nodes first) before at (λ fs. e ∷ fs) target → (p : ℕ) → before ≡ Some p → p < length nodes
gap_last nodes first linked before at e target g p is =
    let last : IsLast (Some p) g.passed = subst (λ (b : Option ℕ). IsLast b g.passed) is g.last in
    let whole : spelled nodes first ≡ last.0 ++ (p, last.1) ∷ g.rest = g.whole ∙ ap (λ l. l ++ g.rest) last.2 ∙ append_assoc last.0 ((p, last.1) ∷ []) g.rest in
    let back = Leads-back nodes first last.0 (p, last.1) g.rest (subst (Leads nodes first) whole linked.leads) in
    slice_get_within nodes p (record { id = last.1; next = back.0 }) back.1

pub inserted_behind : (nodes : List Node) (first : Option ℕ) (linked : IsLinked nodes first) (before at : Option ℕ) (e : OpId) (target : List OpId) (g : IsGap nodes (spelled nodes first) before at (λ fs. e ∷ fs) target) → (Contains (node_ids nodes) e → ⊥) → length nodes < 2 ^ 22 → (p : ℕ) → before ≡ Some p → (more : List Node) → more ≡ nodes ++ record { id = e; next = at } ∷ [] → (n : ℕ) → n ≡ length nodes → (node : Node) → node ≡ get_or more p node → IsInserted nodes e target (set more p (record { id = node.id; next = Some n })) first
inserted_behind nodes first linked before at e target g fresh room p is more pushed n count node read =
    let h : IsGap nodes (spelled nodes first) (Some p) at (λ fs. e ∷ fs) target = subst (λ (b : Option ℕ). IsGap nodes (spelled nodes first) b at (λ fs. e ∷ fs) target) is g in
    let low : p < length nodes = gap_last nodes first linked before at e target g p is in
    let pushed_list : List Node = nodes ++ record { id = e; next = at } ∷ [] in
    let same : node ≡ get_or nodes p node = read ∙ ap (λ l. get_or l p node) pushed ∙ get_or_append_left nodes (record { id = e; next = at } ∷ []) node p low in
    let there : slice_get nodes p ≡ Some node = slice_get-get_or nodes p node low ∙ ap (λ (r : Node). Some r) (sym same) in
    let more_list : List Node = relink nodes e at p node.id in
    let longer : length more_list ≡ suc (length nodes) = length-set pushed_list p (record { id = node.id; next = Some (length nodes) }) ∙ length_push nodes (record { id = e; next = at }) ∙ (let s : length nodes + 1 ≡ suc (length nodes) = omega arith in s) in
    let chain = chain_more nodes first (Some p) at e target linked h more_list first fresh room longer (behind_leads nodes first p at e target linked h node there) in
    let kept_id : set (node_ids nodes) p node.id ≡ node_ids nodes
    = ap (set (node_ids nodes) p) (ap (λ (r : Node). r.id) same ∙ sym (get_or-map (λ (r : Node). r.id) nodes p node node.id low)) ∙ set-get_or (node_ids nodes) p node.id in
    let done : IsInserted nodes e target more_list first = record {
      linked = IsLinked-from more_list first (with_new nodes (spelled nodes first) (Some p) at e target h) chain;
      ids = map-set (λ (r : Node). r.id) pushed_list p (record { id = node.id; next = Some (length nodes) })
          ∙ ap (λ l. set l p node.id) (map-append (λ (r : Node). r.id) nodes (record { id = e; next = at } ∷ []))
          ∙ set-append_left (node_ids nodes) (e ∷ []) p node.id (rw (length-map nodes (λ (r : Node). r.id)) low)
          ∙ ap (λ l. l ++ e ∷ []) kept_id;
      walk = walk_more nodes first (Some p) at e target h more_list first chain;
    } in
    rw (pushed, count) done
