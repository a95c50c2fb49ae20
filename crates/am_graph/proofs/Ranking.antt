-- Sorting by rank gives the canonical order.
use Rattle.std.proofs.Common.{ℕ, ◌≡◌, ◌+◌, ◌<◌, List, [], ◌∷◌, ◌++◌, length, get_or, map, take, Option, refl, sym, ap, ◌∙◌, inl, inr, IsPermutation, arith}
use Rattle.std.specs.Bool.{⊤}
use Rattle.std.specs.Cmp.{IsTotalOrder}
use Rattle.std.specs.List.Sorted.{IsSorted}
use Rattle.std.specs.Ordering.{nat_cmp, on, ordering_then, is_gt, is_lt}
use Rattle.std.specs.declared.cmp.Ordering.{Ordering}
use Rattle.std.specs.declared.cmp.Ordering.TheVariants.{Equal}
use Rattle.std.proofs.lemmas.Bool.{cases_Bool}
use Rattle.std.proofs.lemmas.Cmp.{nat_cmp_total, nat_list_cmp_total, on_total, then_total}
use Rattle.std.proofs.lemmas.List.{get_or-map, length-map, map-append}
use Rattle.std.proofs.lemmas.List.Sorted.{IsPermutation-map}
use Rattle.std.proofs.lemmas.Map.Lookups.{exact_unsigned, exact_bytes, exact_pairs}
use Rattle.am_types.specs.declared.Hash.{Hash}
use Rattle.am_types.specs.Order.{bytes_cmp, hash_cmp, put_in_order, sorted_by}
use Rattle.am_types.specs.Members.{Member, hashes}
use Rattle.am_types.specs.Canonical.{depth, order}
use Rattle.am_types.proofs.Orders.{hash_total, hash_exact}
use Rattle.am_graph.specs.declared.node.Node.{Node}
use Rattle.am_graph.specs.declared.parts.Mark.{Mark}
use Rattle.am_graph.specs.declared.canonical.Rank.{Rank}
use Rattle.am_graph.specs.Graphs.{node_of, ForSet}
use Rattle.am_graph.specs.Ranks.{Ranked, rank_of, rank_in}
use Rattle.am_graph.specs.Whole.{WholeOf}
use Rattle.am_graph.proofs.Growing.{length_nodes, node_at}
use Rattle.am_graph.proofs.Named.{take_one}
use Rattle.am_graph.proofs.SortCalls.{sorted_is}
use Rattle.am_graph.proofs.Visiting.{no_member}

-- ---- sorting by what f reads of each element

module _ {A B : Type 0} (f : A → B) (R : B → B → Ordering) where
  put_map : (x : A) (ys : List A) → map f (put_in_order (on f R) x ys) ≡ put_in_order R (f x) (map f ys)
  put_map x [] = refl
  put_map x (y ∷ ys) =
      let again : map f (put_in_order (on f R) x ys) ≡ put_in_order R (f x) (map f ys) = put_map x ys in
      elim (cases_Bool (is_gt (R (f x) (f y)))) [ inl e ↦ simp e (ap (λ l. f y ∷ l) again) | inr e ↦ simp e refl ]

  sorted_map : (xs : List A) → map f (sorted_by (on f R) xs) ≡ sorted_by R (map f xs)
  sorted_map [] = refl
  sorted_map (x ∷ xs) = put_map x (sorted_by (on f R) xs) ∙ ap (put_in_order R (f x)) (sorted_map xs)

  is_sorted_map : (xs : List A) → IsSorted (on f R) xs → IsSorted R (map f xs)
  is_sorted_map [] up k d z l = absurd (omega arith)
  is_sorted_map (x ∷ xs) up k d z l =
      let long : length (map f (x ∷ xs)) ≡ length (x ∷ xs) = length-map (x ∷ xs) f in
      let upper : get_or (map f (x ∷ xs)) (k + 1) d ≡ f (get_or (x ∷ xs) (k + 1) x) = get_or-map f (x ∷ xs) (k + 1) x d (omega arith) in
      let lower : get_or (map f (x ∷ xs)) k d ≡ f (get_or (x ∷ xs) k x) = get_or-map f (x ∷ xs) k x d (omega arith) in
      (λ i. is_lt (R (upper i) (lower i))) ∙ up k x z (omega arith)

-- ---- ranks

abbrev pub ranked_cmp : Ranked → Ranked → Ordering
ranked_cmp x y = ordering_then (nat_cmp x.0 y.0) (ordering_then (bytes_cmp x.1.0 y.1.0) (ordering_then (nat_cmp x.1.1.0 y.1.1.0) (hash_cmp x.1.1.1 y.1.1.1)))

ranked_total : IsTotalOrder ranked_cmp
ranked_total =
    then_total (on_total (λ (x : Ranked). x.0) nat_cmp_total)
    (then_total (on_total (λ (x : Ranked). x.1.0) nat_list_cmp_total)
    (then_total (on_total (λ (x : Ranked). x.1.1.0) nat_cmp_total)
    (on_total (λ (x : Ranked). x.1.1.1) hash_total)))

ranked_exact : (x y : Ranked) → ranked_cmp x y ≡ Equal → x ≡ y
ranked_exact =
    let by_hash : (ℕ × Hash) → (ℕ × Hash) → Ordering = λ x y. ordering_then (nat_cmp x.0 y.0) (hash_cmp x.1 y.1) in
    let by_actor : (List ℕ × (ℕ × Hash)) → (List ℕ × (ℕ × Hash)) → Ordering = λ x y. ordering_then (bytes_cmp x.0 y.0) (by_hash x.1 y.1) in
    exact_pairs nat_cmp by_actor exact_unsigned (exact_pairs bytes_cmp by_hash exact_bytes (exact_pairs nat_cmp hash_cmp exact_unsigned hash_exact))

map_hashes : (f : Member → Ranked) → ((m : Member) → (f m).1.1.1 ≡ m.hash) → (ms : List Member) → map (λ (x : Ranked). x.1.1.1) (map f ms) ≡ hashes ms
map_hashes f is [] = refl
map_hashes f is (m ∷ ms) = λ i. is m i ∷ map_hashes f is ms i

map_ranks : (rs : List Rank) → map (λ (x : Ranked). x.1.1.1) (map rank_of rs) ≡ map (λ r. r.hash) rs
map_ranks [] = refl
map_ranks (r ∷ rs) = ap (λ hs. r.hash ∷ hs) (map_ranks rs)

pub ranked_order : (g : List (Hash × Node)) (rs qs : List Rank) → ForSet g (λ C. map rank_of rs ≡ map (rank_in C) C) → IsPermutation rs qs → IsSorted (on rank_of ranked_cmp) qs
    → ForSet g (λ C. map (λ r. r.hash) qs ≡ hashes (order C))
unfolding order
ranked_order g rs qs are same up C e =
    sym (map_ranks qs)
    ∙ ap (map (λ (x : Ranked). x.1.1.1)) (sorted_is ranked_total (λ _. ⊤) (λ x y _ _. ranked_exact x y) (map rank_of rs) (map rank_of qs) (λ k d l. tt)
    (IsPermutation-map rank_of rs qs same) (is_sorted_map rank_of ranked_cmp qs up)
    ∙ ap (sorted_by ranked_cmp) (are C e) ∙ sym (sorted_map (rank_in C) ranked_cmp C))
    ∙ map_hashes (rank_in C) (λ m. refl) (sorted_by (on (rank_in C) ranked_cmp) C)

-- one more change
pub ranked_more : (g : List (Hash × Node)) (marks : List Mark) (authors : List (List ℕ)) (f : ℕ → ℕ → Option Hash) → WholeOf g marks authors f
    → (i : ℕ) (e : Hash × Node) (mark : Mark) → i < length g → get_or g i e ≡ e → get_or marks i mark ≡ mark
    → (rs : List Rank) (r : Rank) → rank_of r ≡ (mark.depth, (e.1.actor, (e.1.seq, e.0)))
    → ForSet g (λ C. map rank_of rs ≡ map (rank_in C) (take i C)) → ForSet g (λ C. map rank_of (rs ++ r ∷ []) ≡ map (rank_in C) (take (i + 1) C))
ranked_more g marks authors f whole i e mark low at marked rs r is old C set =
    let ln = length_nodes C in let le = ap length set in
    let l : i < length C = omega arith in
    let m : Member = get_or C i no_member in
    let same : e ≡ (m.hash, node_of m.change) = sym at ∙ ap (λ q. get_or q i e) set ∙ node_at C i no_member e l in
    let deep : mark.depth ≡ depth C m.change = ap (λ q. q.depth) (sym marked) ∙ whole.depths C set i mark no_member l in
    map-append rank_of rs (r ∷ [])
    ∙ (λ t. old C set t ++ (is ∙ (λ u. (deep u, ((same u).1.actor, ((same u).1.seq, (same u).0))))) t ∷ [])
    ∙ sym (map-append (rank_in C) (take i C) (m ∷ []))
    ∙ ap (map (rank_in C)) (sym (take_one C i no_member l))
