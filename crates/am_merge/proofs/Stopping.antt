-- The steps of the walk, as its code takes them.
use Rattle.std.proofs.Common.{ℕ, zero, suc, ◌≡◌, ◌+◌, ◌<◌, ◌==◌, ◌⊎◌, List, [], ◌∷◌, ◌++◌, drop, filter, get_or, length, map, reverse, slice_range, take, take_all, ◌-◌, true, false, refl, sym, ap, ◌∙◌, inl, inr, arith}
use Rattle.std.proofs.lemmas.Bool.{both_ways}
use Rattle.std.proofs.lemmas.List.{append-nil, append_assoc, map-append, replicate-append-replicate, reverse-append, take_more}
use Rattle.std.proofs.lemmas.List.Concat.{flat_map-append}
use Rattle.am_types.specs.declared.OpId.{OpId}
use Rattle.am_types.specs.declared.ObjId.{ObjId}
use Rattle.am_types.specs.declared.ObjId.TheVariants.{Root}
use Rattle.am_types.specs.declared.Row.{Row}
use Rattle.am_types.specs.Operations.{Operation, ascending}
use Rattle.am_types.specs.Rows.{succs}
use Rattle.am_places.specs.Numbered.{operation_of}
use Rattle.am_places.specs.Sound.{HaveDistinctPreds}
use Rattle.am_places.specs.declared.numbered.Numbered.{Numbered}
use Rattle.am_merge.specs.Carrying.{ids_of}
use Rattle.am_merge.specs.Naming.{Named, is_named, named_of, predecessors, references}
use Rattle.am_merge.specs.Plans.{Event, Take, Put}
use Rattle.am_merge.specs.Stacks.{stacked}
use Rattle.am_merge.specs.Stops.{HasPut, copies, done_in, event_of, events_of, ids_in, is_some_left, waiting_of}
use Rattle.am_merge.specs.Turns.{pushed}
use Rattle.am_merge.specs.Walk.{behind, hanging, hung, is_first, is_next, new_row, spot_of, spot_of_row, walk_into, walk_out, walked}
use Rattle.am_merge.specs.declared.naming.Naming.{Naming}
use Rattle.am_merge.specs.declared.stops.Stop.{Stop}
use Rattle.am_merge.specs.declared.stops.Walk.{Walk}
use Rattle.am_merge.proofs.Hanging.{pushed_is}
use Rattle.am_merge.proofs.Lists.{map-map}
use Rattle.am_merge.proofs.NamedLaws.{hung_named, succs_named}
use Rattle.am_merge.proofs.Walked.{into_passes}

-- ---- stacks

pub stacked_push : (ns : List Numbered) (n : Numbered) → stacked (ns ++ n ∷ []) ≡ operation_of n ∷ stacked ns
stacked_push ns n = ap reverse (map-append operation_of ns (n ∷ [])) ∙ reverse-append (map operation_of ns) (operation_of n ∷ [])

pub pushed_one : (xs : List Operation) (x : Operation) (ws : List Operation) → pushed (xs ++ x ∷ []) ws ≡ x ∷ pushed xs ws
pushed_one xs x ws = pushed_is (xs ++ x ∷ []) ws ∙ ap (λ l. l ++ ws) (reverse-append xs (x ∷ [])) ∙ ap (λ l. x ∷ l) (sym (pushed_is xs ws))

-- ---- tables

abbrev by : Named → Operation
by n = n.operation

pub named_ids : (A : List Operation) (ns : List Naming) (i : OpId) → ascending A ≡ A → HaveDistinctPreds A
    → map named_of ns ≡ filter (is_named Root i) (predecessors A) → ids_of ns ≡ succs A i
named_ids A ns i up d e = sym (map-map (λ (n : Named). n.operation.id) named_of ns) ∙ ap (map (λ (n : Named). n.operation.id)) e ∙ succs_named i A up d

pub ids_are : (A : List Operation) (named : List Naming) (first last : ℕ) (i : OpId) → ascending A ≡ A → HaveDistinctPreds A
    → map named_of (slice_range named first last) ≡ filter (is_named Root i) (predecessors A) → ids_in named first last ≡ succs A i
ids_are A named first last i up d e = named_ids A (slice_range named first last) i up d e

pub hung_are : (A : List Operation) (ns : List Naming) (o : ObjId) (e : OpId) → map named_of ns ≡ filter (is_named o e) (references (hanging A)) → map (λ n. (named_of n).operation) ns ≡ hung A o e
hung_are A ns o e h = sym (map-map by named_of ns) ∙ ap (map by) h ∙ hung_named o e (hanging A)

pub none_in : (named : List Naming) (first last : ℕ) → first ≡ last → ids_in named first last ≡ []
none_in named first last e = let z : last - first ≡ 0 = omega arith in ap (λ n. map (λ (n : Naming). (named_of n).operation.id) (take n (drop first named))) z

-- ---- stops

pub stop_more : (named : List Naming) (stops : List Stop) (s : Stop) → events_of named (stops ++ s ∷ []) ++ copies 0 ≡ (events_of named stops ++ copies s.skip) ++ event_of named s ∷ []
stop_more named stops s =
    append-nil (events_of named (stops ++ s ∷ []))
    ∙ flat_map-append (λ (s : Stop). copies s.skip ++ event_of named s ∷ []) stops (s ∷ [])
    ∙ ap (λ l. events_of named stops ++ l) (append-nil (copies s.skip ++ event_of named s ∷ []))
    ∙ sym (append_assoc (events_of named stops) (copies s.skip) (event_of named s ∷ []))

pub copy_more : (es : List Event) (n : ℕ) → es ++ copies (n + 1) ≡ (es ++ copies n) ++ Take [] ∷ []
copy_more es n = ap (λ l. es ++ l) (sym (replicate-append-replicate n 1 (Take []))) ∙ sym (append_assoc es (copies n) (Take [] ∷ []))

-- ---- one comes

into_comes : (A : List Operation) (r : Row) (rest : ℕ → List Operation → List Event) (m n : ℕ) (y : Operation) (ws : List Operation) → m + 1 ≡ n → is_next y r ≡ true
    → walk_into A r rest n (y ∷ ws) ≡ Put (new_row A y) ∷ walk_into A r rest m (behind A (spot_of y) ws)
into_comes A r rest m zero y ws e t = absurd (omega arith)
into_comes A r rest m (suc n) y ws e t = let same : n ≡ m = omega arith in simp t (ap (λ k. Put (new_row A y) ∷ walk_into A r rest k (behind A (spot_of y) ws)) same)

pub out_comes : (A : List Operation) (m n : ℕ) (y : Operation) (ws : List Operation) → m + 1 ≡ n → walk_out A n (y ∷ ws) ≡ Put (new_row A y) ∷ walk_out A m (behind A (spot_of y) ws)
out_comes A m zero y ws e = absurd (omega arith)
out_comes A m (suc n) y ws e = let same : n ≡ m = omega arith in ap (λ k. Put (new_row A y) ∷ walk_out A k (behind A (spot_of y) ws)) same

module _ (A : List Operation) (named : List Naming) (v w : Walk) (fewer : w.left + 1 ≡ v.left) (put : (y : Operation) (ws : List Operation) → waiting_of v ≡ y ∷ ws → HasPut A named v w y ws) where
  onward : (f : ℕ → List Operation → List Event) → ((y : Operation) (ws : List Operation) → waiting_of v ≡ y ∷ ws → f v.left (y ∷ ws) ≡ Put (new_row A y) ∷ f w.left (behind A (spot_of y) ws))
      → (y : Operation) (ws : List Operation) → waiting_of v ≡ y ∷ ws → done_in named v ++ f v.left (waiting_of v) ≡ done_in named w ++ f w.left (waiting_of w)
  onward f step y ws e =
      let h = put y ws e in
      ap (λ q. done_in named v ++ f v.left q) e
      ∙ ap (λ l. done_in named v ++ l) (step y ws e)
      ∙ sym (append_assoc (done_in named v) (Put (new_row A y) ∷ []) (f w.left (behind A (spot_of y) ws)))
      ∙ (λ i. sym h.events i ++ f w.left (sym h.waiting i))

  pub comes_before_row : (r : Row) (rest : ℕ → List Operation → List Event) → is_first (waiting_of v) r ≡ true
      → done_in named v ++ walk_into A r rest v.left (waiting_of v) ≡ done_in named w ++ walk_into A r rest w.left (waiting_of w)
  comes_before_row r rest t = go (waiting_of v) refl
    where
      go : (ws : List Operation) → waiting_of v ≡ ws → done_in named v ++ walk_into A r rest v.left (waiting_of v) ≡ done_in named w ++ walk_into A r rest w.left (waiting_of w)
      go [] e = absurd (both_ways (is_first (waiting_of v) r) (ap (λ q. is_first q r) e) t)
      go (y ∷ ws) e =
          let u : is_next y r ≡ true = sym (ap (λ q. is_first q r) e) ∙ t in
          onward (walk_into A r rest) (λ z zs f. into_comes A r rest w.left v.left z zs fewer (sym (ap (λ q. is_first q r) f) ∙ t)) y ws e

  pub comes_last_of_all : is_some_left (waiting_of v) ≡ true → done_in named v ++ walk_out A v.left (waiting_of v) ≡ done_in named w ++ walk_out A w.left (waiting_of w)
  comes_last_of_all t = go (waiting_of v) refl
    where
      go : (ws : List Operation) → waiting_of v ≡ ws → done_in named v ++ walk_out A v.left (waiting_of v) ≡ done_in named w ++ walk_out A w.left (waiting_of w)
      go [] e = absurd (both_ways (is_some_left (waiting_of v)) (ap is_some_left e) t)
      go (y ∷ ws) e = onward (walk_out A) (λ z zs f. out_comes A w.left v.left z zs fewer) y ws e

-- ---- none comes

pub none_before : (A : List Operation) (r : Row) (rest : ℕ → List Operation → List Event) (n : ℕ) (ws : List Operation) → (n ≡ 0) ⊎ (is_first ws r ≡ false)
    → walk_into A r rest n ws ≡ Take (succs A r.id) ∷ rest n (behind A (spot_of_row r) ws)
none_before A r rest zero ws h = refl
none_before A r rest (suc n) ws (inl e) = absurd (omega arith)
none_before A r rest (suc n) ws (inr f) = into_passes A r rest (suc n) ws f

pub none_left_over : (A : List Operation) (n : ℕ) (ws : List Operation) → (n ≡ 0) ⊎ (is_some_left ws ≡ false) → walk_out A n ws ≡ []
none_left_over A zero ws h = refl
none_left_over A (suc n) [] h = refl
none_left_over A (suc n) (y ∷ ws) (inl e) = absurd (omega arith)
none_left_over A (suc n) (y ∷ ws) (inr f) = absurd (both_ways true f refl)

-- ---- a row

pub row_passes : (A : List Operation) (named : List Naming) (r : Row) (rs : List Row) (v m w : Walk)
    → done_in named v ++ walk_into A r (walked A rs) v.left (waiting_of v) ≡ done_in named m ++ (Take (succs A r.id) ∷ walked A rs m.left (behind A (spot_of_row r) (waiting_of m)))
    → done_in named w ≡ done_in named m ++ Take (succs A r.id) ∷ [] → waiting_of w ≡ behind A (spot_of_row r) (waiting_of m) → w.left ≡ m.left
    → done_in named v ++ walked A (r ∷ rs) v.left (waiting_of v) ≡ done_in named w ++ walked A rs w.left (waiting_of w)
row_passes A named r rs v m w before events waiting left =
    before
    ∙ sym (append_assoc (done_in named m) (Take (succs A r.id) ∷ []) (walked A rs m.left (behind A (spot_of_row r) (waiting_of m))))
    ∙ (λ i. sym events i ++ walked A rs (sym left i) (sym waiting i))

-- ---- one more on the stack

pub push_step : (hung : List Naming) (i : ℕ) (h : Naming) (ws : List Operation) → i < length hung → h ≡ get_or hung i h
    → pushed (map (λ n. (named_of n).operation) (take (i + 1) hung)) ws ≡ (named_of h).operation ∷ pushed (map (λ n. (named_of n).operation) (take i hung)) ws
push_step hung i h ws l is =
    ap (λ ns. pushed (map (λ (n : Naming). (named_of n).operation) ns) ws) (take_more hung i h l)
    ∙ ap (λ ns. pushed ns ws) (map-append (λ (n : Naming). (named_of n).operation) (take i hung) (get_or hung i h ∷ []) ∙ ap (λ (n : Naming). map (λ (n : Naming). (named_of n).operation) (take i hung) ++ (named_of n).operation ∷ []) (sym is))
    ∙ pushed_one (map (λ (n : Naming). (named_of n).operation) (take i hung)) (named_of h).operation ws

-- ---- the top of the stack

pub top_is : (ns : List Numbered) (i : ℕ) (n : Numbered) → i + 1 ≡ length ns → i < length ns → n ≡ get_or ns i n → stacked ns ≡ operation_of n ∷ stacked (take i ns)
top_is ns i n e l is =
    ap stacked (sym whole ∙ take_more ns i n l ∙ ap (λ m. take i ns ++ m ∷ []) (sym is)) ∙ stacked_push (take i ns) n
  where
    whole : take (i + 1) ns ≡ ns
    whole = take_all _ _ (omega arith)

-- a stack of none has no top
pub no_top : (ns : List Numbered) (y : Operation) (ws : List Operation) → length ns ≡ 0 → stacked ns ≡ y ∷ ws → ⊥
no_top [] y ws l e = cc
no_top (n ∷ ns) y ws l e = omega arith

pub none_waits : (ns : List Numbered) → length ns ≡ 0 → is_some_left (stacked ns) ≡ false
none_waits [] l = refl
none_waits (n ∷ ns) l = absurd (omega arith)

pub tops_are : (ns ms : List Numbered) (n : Numbered) (y : Operation) (ws : List Operation) → ns ≡ ms ++ n ∷ [] → stacked ns ≡ y ∷ ws → (operation_of n ≡ y) × (stacked ms ≡ ws)
tops_are ns ms n y ws e f =
    let g : operation_of n ∷ stacked ms ≡ y ∷ ws = sym (ap stacked e ∙ stacked_push ms n) ∙ f in
    (cc, cc)

pub some_left : (n : ℕ) → n == 0 ≡ false → 0 < n
some_left zero h = absurd (both_ways true h refl)
some_left (suc n) h = omega arith
