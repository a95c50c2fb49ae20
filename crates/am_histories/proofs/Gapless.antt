-- Where what is rebuilt joins in turn, the tests on the way tell whether the rows are its rows.
use Rattle.std.proofs.Common.{ℕ, suc, ◌≡◌, ◌+◌, ◌-◌, ◌≤◌, List, [], ◌∷◌, ◌++◌, length, map, filter, Option, Some, None, refl, sym, ap, ◌∙◌, subst, inl, inr, Contains, IsPermutation, arith}
use Rattle.std.specs.List.{cons_option, filter_map, flat_map}
use Rattle.std.proofs.lemmas.List.{append_assoc, append-nil, length-append, length-map, nil_from_length}
use Rattle.std.proofs.lemmas.List.Elements.{Contains-append_cases}
use Rattle.std.proofs.lemmas.List.Sorted.{IsPermutation-refl, Contains-permutation, length_permutation}
use Rattle.std.proofs.lemmas.Map.Keys.{IsDistinct-from_sorted}
use Rattle.am_types.specs.declared.OpId.{OpId}
use Rattle.am_types.specs.declared.Hash.{Hash}
use Rattle.am_types.specs.declared.Op.{Op}
use Rattle.am_types.specs.declared.Change.{Change}
use Rattle.am_types.specs.declared.Meta.{Meta}
use Rattle.am_types.specs.declared.Row.{Row}
use Rattle.am_types.specs.Order.{id_cmp}
use Rattle.am_types.specs.Operations.{Operation, numbered, operations, all_operations, max, DistinctIds}
use Rattle.am_types.specs.Members.{Member, changes}
use Rattle.am_types.specs.ValidSets.{Valid, JoinInTurn}
use Rattle.am_types.specs.Rows.{rows}
use Rattle.am_laws.proofs.Ancestry.{Contains-from_filter}
use Rattle.am_laws.proofs.DistinctOperations.{distinct_ids_valid}
use Rattle.am_types.proofs.Lists.{all_of}
use Rattle.am_laws.proofs.SameMembers.{NoRepeat, left_over, same_members}
use Rattle.am_histories.specs.Rebuilt.{ids, op_at, is_within, ops_within, last_max, change_at, rebuilt_after, rebuilt}
use Rattle.am_histories.specs.Gapless.{NoGaps}
use Rattle.am_histories.specs.Laws.{RowsAreRebuilt}
use Rattle.am_histories.proofs.Sorted.{Contains-cases, Contains-none}
use Rattle.am_histories.proofs.Contained.{Contains-map, Contains-from_map}
use Rattle.am_histories.proofs.Authors.{Settled, Settled-nil, Settled-push, standing}
use Rattle.am_histories.proofs.Restored.{each_once-sorted, ids-has, ids-from}
use Rattle.am_histories.proofs.Complete.{cut}
use Rattle.am_histories.proofs.Agreement.{sound, rows_are_told}
use Rattle.am_histories.proofs.RowsTold.{no_repeat_ids}

-- ---- each id gives one operation

fewer : (f : OpId → Option Op) (is : List OpId) → length (filter_map f is) ≤ length is
fewer f [] = omega arith
fewer f (i ∷ is) = go (f i) (fewer f is)
  where
    go : (o : Option Op) → length (filter_map f is) ≤ length is → length (cons_option o (filter_map f is)) ≤ length (i ∷ is)
    go None l = omega arith
    go (Some p) l = omega arith

first_of : Op → List Op → Op
first_of d [] = d
first_of d (p ∷ ps) = p

rest_of : List Op → List Op
rest_of [] = []
rest_of (p ∷ ps) = ps

abbrev ids_of : List Operation → List OpId
ids_of xs = map (λ (x : Operation). x.id) xs

all_some : (f : OpId → Option Op) (s : ℕ) (a : List ℕ) (ops : List Op) → filter_map f (ids_of (numbered s a ops)) ≡ ops → (x : Operation) → Contains (numbered s a ops) x → f x.id ≡ Some x.op
unfolding first_of rest_of
all_some f s a [] e x c = absurd (Contains-none x c)
all_some f s a (op ∷ ops) e x c =
    let later : List Operation = numbered (s + 1) a ops in
    let short = fewer f (ids_of later) in
    let count : length (ids_of later) ≡ length ops = same_length (s + 1) a ops in
    let again : filter_map f (ids_of later) ≡ ops → Contains later x → f x.id ≡ Some x.op = λ g d. all_some f (s + 1) a ops g x d in
    go (f (record { counter = s; actor = a })) refl e short count again
  where
    same_length : (s : ℕ) (a : List ℕ) (ops : List Op) → length (ids_of (numbered s a ops)) ≡ length ops
    same_length s a [] = refl
    same_length s a (op ∷ ops) = let again = same_length (s + 1) a ops in omega arith

    go : (o : Option Op) → f (record { counter = s; actor = a }) ≡ o → cons_option o (filter_map f (ids_of (numbered (s + 1) a ops))) ≡ op ∷ ops
        → length (filter_map f (ids_of (numbered (s + 1) a ops))) ≤ length (ids_of (numbered (s + 1) a ops)) → length (ids_of (numbered (s + 1) a ops)) ≡ length ops
        → (filter_map f (ids_of (numbered (s + 1) a ops)) ≡ ops → Contains (numbered (s + 1) a ops) x → f x.id ≡ Some x.op) → f x.id ≡ Some x.op
    go None q e short count again = let l = ap (λ (ps : List Op). length ps) e in absurd (omega arith)
    go (Some p) q e short count again =
        let here : f (record { counter = s; actor = a }) ≡ Some op = q ∙ ap Some (ap (first_of op) e) in
        elim (Contains-cases (record { id = record { counter = s; actor = a }; op = op }) x (numbered (s + 1) a ops) c) [
          | inl i ↦ subst (λ (y : Operation). f y.id ≡ Some y.op) i here
          | inr d ↦ again (ap rest_of e) d
        ]

-- ---- what the tests on the way say

module _ (hash_of : Change → Hash) (rs : List Row) where
  abbrev Said : Operation → Type 0
  Said x = (op_at rs x.id ≡ Some x.op) × Contains (ids rs) x.id

  said_here : (B : List Member) (meta : Meta) → max (change_at rs B meta) ≡ meta.max
      → filter (is_within meta.actor (last_max B meta.actor) (max (change_at rs B meta))) (ids rs) ≡ ids_of (operations (change_at rs B meta))
      → (x : Operation) → Contains (operations (change_at rs B meta)) x → Said x
  said_here B meta top e x c =
      let d : Change = change_at rs B meta in
      let cut_ids : filter (is_within meta.actor (last_max B meta.actor) meta.max) (ids rs) ≡ ids_of (operations d) =
      ap (λ n. filter (is_within meta.actor (last_max B meta.actor) n) (ids rs)) (sym top) ∙ e in
      let whole : filter_map (op_at rs) (ids_of (operations d)) ≡ d.ops = ap (filter_map (op_at rs)) (sym cut_ids) in (
        all_some (op_at rs) d.start d.actor d.ops whole x c,
        (Contains-from_filter (is_within meta.actor (last_max B meta.actor) meta.max) (ids rs) x.id
            (subst (λ l. Contains l x.id) (sym cut_ids) (Contains-map (λ (x : Operation). x.id) (operations d) x c))).0,
      )

  said_from : (B : List Member) (metas : List Meta) → JoinInTurn B (rebuilt_after hash_of rs B metas) → NoGaps rs B (rebuilt_after hash_of rs B metas)
      → (x : Operation) → Contains (all_operations (changes (rebuilt_after hash_of rs B metas))) x → Said x
  said_from B [] turn gaps x c = absurd (Contains-none x c)
  said_from B (meta ∷ metas) turn gaps x c =
      let d : Change = change_at rs B meta in
      let m : Member = record { hash = hash_of d; change = d } in
      let ops : List Op = ops_within rs meta.actor (last_max B meta.actor) meta.max in
      let one = turn.0.fine.numbers.start in
      let top : ((meta.max + 1) - length ops) + length ops - 1 ≡ meta.max = omega arith in
      let again : Contains (all_operations (changes (rebuilt_after hash_of rs (B ++ m ∷ []) metas))) x → Said x = said_from (B ++ m ∷ []) metas turn.1 gaps.1 x in
      elim (Contains-append_cases (operations d) (all_operations (changes (rebuilt_after hash_of rs (B ++ m ∷ []) metas))) x c) [
        | inl f ↦ said_here B meta top gaps.0 x f
        | inr f ↦ again f
      ]

-- ---- a valid set

no_repeats : (A : List Operation) → DistinctIds A → NoRepeat (ids_of A)
no_repeats [] d = tt
no_repeats (x ∷ A) d = (
  λ c.
      let y = Contains-from_map (λ (x : Operation). x.id) A x.id c in
      let k = y.1 in
      d 0 (suc k.0) y.0 (omega arith) (omega (arith, k.1)) (sym y.2 ∙ ap (λ (z : Operation). z.id) (sym k.2)),
  no_repeats A (λ i j e p q. d (suc i) (suc j) e (omega arith) (omega arith)),
)

in_turn_valid : (R : List Member) → JoinInTurn [] R → Valid R
in_turn_valid R turn = record { listing = R; same = IsPermutation-refl R; in_turn = turn }

module _ (R : List Member) (turn : JoinInTurn [] R) where
  abbrev A : List Operation
  A = all_operations (changes R)

  v : Valid R
  v = in_turn_valid R turn

  -- a list of all these ids that is no longer than they are has no other
  all_known : (is : List OpId) → ((x : Operation) → Contains A x → Contains is x.id) → length is ≡ length A → (i : OpId) → Contains is i → (x : Operation) × Contains A x × (x.id ≡ i)
  all_known is has count i c =
      let l = left_over (ids_of A) is (no_repeats A (distinct_ids_valid R v)) (λ j d. let x = Contains-from_map (λ (x : Operation). x.id) A j d in subst (Contains is) x.2 (has x.0 x.1)) in
      let size = length_permutation is (ids_of A ++ l.0) l.1 in
      let same = length-map A (λ (x : Operation). x.id) in
      let none : l.0 ≡ [] = nil_from_length l.0 (omega (arith, length-append (ids_of A) l.0)) in
      let there : Contains (ids_of A) i = subst (λ m. Contains m i) (ap (λ r. ids_of A ++ r) none ∙ append-nil (ids_of A)) (Contains-permutation is (ids_of A ++ l.0) i l.1 c) in
      Contains-from_map (λ (x : Operation). x.id) A i there

  gapless_from : (B : List Member) → Settled B → (rest : List Member) → JoinInTurn B rest → R ≡ B ++ rest → NoGaps (rows A) B rest
  gapless_from B s [] t w = tt
  gapless_from B s (m ∷ rest) t w = (
    cut R turn A (λ x c. c) (λ x c. c) B m rest (standing B s m rest t) w,
    gapless_from (B ++ m ∷ []) (Settled-push B s m t.0) rest t.1 (w ∙ sym (append_assoc B (m ∷ []) rest)),
  )

  counted : length (ids (rows A)) ≡ length A
  counted =
      let is : List OpId = ids (rows A) in
      let p : IsPermutation is (ids_of A) = same_members is (ids_of A) (no_repeat_ids is (IsDistinct-from_sorted id_cmp is (each_once-sorted (flat_map (λ (r : Row). r.id ∷ r.succs) (rows A))))) (no_repeats A (distinct_ids_valid R v))
      (λ i c. let x = ids-from A (sound R v) i c in subst (Contains (ids_of A)) x.2 (Contains-map (λ (x : Operation). x.id) A x.0 x.1))
      (λ i c. let x = Contains-from_map (λ (x : Operation). x.id) A i c in subst (Contains is) x.2 (ids-has A (sound R v) x.0 x.1)) in
      let size = length_permutation is (ids_of A) p in
      let same = length-map A (λ (x : Operation). x.id) in
      omega arith

pub rows_are_rebuilt : RowsAreRebuilt
unfolding rebuilt
rows_are_rebuilt hash_of t turn =
    let R : List Member = rebuilt_after hash_of t.rows [] t.metas in
    let told = rows_are_told R (in_turn_valid R turn) t.rows in (
      λ h.
          let said = said_from hash_of t.rows [] t.metas turn h.no_gaps in
          told.0 (record {
            apart = h.apart;
            kept = h.kept;
            succs = h.succs;
            known = all_of (λ i. (x : Operation) × Contains (all_operations (changes R)) x × (x.id ≡ i)) (ids t.rows) (all_known R turn (ids t.rows) (λ x c. (said x c).1) h.count);
            told = all_of (λ (x : Operation). op_at t.rows x.id ≡ Some x.op) (all_operations (changes R)) (λ x c. (said x c).0);
            in_order = h.in_order;
          }),
      λ e.
          let g = told.1 e in
          record {
            no_gaps = subst (λ l. NoGaps l [] R) (sym e) (gapless_from R turn [] Settled-nil R turn refl);
            count = ap (λ l. length (ids l)) e ∙ counted R turn;
            apart = g.apart;
            kept = g.kept;
            succs = g.succs;
            in_order = g.in_order;
          },
    )
