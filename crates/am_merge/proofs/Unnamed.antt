-- Rows that nothing names, while nothing waits, are copied.
use Rattle.std.proofs.Common.{ℕ, zero, suc, ◌≡◌, ◌+◌, ◌≤◌, List, [], ◌∷◌, ◌++◌, Bool, true, false, drop, filter, length, map, take, refl, sym, ap, ◌∙◌, subst, Contains, arith}
use Rattle.std.specs.List.{AllByRecursion}
use Rattle.std.proofs.lemmas.Bool.{and_parts, false_from_ne_true}
use Rattle.std.proofs.lemmas.List.{append_assoc, replicate-append-replicate}
use Rattle.std.proofs.lemmas.List.Elements.{Contains-append_left, Contains-append_right}
use Rattle.std.proofs.lemmas.List.Sorted.{Contains-permutation}
use Rattle.am_types.specs.declared.OpId.{OpId}
use Rattle.am_types.specs.declared.ObjId.{ObjId}
use Rattle.am_types.specs.declared.ObjId.TheVariants.{Root}
use Rattle.am_types.specs.declared.Row.{Row}
use Rattle.am_types.specs.Operations.{Operation}
use Rattle.am_types.specs.Order.{sorted_by}
use Rattle.am_types.specs.Rows.{succs}
use Rattle.am_types.specs.Same.{same_id, same_object}
use Rattle.am_types.proofs.Orders.{same_id-true}
use Rattle.am_doccols.specs.Skipping.{IsUnnamed}
use Rattle.am_merge.specs.Naming.{AreCounters, AreTables, Named, counters_in, is_named, named_cmp, named_of, predecessors, references}
use Rattle.am_merge.specs.Plans.{Event, Take}
use Rattle.am_merge.specs.Stops.{copies}
use Rattle.am_merge.specs.Turns.{pushed}
use Rattle.am_merge.specs.Walk.{Spot, behind, behind_of, hanging, hung, spot_of_row, walked}
use Rattle.am_merge.specs.declared.naming.Naming.{Naming}
use Rattle.am_merge.specs.declared.naming.Tables.{Tables}
use Rattle.am_merge.proofs.Lists.{Contains-map, filter_none, map-map}
use Rattle.am_merge.proofs.NamedLaws.{hung_named, succs_named}
use Rattle.am_merge.proofs.Ranges.{named_sorted}
use Rattle.am_merge.proofs.Stopping.{copy_more}
use Rattle.am_merge.proofs.Walked.{into_passes}

module _ (A : List Operation) (t : Tables) (cs : List ℕ) (tables : AreTables A t) (counters : AreCounters t cs) where
  abbrev Within : List Naming → Type 0
  Within ns = (j : ℕ) → Contains (counters_in ns) j → Contains cs j

  preds_within : Within t.named.items
  preds_within j c = Contains-permutation (counters_in t.named.items ++ counters_in t.hanging.items) cs j counters.all (Contains-append_left (counters_in t.named.items) (counters_in t.hanging.items) j c)

  references_within : Within t.hanging.items
  references_within j c = Contains-permutation (counters_in t.named.items ++ counters_in t.hanging.items) cs j counters.all (Contains-append_right (counters_in t.named.items) (counters_in t.hanging.items) j c)

  -- what a table names has one of the counters
  counter_within : (ns : List Naming) → Within ns → (x : Named) → Contains (map named_of ns) x → Contains cs x.id.counter
  counter_within ns within x c =
      within x.id.counter (subst (λ l. Contains l x.id.counter) (map-map (λ (x : Named). x.id.counter) named_of ns) (Contains-map (λ (x : Named). x.id.counter) (map named_of ns) x c))

  none_named : (ns : List Naming) (xs : List Named) (o : ObjId) (i : OpId) → map named_of ns ≡ sorted_by named_cmp xs → Within ns → IsUnnamed cs i → filter (is_named o i) xs ≡ []
  none_named ns xs o i e within un =
      sym (named_sorted o i xs)
      ∙ ap (filter (is_named o i)) (sym e)
      ∙ filter_none (is_named o i) (map named_of ns) (λ x c. false_from_ne_true (is_named o i x) (λ y.
      un (subst (λ (j : OpId). Contains cs j.counter) (same_id-true x.id i (and_parts (same_object x.obj o) (same_id x.id i) y).1) (counter_within ns within x c))))

  no_succs : (i : OpId) → IsUnnamed cs i → succs A i ≡ []
  no_succs i un =
      sym (succs_named i A tables.ascends tables.distinct)
      ∙ ap (map (λ (n : Named). n.operation.id)) (none_named t.named.items (predecessors A) Root i tables.named preds_within un)

  none_hung : (o : ObjId) (i : OpId) → IsUnnamed cs i → hung A o i ≡ []
  none_hung o i un =
      sym (hung_named o i (hanging A))
      ∙ ap (map (λ (n : Named). n.operation)) (none_named t.hanging.items (references (hanging A)) o i tables.hanging_is references_within un)

  none_waits : (insert : Bool) (o : ObjId) (i : OpId) (ws : List Operation) → IsUnnamed cs i → behind_of A insert o i ws ≡ ws
  none_waits true o i ws un = ap (λ xs. pushed xs ws) (none_hung o i un)
  none_waits false o i ws un = refl

  -- a row that nothing names comes, whatever waits
  pub row_unnamed : (es : List Event) (skipped : ℕ) (s : Spot) (r : Row) (ws : List Operation) → spot_of_row r ≡ s → IsUnnamed cs s.id
      → (es ++ copies (skipped + 1) ≡ (es ++ copies skipped) ++ Take (succs A r.id) ∷ []) × (ws ≡ behind A (spot_of_row r) ws)
  row_unnamed es skipped s r ws e un =
      let here : IsUnnamed cs r.id = subst (λ (s : Spot). IsUnnamed cs s.id) (sym e) un in (
        copy_more es skipped ∙ ap (λ added. (es ++ copies skipped) ++ Take added ∷ []) (sym (no_succs r.id here)),
        sym (none_waits r.insert r.obj r.id ws here),
      )

  walked_unnamed : (n k : ℕ) (rs : List Row) → k ≤ length rs → AllByRecursion (λ r. IsUnnamed cs r.id) (take k rs) → walked A rs n [] ≡ copies k ++ walked A (drop k rs) n []
  walked_unnamed n zero rs l all = refl
  walked_unnamed n (suc k) [] l all = absurd (omega arith)
  walked_unnamed n (suc k) (r ∷ rs) l all =
      into_passes A r (walked A rs) n [] refl
      ∙ (λ j. Take (no_succs r.id all.0 j) ∷ walked A rs n (none_waits r.insert r.obj r.id [] all.0 j))
      ∙ ap (λ es. Take [] ∷ es) (walked_unnamed n k rs (omega arith) all.1)

  pub copies_come : (es : List Event) (skipped n k : ℕ) (rs : List Row) (ws : List Operation) → ws ≡ [] → k ≤ length rs → AllByRecursion (λ r. IsUnnamed cs r.id) (take k rs)
      → (es ++ copies skipped) ++ walked A rs n ws ≡ (es ++ copies (skipped + k)) ++ walked A (drop k rs) n ws
  copies_come es skipped n k rs ws none l all =
      let more : (es ++ copies skipped) ++ copies k ≡ es ++ copies (skipped + k) = append_assoc es (copies skipped) (copies k) ∙ ap (λ c. es ++ c) (replicate-append-replicate skipped k (Take [])) in
      subst (λ ws. (es ++ copies skipped) ++ walked A rs n ws ≡ (es ++ copies (skipped + k)) ++ walked A (drop k rs) n ws) (sym none)
      (ap (λ c. (es ++ copies skipped) ++ c) (walked_unnamed n k rs l all)
      ∙ sym (append_assoc (es ++ copies skipped) (copies k) (walked A (drop k rs) n []))
      ∙ ap (λ c. c ++ walked A (drop k rs) n []) more)

-- a stack of none
pub none_stacked : {A B : Type 0} (f : List A → List B) (xs : List A) → length xs ≡ 0 → f [] ≡ [] → f xs ≡ []
none_stacked f [] l e = e
none_stacked f (x ∷ xs) l e = absurd (omega (arith, l))
