-- The canonical columns of fine operations spell them.
use Rattle.std.proofs.Common.{◌≡◌, ℕ, ◌<◌, ◌≤◌, ◌^◌, List, [], ◌∷◌, length, map, arith, sym, subst, Option, Some, true, All}
use Rattle.std.specs.Prelude.{IfSome, IsUtf8, ◌==◌, if◌then◌else◌, false}
use Rattle.std.specs.List.{AllByRecursion}
use Rattle.std.proofs.lemmas.List.{length-append, length-map}
use Rattle.std.proofs.lemmas.List.Elements.{recursion_from_All}
use Rattle.am_types.specs.declared.OpId.{OpId}
use Rattle.am_types.specs.declared.ObjId.{ObjId}
use Rattle.am_types.specs.declared.ObjId.TheVariants.{Root, Made}
use Rattle.am_types.specs.declared.Key.{Key}
use Rattle.am_types.specs.declared.Key.TheVariants as keys
use Rattle.am_types.specs.declared.RawValue.{RawValue}
use Rattle.am_types.specs.declared.Op.{Op}
use Rattle.am_types.specs.Fine.{IsId, IsObject, IsKey, FineOp, pred_count}
use Rattle.am_types.specs.Values.{Good}
use Rattle.am_colmeta.specs.Metadata.{listing, body, not_empty, column_at, Ascend}
use Rattle.am_colmeta.proofs.Judging.{found_without_empty}
use Rattle.am_colmeta.proofs.Entries.{body-not_empty}
use Rattle.am_values.specs.Columns.{metadata}
use Rattle.am_fields.specs.Limits.{IsWithin, IsObjectWithin, IsKeyWithin}
use Rattle.am_fields.specs.Columns.{SpellsNumbers, SpellsDeltas, SpellsTexts, SpellsFlags, SpellsActors, SpellsColumns, spellings}
use Rattle.am_fields.specs.Layout.{object_actor, object_counter, key_actor, key_counter, key_string, id_actor, id_counter, flat}
use Rattle.am_fields.specs.Writing.{AllFit, IsWord, IsShortText}
use Rattle.am_opcols.specs.Columns.{op_columns, AreOpsWithin, SpellsOps}
use Rattle.am_opcols.specs.Others.{others}
use Rattle.am_opcols.specs.Writing.{written_columns}
use Rattle.am_opcols.proofs.WriteLaws.{pred_count-cons}
use Rattle.am_opcols.proofs.CanonicalLaws.{keys_middling, preds_middling, values_good, length-preds}
use Rattle.am_opcols.proofs.Named.{all_covered, objects_known, keys_known, preds_known, length-others}
use Rattle.am_fields.proofs.Lists.{all-append}
use Rattle.am_fields.proofs.Spelled.{numbers_spelled, texts_spelled, texts_short, deltas_spelled, flags_spelled, rare_flags_spelled, actors_spelled}

-- what holds of each operation, of each of one field

fit_map : {A B : Type 0} (f : A → Option B) (Fit : B → Type 0) (P : A → Type 0) → ((x : A) → P x → IfSome (f x) Fit) → (xs : List A) → AllByRecursion P xs → AllFit Fit (map f xs)
fit_map f Fit P each [] all = tt
fit_map f Fit P each (x ∷ xs) all = (each x all.0, fit_map f Fit P each xs all.1)

all_map : {A B : Type 0} (f : A → B) (Q : B → Type 0) (P : A → Type 0) → ((x : A) → P x → Q (f x)) → (xs : List A) → AllByRecursion P xs → AllByRecursion Q (map f xs)
all_map f Q P each [] all = tt
all_map f Q P each (x ∷ xs) all = (each x all.0, all_map f Q P each xs all.1)

all_flat : {A : Type 0} (P : A → Type 0) (xss : List (List A)) → AllByRecursion (λ xs. AllByRecursion P xs) xss → AllByRecursion P (flat xss)
all_flat P [] all = tt
all_flat P (xs ∷ xss) all = all-append P xs (flat xss) all.0 (all_flat P xss all.1)

-- limits

id_within : (i : OpId) → IsId i → IsWithin i
id_within i h = record { low = h.low; high = h.high; some = (h.actor).some; few = (h.actor).few }

object_within : (o : ObjId) → IsObject o → IsObjectWithin o
object_within Root h = tt
object_within (Made i) h = id_within i h

key_within : (k : Key) → IsKey k → IsKeyWithin k
key_within (keys.Name n) h = tt
key_within keys.Head h = tt
key_within (keys.Elem i) h = id_within i h

ids_within : (ids : List OpId) → AllByRecursion IsId ids → AllByRecursion IsWithin ids
ids_within [] all = tt
ids_within (i ∷ ids) all = (id_within i all.0, ids_within ids all.1)

preds_within : (o : Op) → FineOp o → AllByRecursion IsWithin o.preds
preds_within o fine = ids_within o.preds (recursion_from_All IsId o.preds fine.preds)

pub within : (ops : List Op) → All FineOp ops → length ops ≤ 2 ^ 22 → pred_count ops ≤ 2 ^ 22 → AreOpsWithin ops
within ops fine few few_preds =
    let each = recursion_from_All FineOp ops fine in
    record {
      objects = all_map (λ o. o.obj) IsObjectWithin FineOp (λ o f. object_within o.obj f.object) ops each;
      keys = all_map (λ o. o.key) IsKeyWithin FineOp (λ o f. key_within o.key f.key) ops each;
      actions = all_map (λ o. o.action) (λ a. a ≤ 7) FineOp (λ o f. f.action) ops each;
      values = values_good ops fine;
      preds = all_flat IsWithin (map (λ o. o.preds) ops) (all_map (λ o. o.preds) (λ xs. AllByRecursion IsWithin xs) FineOp preds_within ops each);
      few = few;
      few_preds = omega (arith, length-preds ops);
    }

-- the cells of each column fit

object_counter_fits : (o : ObjId) → IsObject o → IfSome (object_counter o) IsWord
object_counter_fits Root h = tt
object_counter_fits (Made i) h = let small : i.counter < 2 ^ 53 = h.high in omega arith

object_counters_fit : (ops : List Op) → AllByRecursion FineOp ops → AllFit IsWord (map object_counter (map (λ o. o.obj) ops))
object_counters_fit ops each = fit_map object_counter IsWord IsObject object_counter_fits (map (λ o. o.obj) ops) (all_map (λ o. o.obj) IsObject FineOp (λ o f. f.object) ops each)

key_utf8 : (k : Key) → IsKey k → IfSome (key_string k) IsUtf8
key_utf8 (keys.Name n) h = h
key_utf8 keys.Head h = tt
key_utf8 (keys.Elem i) h = tt

key_strings_utf8 : (ops : List Op) → AllByRecursion FineOp ops → AllByRecursion (λ x. IfSome x IsUtf8) (map key_string (map (λ o. o.key) ops))
key_strings_utf8 ops each = fit_map key_string IsUtf8 IsKey key_utf8 (map (λ o. o.key) ops) (all_map (λ o. o.key) IsKey FineOp (λ o f. f.key) ops each)

marks_utf8 : (ops : List Op) → AllByRecursion FineOp ops → AllByRecursion (λ x. IfSome x IsUtf8) (map (λ o. o.mark) ops)
marks_utf8 ops each = all_map (λ o. o.mark) (λ x. IfSome x IsUtf8) FineOp (λ o f. f.mark_name) ops each

given_fit : (ns : List ℕ) → AllByRecursion (λ n. n < 2 ^ 64) ns → AllFit IsWord (map Some ns)
given_fit ns all = fit_map Some IsWord (λ n. n < 2 ^ 64) (λ n h. h) ns all

actions_fit : (ops : List Op) → AllByRecursion FineOp ops → AllFit IsWord (map Some (map (λ o. o.action) ops))
actions_fit ops each = given_fit (map (λ o. o.action) ops) (all_map (λ o. o.action) (λ n. n < 2 ^ 64) FineOp (λ o f. let small : o.action ≤ 7 = f.action in omega arith) ops each)

metadata_fits : (v : RawValue) → Good v → metadata v < 2 ^ 64
metadata_fits v good = omega (arith, good.kind, good.short)

values_fit : (ops : List Op) → AllByRecursion FineOp ops → AllFit IsWord (map Some (map metadata (map (λ o. o.value) ops)))
values_fit ops each =
    given_fit (map metadata (map (λ o. o.value) ops)) (all_map metadata (λ n. n < 2 ^ 64) Good metadata_fits (map (λ o. o.value) ops) (all_map (λ o. o.value) Good FineOp (λ o f. f.value) ops each))

counts_fit : (ops : List Op) (n : ℕ) → pred_count ops ≤ n → n < 2 ^ 64 → AllFit IsWord (map Some (map length (map (λ o. o.preds) ops)))
counts_fit [] n few small = tt
counts_fit (o ∷ ops) n few small =
    let whole = pred_count-cons o ops in
    (omega arith, counts_fit ops n (omega arith) small)

-- columns are no longer than the body

column_within : (columns : List (ℕ × List ℕ)) (s : ℕ) → length (column_at columns s) ≤ length (body columns)
column_within [] s = omega arith
column_within (c ∷ columns) s =
    let whole = length-append c.1 (body columns) in
    elim (c.0 == s) as (λ b. length (if b then c.1 else column_at columns s) ≤ length (body (c ∷ columns))) [
      | true ↦ omega arith
      | false ↦ let more = column_within columns s in omega arith
    ]

pub ascending : (actors : List (List ℕ)) (ops : List Op) → Ascend (listing (spellings actors (op_columns ops)))
ascending actors ops = (omega arith, (omega arith, (omega arith, (omega arith, (omega arith, (omega arith, (omega arith, (omega arith, (omega arith, (omega arith, (omega arith, (omega arith, (omega arith, tt)))))))))))))

-- as many as there are operations, or predecessors
mapped : {A B C : Type 0} (f : A → B) (g : B → C) (xs : List A) (n : ℕ) → length xs ≤ n → length (map g (map f xs)) ≤ n
mapped f g xs n h = omega (arith, length-map (map f xs) g, length-map xs f)

pub columns_spelled : (author : List ℕ) (ops : List Op) → All FineOp ops → length ops ≤ 2 ^ 22 → pred_count ops ≤ 2 ^ 22 → length (body (written_columns author ops)) < 2 ^ 64
    → SpellsColumns (author ∷ others author ops) (written_columns author ops) (op_columns ops)
columns_spelled author ops fine few few_preds short =
    let each = recursion_from_All FineOp ops fine in
    let actors = author ∷ others author ops in
    let covers = all_covered author ops in
    let some_actors : length actors < 2 ^ 64 = omega (arith, length-others author ops) in
    let all = spellings actors (op_columns ops) in
    let at : (s : ℕ) → column_at all s ≡ column_at (not_empty all) s = λ s. sym (found_without_empty all s (ascending actors ops)) in
    let size : length (body all) < 2 ^ 64 = subst (λ (b : List ℕ). length b < 2 ^ 64) (body-not_empty all) short in
    let objects = map (λ o. o.obj) ops in
    let ks = map (λ o. o.key) ops in
    let preds = flat (map (λ o. o.preds) ops) in
    let names = length-preds ops in
    let few_ops : length ops ≤ 2 ^ 32 = omega arith in
    let few_ids : length preds ≤ 2 ^ 32 = omega arith in
    let strings : AllFit IsShortText (map key_string ks) = texts_short (map key_string ks) (mapped (λ o. o.key) key_string ops (2 ^ 32) few_ops) (let l = column_within all 21 in omega arith) (key_strings_utf8 ops each) in
    let marks : AllFit IsShortText (map (λ o. o.mark) ops) = texts_short (map (λ o. o.mark) ops) (omega (arith, length-map ops (λ o. o.mark))) (let l = column_within all 165 in omega arith) (marks_utf8 ops each) in
    let A : List (Option (List ℕ)) → List ℕ → Type 0 = λ xs b. SpellsActors actors b xs in
    let N : List (Option ℕ) → List ℕ → Type 0 = λ xs b. SpellsNumbers b xs in (
      subst (A (map object_actor objects)) (at 1) (actors_spelled actors (map object_actor objects) some_actors (objects_known actors ops covers) (mapped (λ o. o.obj) object_actor ops (2 ^ 32) few_ops)),
      (
        subst (N (map object_counter objects)) (at 2) (numbers_spelled (map object_counter objects) (object_counters_fit ops each) (mapped (λ o. o.obj) object_counter ops (2 ^ 32) few_ops)),
        (
          subst (A (map key_actor ks)) (at 17) (actors_spelled actors (map key_actor ks) some_actors (keys_known actors ops covers) (mapped (λ o. o.key) key_actor ops (2 ^ 32) few_ops)),
          (
            subst (λ b. SpellsDeltas b (map key_counter ks)) (at 19) (deltas_spelled (map key_counter ks) (keys_middling ops fine) (mapped (λ o. o.key) key_counter ops (2 ^ 32) few_ops)),
            (
              subst (λ b. SpellsTexts b (map key_string ks)) (at 21) (texts_spelled (map key_string ks) strings (mapped (λ o. o.key) key_string ops (2 ^ 32) few_ops)),
              (
                subst (λ b. SpellsFlags b (map (λ o. o.insert) ops)) (at 52) (flags_spelled (map (λ o. o.insert) ops) (omega (arith, length-map ops (λ o. o.insert)))),
                (
                  subst (N (map Some (map (λ o. o.action) ops))) (at 66) (numbers_spelled (map Some (map (λ o. o.action) ops)) (actions_fit ops each) (mapped (λ o. o.action) Some ops (2 ^ 32) few_ops)),
                  (
                    subst (N (map Some (map metadata (map (λ o. o.value) ops)))) (at 86) (numbers_spelled (map Some (map metadata (map (λ o. o.value) ops))) (values_fit ops each) (mapped metadata Some (map (λ o. o.value) ops) (2 ^ 32) (omega (arith, length-map ops (λ o. o.value))))),
                    (
                      sym (at 87),
                      (
                        subst (N (map Some (map length (map (λ o. o.preds) ops)))) (at 112) (numbers_spelled (map Some (map length (map (λ o. o.preds) ops))) (counts_fit ops (2 ^ 22) few_preds (omega arith)) (mapped length Some (map (λ o. o.preds) ops) (2 ^ 32) (omega (arith, length-map ops (λ o. o.preds))))),
                        (
                          subst (A (map id_actor preds)) (at 113) (actors_spelled actors (map id_actor preds) some_actors (preds_known actors ops covers) (omega (arith, length-map preds id_actor))),
                          (
                            subst (λ b. SpellsDeltas b (map id_counter preds)) (at 115) (deltas_spelled (map id_counter preds) (preds_middling ops fine) (omega (arith, length-map preds id_counter))),
                            (
                              subst (λ b. SpellsFlags b (map (λ o. o.expand) ops)) (at 148) (rare_flags_spelled (map (λ o. o.expand) ops) (omega (arith, length-map ops (λ o. o.expand)))),
                              (subst (λ b. SpellsTexts b (map (λ o. o.mark) ops)) (at 165) (texts_spelled (map (λ o. o.mark) ops) marks (omega (arith, length-map ops (λ o. o.mark)))), tt),
                            ),
                          ),
                        ),
                      ),
                    ),
                  ),
                ),
              ),
            ),
          ),
        ),
      ),
    )

pub ops_spelled : (author : List ℕ) (ops : List Op) → All FineOp ops → length ops ≤ 2 ^ 22 → pred_count ops ≤ 2 ^ 22 → length (body (written_columns author ops)) < 2 ^ 64 → SpellsOps (author ∷ others author ops) (written_columns author ops) ops
ops_spelled author ops fine few few_preds short = record { spelled = columns_spelled author ops fine few few_preds short; within = within ops fine few few_preds }
