-- Columns that were read are the canonical ones just where each test says so.
--     Found columns actors ops     at each specification stands the canonical spelling
--     canonical_found              where the actors are distinct, canonical columns are found so
--     found_canonical              and the other way round
--     tested                       the tests tell that the columns and the other actors are the canonical ones
--     untested                     which pass the tests
use Rattle.std.proofs.Common.{◌≡◌, ℕ, zero, suc, ◌<◌, ◌≤◌, ◌^◌, List, [], ◌∷◌, length, map, Some, true, false, cond, refl, sym, ap, ◌∙◌, subst, arith, inl, inr, ◌⊎◌, ⊎_elim}
use Rattle.std.specs.Prelude.{Contains, nat_eq}
use Rattle.std.proofs.lemmas.Bool.Decides.{nat_tests}
use Rattle.std.specs.List.{flat_map, AllByRecursion}
use Rattle.std.specs.Option.{option_map}
use Rattle.std.proofs.lemmas.List.{length-map}
use Rattle.am_leb.specs.Leb.{uleb}
use Rattle.am_types.specs.declared.Op.{Op}
use Rattle.am_types.specs.Order.{bytes_cmp}
use Rattle.am_runs.specs.Items.{unsigned_end}
use Rattle.am_runs.specs.Runs.{expansion, JoinsRuns}
use Rattle.am_runs.proofs.Unique as unique
use Rattle.am_flags.specs.Flags.{CanonFlags}
use Rattle.am_flags.specs.Flags as flags
use Rattle.am_flags.proofs.Counting.{CanonFlags_iff}
use Rattle.am_flags.proofs.Judged.{no_flags}
use Rattle.am_values.specs.Columns.{metadata}
use Rattle.am_colmeta.specs.Metadata.{listing, column_at, not_empty, Ascend, AscendFrom, AreFilled}
use Rattle.am_colmeta.specs.Judgement.{AreKnown}
use Rattle.am_colmeta.proofs.Filled.{IsAmong, AreAmong, AreFound, filled_are}
use Rattle.am_colmeta.proofs.Judging.{found_without_empty}
use Rattle.am_fields.specs.Columns.{SpellsNumbers, numbers_bytes, spellings}
use Rattle.am_fields.specs.Layout.{object_actor, object_counter, key_actor, key_counter, key_string, id_actor, id_counter, flat}
use Rattle.am_opcols.specs.Columns.{op_columns, op_specifications, SpellsOps}
use Rattle.am_fields.specs.Actors.{IsListed}
use Rattle.am_opcols.specs.Others.{actors_of, others}
use Rattle.am_opcols.specs.Writing.{written_columns}
use Rattle.am_opcols.specs.Chains.{Chain}
use Rattle.am_opcols.specs.EachColumn.{AreNumbersCanonical, AreRemainingCanonical, ArePlain, AreNamed}
use Rattle.am_opcols.proofs.WrittenOps.{ascending}
use Rattle.am_opcols.proofs.EachColumnLaws.{Distinct, numbers_tell, numbers_back, texts_tell, texts_back, deltas_tell, deltas_back, flags_tell, flags_back, maybe_tell, maybe_back, actors_tell, actors_back, names_there}
use Rattle.am_opcols.proofs.ListedLaws.{Distinct-from_up, own_others, others_are_named, named_somewhere}

abbrev pub Found : List (ℕ × List ℕ) → List (List ℕ) → List Op → Type 0
Found columns actors ops = AreFound columns (spellings actors (op_columns ops))

-- as many as there are operations
mapped : {A B : Type 0} (f : Op → A) (g : A → B) (ops : List Op) → length ops ≤ 2 ^ 22 → length (map g (map f ops)) ≤ 2 ^ 22
mapped f g ops h = omega (arith, length-map (map f ops) g, length-map ops f)

once : {A : Type 0} (f : Op → A) (ops : List Op) → length ops ≤ 2 ^ 22 → length (map f ops) ≤ 2 ^ 22
once f ops h = omega (arith, length-map ops f)

twice : {A B C : Type 0} (f : Op → A) (g : A → B) (h : B → C) (ops : List Op) → length ops ≤ 2 ^ 22 → length (map h (map g (map f ops))) ≤ 2 ^ 22
twice f g h ops l = omega (arith, length-map (map g (map f ops)) h, length-map (map f ops) g, length-map ops f)

-- ---- where no insert flags are written, there is no operation

no_numbers : (ns : List ℕ) → SpellsNumbers [] (map Some ns) → ns ≡ []
no_numbers [] s = refl
no_numbers (n ∷ ns) s = absurd (⊎_elim
    (λ w. let e = w.1.0 in cc)
    (λ (j : JoinsRuns unsigned_end [] (map (option_map uleb) (map Some (n ∷ ns)))). let e = j.3 ∙ ap (flat_map expansion) (unique.no_more j.0 j.2) in cc)
    s)

no_ops : {A : Type 0} (f : Op → A) (ops : List Op) → map f ops ≡ [] → ops ≡ []
no_ops f [] e = refl
no_ops f (o ∷ ops) e = absurd (cc)

none_inserted : (insert action : List ℕ) (ops : List Op) → (insert ≡ [] → action ≡ []) → SpellsNumbers action (map Some (map (λ o. o.action) ops)) → insert ≡ [] → map (λ o. o.insert) ops ≡ []
none_inserted insert action ops stands s e =
    let none = no_ops (λ o. o.action) ops (no_numbers (map (λ o. o.action) ops) (subst (λ b. SpellsNumbers b (map Some (map (λ o. o.action) ops))) (stands e) s)) in
    ap (map (λ o. o.insert)) none

none_written : (insert action : List ℕ) (ops : List Op) → length ops ≤ 2 ^ 22 → insert ≡ flags.canonical_bytes (map (λ o. o.insert) ops) → action ≡ numbers_bytes (map Some (map (λ o. o.action) ops)) → insert ≡ [] → action ≡ []
none_written insert action ops few i a e =
    let canon : CanonFlags insert (map (λ o. o.insert) ops) = (CanonFlags_iff (map (λ o. o.insert) ops) insert (omega (arith, length-map ops (λ o. o.insert)))).1 i in
    let none = no_ops (λ o. o.insert) ops (no_flags insert (map (λ o. o.insert) ops) e canon) in
    a ∙ ap (λ os. numbers_bytes (map Some (map (λ o. o.action) os))) none

-- ---- column by column

pub canonical_found : (columns : List (ℕ × List ℕ)) (actors : List (List ℕ)) (ops : List Op) → Distinct actors → SpellsOps actors columns ops → AreNumbersCanonical columns → AreRemainingCanonical columns → Found columns actors ops
canonical_found columns actors ops d w n t =
    let s = w.spelled in
    let few = (w.within).few in
    let few_preds = (w.within).few_preds in
    let preds = flat (map (λ o. o.preds) ops) in (
      actors_tell actors (column_at columns 1) (map object_actor (map (λ o. o.obj) ops)) d s.0 (mapped (λ o. o.obj) object_actor ops few) n.object_actor,
      (
        numbers_tell (column_at columns 2) (map object_counter (map (λ o. o.obj) ops)) s.1.0 (mapped (λ o. o.obj) object_counter ops few) n.object_counter,
        (
          actors_tell actors (column_at columns 17) (map key_actor (map (λ o. o.key) ops)) d s.1.1.0 (mapped (λ o. o.key) key_actor ops few) n.key_actor,
          (
            deltas_tell (column_at columns 19) (map key_counter (map (λ o. o.key) ops)) s.1.1.1.0 (mapped (λ o. o.key) key_counter ops few) t.key_counter,
            (
              texts_tell (column_at columns 21) (map key_string (map (λ o. o.key) ops)) s.1.1.1.1.0 (mapped (λ o. o.key) key_string ops few) t.key_name,
              (
                flags_tell (column_at columns 52) (map (λ o. o.insert) ops) s.1.1.1.1.1.0 (once (λ o. o.insert) ops few) (none_inserted (column_at columns 52) (column_at columns 66) ops t.insert_stands s.1.1.1.1.1.1.0) t.insert,
                (
                  numbers_tell (column_at columns 66) (map Some (map (λ o. o.action) ops)) s.1.1.1.1.1.1.0 (mapped (λ o. o.action) Some ops few) n.action,
                  (
                    numbers_tell (column_at columns 86) (map Some (map metadata (map (λ o. o.value) ops))) s.1.1.1.1.1.1.1.0 (twice (λ o. o.value) metadata Some ops few) n.value,
                    (
                      s.1.1.1.1.1.1.1.1.0,
                      (
                        numbers_tell (column_at columns 112) (map Some (map length (map (λ o. o.preds) ops))) s.1.1.1.1.1.1.1.1.1.0 (twice (λ o. o.preds) length Some ops few) n.count,
                        (
                          actors_tell actors (column_at columns 113) (map id_actor preds) d s.1.1.1.1.1.1.1.1.1.1.0 (omega (arith, few_preds, length-map preds id_actor)) n.pred_actor,
                          (
                            deltas_tell (column_at columns 115) (map id_counter preds) s.1.1.1.1.1.1.1.1.1.1.1.0 (omega (arith, few_preds, length-map preds id_counter)) t.pred_counter,
                            (
                              maybe_tell (column_at columns 148) (map (λ o. o.expand) ops) s.1.1.1.1.1.1.1.1.1.1.1.1.0 (once (λ o. o.expand) ops few) t.expand,
                              (texts_tell (column_at columns 165) (map (λ o. o.mark) ops) s.1.1.1.1.1.1.1.1.1.1.1.1.1.0 (once (λ o. o.mark) ops few) t.mark, tt),
                            ),
                          ),
                        ),
                      ),
                    ),
                  ),
                ),
              ),
            ),
          ),
        ),
      ),
    )

pub found_numbers : (columns : List (ℕ × List ℕ)) (actors : List (List ℕ)) (ops : List Op) → Distinct actors → SpellsOps actors columns ops → Found columns actors ops → AreNumbersCanonical columns
found_numbers columns actors ops d w f =
    let s = w.spelled in
    let few = (w.within).few in
    let few_preds = (w.within).few_preds in
    let preds = flat (map (λ o. o.preds) ops) in
    record {
      object_actor = actors_back actors (column_at columns 1) (map object_actor (map (λ o. o.obj) ops)) d s.0 (mapped (λ o. o.obj) object_actor ops few) f.0;
      object_counter = numbers_back (column_at columns 2) (map object_counter (map (λ o. o.obj) ops)) s.1.0 (mapped (λ o. o.obj) object_counter ops few) f.1.0;
      key_actor = actors_back actors (column_at columns 17) (map key_actor (map (λ o. o.key) ops)) d s.1.1.0 (mapped (λ o. o.key) key_actor ops few) f.1.1.0;
      action = numbers_back (column_at columns 66) (map Some (map (λ o. o.action) ops)) s.1.1.1.1.1.1.0 (mapped (λ o. o.action) Some ops few) f.1.1.1.1.1.1.0;
      value = numbers_back (column_at columns 86) (map Some (map metadata (map (λ o. o.value) ops))) s.1.1.1.1.1.1.1.0 (twice (λ o. o.value) metadata Some ops few) f.1.1.1.1.1.1.1.0;
      count = numbers_back (column_at columns 112) (map Some (map length (map (λ o. o.preds) ops))) s.1.1.1.1.1.1.1.1.1.0 (twice (λ o. o.preds) length Some ops few) f.1.1.1.1.1.1.1.1.1.0;
      pred_actor = actors_back actors (column_at columns 113) (map id_actor preds) d s.1.1.1.1.1.1.1.1.1.1.0 (omega (arith, few_preds, length-map preds id_actor)) f.1.1.1.1.1.1.1.1.1.1.0;
    }

pub found_others : (columns : List (ℕ × List ℕ)) (actors : List (List ℕ)) (ops : List Op) → SpellsOps actors columns ops → Found columns actors ops → AreRemainingCanonical columns
found_others columns actors ops w f =
    let s = w.spelled in
    let few = (w.within).few in
    let few_preds = (w.within).few_preds in
    let preds = flat (map (λ o. o.preds) ops) in
    record {
      key_counter = deltas_back (column_at columns 19) (map key_counter (map (λ o. o.key) ops)) s.1.1.1.0 (mapped (λ o. o.key) key_counter ops few) f.1.1.1.0;
      pred_counter = deltas_back (column_at columns 115) (map id_counter preds) s.1.1.1.1.1.1.1.1.1.1.1.0 (omega (arith, few_preds, length-map preds id_counter)) f.1.1.1.1.1.1.1.1.1.1.1.0;
      key_name = texts_back (column_at columns 21) (map key_string (map (λ o. o.key) ops)) s.1.1.1.1.0 (mapped (λ o. o.key) key_string ops few) f.1.1.1.1.0;
      mark = texts_back (column_at columns 165) (map (λ o. o.mark) ops) s.1.1.1.1.1.1.1.1.1.1.1.1.1.0 (once (λ o. o.mark) ops few) f.1.1.1.1.1.1.1.1.1.1.1.1.1.0;
      insert = flags_back (column_at columns 52) (map (λ o. o.insert) ops) (once (λ o. o.insert) ops few) f.1.1.1.1.1.0;
      insert_stands = none_written (column_at columns 52) (column_at columns 66) ops few f.1.1.1.1.1.0 f.1.1.1.1.1.1.0;
      expand = maybe_back (column_at columns 148) (map (λ o. o.expand) ops) (once (λ o. o.expand) ops few) f.1.1.1.1.1.1.1.1.1.1.1.1.0;
    }

-- ---- all columns

abbrev IsOneOf : List ℕ → ℕ → Type 0
IsOneOf [] s = ⊥
IsOneOf (k ∷ ks) s = (s ≡ k) ⊎ IsOneOf ks s

one_of : (ks : List ℕ) (s : ℕ) → Contains ks s → IsOneOf ks s
one_of [] s (k, l, e) = absurd (omega arith)
one_of (x ∷ ks) s (zero, l, e) = inl (sym e)
one_of (x ∷ ks) s (suc k, l, e) = inr (one_of ks s (k, omega arith, e))

known_among : (actors : List (List ℕ)) (ops : List Op) (s : ℕ) → IsOneOf op_specifications s → IsAmong (spellings actors (op_columns ops)) s
known_among actors ops s h = h

all_among : (actors : List (List ℕ)) (ops : List Op) (columns : List (ℕ × List ℕ)) → AreKnown op_specifications (listing columns) → AreAmong (spellings actors (op_columns ops)) columns
all_among actors ops [] all = tt
all_among actors ops (c ∷ columns) all = (known_among actors ops c.0 (one_of op_specifications c.0 all.0), all_among actors ops columns all.1)

some_number : (s : ℕ) → IsOneOf op_specifications s → 0 < s
some_number s h =
    let more : (ks : List ℕ) → AllByRecursion (λ k. 0 < k) ks → IsOneOf ks s → 0 < s = positive s in
    more op_specifications (omega arith, (omega arith, (omega arith, (omega arith, (omega arith, (omega arith, (omega arith, (omega arith, (omega arith, (omega arith, (omega arith, (omega arith, (omega arith, (omega arith, tt)))))))))))))) h
  where
    positive : (s : ℕ) (ks : List ℕ) → AllByRecursion (λ k. 0 < k) ks → IsOneOf ks s → 0 < s
    positive s [] all h = absurd h
    positive s (k ∷ ks) all h = ⊎_elim (λ e. omega (arith, all.0)) (λ m. positive s ks all.1 m) h

from_zero : (columns : List (ℕ × List ℕ)) → Ascend (listing columns) → AreKnown op_specifications (listing columns) → AscendFrom 0 (listing columns)
from_zero [] up all = tt
from_zero (c ∷ columns) up all = (some_number c.0 (one_of op_specifications c.0 all.0), up)

ascending_from : (actors : List (List ℕ)) (ops : List Op) → AscendFrom 0 (listing (spellings actors (op_columns ops)))
ascending_from actors ops = (omega arith, ascending actors ops)

filled_columns : (cs : List (ℕ × List ℕ)) → AreFilled (listing (not_empty cs))
filled_columns [] = tt
filled_columns ((s, []) ∷ cs) = filled_columns cs
filled_columns ((s, (b ∷ bytes)) ∷ cs) = (omega arith, filled_columns cs)

-- each column of an ascending list is found
own_found : (before : ℕ) (whole cs : List (ℕ × List ℕ)) → AscendFrom before (listing cs) → ((s : ℕ) → before < s → column_at whole s ≡ column_at cs s) → AreFound whole cs
own_found before whole [] up same = tt
own_found before whole ((t, bytes) ∷ cs) up same = (
  same t up.0 ∙ first t bytes cs,
  own_found t whole cs up.1 (λ s h. same s (omega (arith, up.0)) ∙ later t s bytes cs h),
)
  where
    first : (t : ℕ) (bytes : List ℕ) (cs : List (ℕ × List ℕ)) → column_at ((t, bytes) ∷ cs) t ≡ bytes
    first t bytes cs =
        let same : nat_eq t t ≡ true = grind (arith, nat_tests) in
        ap (λ b. cond b bytes (column_at cs t)) same

    later : (t s : ℕ) (bytes : List ℕ) (cs : List (ℕ × List ℕ)) → t < s → column_at ((t, bytes) ∷ cs) s ≡ column_at cs s
    later t s bytes cs h =
        let other : nat_eq t s ≡ false = grind (arith, nat_tests) in
        ap (λ b. cond b bytes (column_at cs s)) other

written_found : (columns : List (ℕ × List ℕ)) (actors : List (List ℕ)) (ops : List Op) → columns ≡ not_empty (spellings actors (op_columns ops)) → Found columns actors ops
written_found columns actors ops e =
    let all = spellings actors (op_columns ops) in
    own_found 0 columns all (ascending_from actors ops) (λ s h. ap (λ cs. column_at cs s) e ∙ found_without_empty all s (ascending actors ops))

-- ---- the tests

listed_named : (author : List ℕ) (os : List (List ℕ)) (columns : List (ℕ × List ℕ)) (ops : List Op) → SpellsOps (author ∷ os) columns ops → (a : List ℕ) → IsListed (flat_map actors_of ops) a → IsListed (author ∷ os) a
listed_named author os columns ops w a h =
    let s = w.spelled in
    let objects = s.0 in
    let keys = s.1.1.0 in
    let preds = s.1.1.1.1.1.1.1.1.1.1.0 in
    ⊎_elim
    (λ n. names_there (author ∷ os) objects.0 (map object_actor (map (λ o. o.obj) ops)) objects.2 a n)
    (λ m. ⊎_elim
    (λ n. names_there (author ∷ os) keys.0 (map key_actor (map (λ o. o.key) ops)) keys.2 a n)
    (λ n. names_there (author ∷ os) preds.0 (map id_actor (flat (map (λ o. o.preds) ops))) preds.2 a n)
    m)
    (named_somewhere ops a h)

pub tested : (author : List ℕ) (os : List (List ℕ)) (columns : List (ℕ × List ℕ)) (ops : List Op) → SpellsOps (author ∷ os) columns ops → Ascend (listing columns) → AreKnown op_specifications (listing columns)
    → ArePlain author os columns → AreNamed os ops → (os ≡ others author ops) × (columns ≡ written_columns author ops)
tested author os columns ops w up all plain named =
    let own = own_others author ops os plain.ascend plain.apart named (listed_named author os columns ops w) in
    let found = canonical_found columns (author ∷ os) ops (Distinct-from_up author os plain.ascend plain.apart) w plain.numbers plain.rest in
    let are = filled_are 0 columns (spellings (author ∷ os) (op_columns ops)) (from_zero columns up all) (ascending_from (author ∷ os) ops) plain.filled (all_among (author ∷ os) ops columns all) found in
    (own, are ∙ ap (λ zs. not_empty (spellings (author ∷ zs) (op_columns ops))) own)

pub record Passed (author : List ℕ) (os : List (List ℕ)) (columns : List (ℕ × List ℕ)) (ops : List Op) : Type 0 where
  pub plain : ArePlain author os columns
  pub named : AreNamed os ops

pub untested : (author : List ℕ) (os : List (List ℕ)) (columns : List (ℕ × List ℕ)) (ops : List Op) → SpellsOps (author ∷ os) columns ops → os ≡ others author ops → columns ≡ written_columns author ops → Passed author os columns ops
untested author os columns ops w o e =
    let theirs = others_are_named author ops in
    let ascends : Chain bytes_cmp os = subst (Chain bytes_cmp) (sym o) theirs.0 in
    let apart : IsListed os author → ⊥ = subst (λ zs. IsListed zs author → ⊥) (sym o) theirs.1 in
    let d = Distinct-from_up author os ascends apart in
    let same : columns ≡ not_empty (spellings (author ∷ os) (op_columns ops)) = e ∙ ap (λ zs. not_empty (spellings (author ∷ zs) (op_columns ops))) (sym o) in
    let found = written_found columns (author ∷ os) ops same in
    record {
      plain = record {
        filled = subst (λ cs. AreFilled (listing cs)) (sym same) (filled_columns (spellings (author ∷ os) (op_columns ops)));
        numbers = found_numbers columns (author ∷ os) ops d w found;
        rest = found_others columns (author ∷ os) ops w found;
        ascend = ascends;
        apart = apart;
      };
      named = subst (λ zs. AreNamed zs ops) (sym o) theirs.2;
    }
