-- Operation rows are spelled by the columns that they are read from, and by no others.
use Rattle.std.proofs.Common.{◌≡◌, ℕ, List, length, map, Option, Bool, arith, sym, ap, ◌∙◌, subst}
use Rattle.std.specs.List.{zip}
use Rattle.std.proofs.lemmas.List.{length-map}
use Rattle.am_types.specs.declared.OpId.{OpId}
use Rattle.am_types.specs.declared.ObjId.{ObjId}
use Rattle.am_types.specs.declared.Key.{Key}
use Rattle.am_types.specs.declared.RawValue.{RawValue}
use Rattle.am_types.specs.declared.Row.{Row}
use Rattle.am_colmeta.specs.Metadata.{column_at}
use Rattle.am_fields.specs.Columns.{SpellsFlags, SpellsTexts}
use Rattle.am_fields.specs.Spelling.{SpellsIds, SpellsObjects, SpellsKeys, SpellsActions, SpellsValues, SpellsGroups}
use Rattle.am_fields.proofs.GroupLaws.{actions_one}
use Rattle.am_fields.proofs.Zips.{zip_first, zip_second, length-zip, map-map, map-id}
use Rattle.am_doccols.specs.Columns.{SpellsRows}
use Rattle.am_doccols.specs.Rows.{row_from, rows_from}

-- lists of one length
pub record Even (n : ℕ) (os : List ObjId) (ks : List Key) (ds : List OpId) (is : List Bool) (xs : List ℕ) (vs : List RawValue) (ss : List (List OpId)) (es : List Bool) (ms : List (Option (List ℕ))) : Type 0 where
  pub objects : length os ≡ n
  pub keys : length ks ≡ n
  pub ids : length ds ≡ n
  pub inserts : length is ≡ n
  pub actions : length xs ≡ n
  pub values : length vs ≡ n
  pub succs : length ss ≡ n
  pub expands : length es ≡ n
  pub marks : length ms ≡ n

-- rows with these fields
pub record HasFields (rows : List Row) (os : List ObjId) (ks : List Key) (ds : List OpId) (is : List Bool) (xs : List ℕ) (vs : List RawValue) (ss : List (List OpId)) (es : List Bool) (ms : List (Option (List ℕ))) : Type 0 where
  pub objects : map (λ r. r.obj) rows ≡ os
  pub keys : map (λ r. r.key) rows ≡ ks
  pub ids : map (λ r. r.id) rows ≡ ds
  pub inserts : map (λ r. r.insert) rows ≡ is
  pub actions : map (λ r. r.action) rows ≡ xs
  pub values : map (λ r. r.value) rows ≡ vs
  pub succs : map (λ r. r.succs) rows ≡ ss
  pub expands : map (λ r. r.expand) rows ≡ es
  pub marks : map (λ r. r.mark) rows ≡ ms

pub fields_from : (n : ℕ) (os : List ObjId) (ks : List Key) (ds : List OpId) (is : List Bool) (xs : List ℕ) (vs : List RawValue) (ss : List (List OpId)) (es : List Bool) (ms : List (Option (List ℕ))) → Even n os ks ds is xs vs ss es ms → HasFields (rows_from os ks ds is xs vs ss es ms) os ks ds is xs vs ss es ms
fields_from n os ks ds is xs vs ss es ms even =
    let r8 = zip es ms in
    let l8 : length r8 ≡ n = length-zip es ms (even.expands ∙ sym even.marks) ∙ even.expands in
    let r7 = zip ss r8 in
    let l7 : length r7 ≡ n = length-zip ss r8 (even.succs ∙ sym l8) ∙ even.succs in
    let r6 = zip vs r7 in
    let l6 : length r6 ≡ n = length-zip vs r7 (even.values ∙ sym l7) ∙ even.values in
    let r5 = zip xs r6 in
    let l5 : length r5 ≡ n = length-zip xs r6 (even.actions ∙ sym l6) ∙ even.actions in
    let r4 = zip is r5 in
    let l4 : length r4 ≡ n = length-zip is r5 (even.inserts ∙ sym l5) ∙ even.inserts in
    let r3 = zip ds r4 in
    let l3 : length r3 ≡ n = length-zip ds r4 (even.ids ∙ sym l4) ∙ even.ids in
    let r2 = zip ks r3 in
    let l2 : length r2 ≡ n = length-zip ks r3 (even.keys ∙ sym l3) ∙ even.keys in
    let r1 = zip os r2 in
    let e1 : length os ≡ length r2 = even.objects ∙ sym l2 in
    let e2 : length ks ≡ length r3 = even.keys ∙ sym l3 in
    let e3 : length ds ≡ length r4 = even.ids ∙ sym l4 in
    let e4 : length is ≡ length r5 = even.inserts ∙ sym l5 in
    let e5 : length xs ≡ length r6 = even.actions ∙ sym l6 in
    let e6 : length vs ≡ length r7 = even.values ∙ sym l7 in
    let e7 : length ss ≡ length r8 = even.succs ∙ sym l8 in
    let e8 : length es ≡ length ms = even.expands ∙ sym even.marks in
    record {
      objects = map-map (λ r. r.obj) row_from r1 ∙ zip_first (λ p. p) os r2 e1 ∙ map-id os;
      keys = map-map (λ r. r.key) row_from r1 ∙ zip_second (λ p. p.0) os r2 e1 ∙ zip_first (λ p. p) ks r3 e2 ∙ map-id ks;
      ids = map-map (λ r. r.id) row_from r1 ∙ zip_second (λ p. p.1.0) os r2 e1 ∙ zip_second (λ p. p.0) ks r3 e2 ∙ zip_first (λ p. p) ds r4 e3 ∙ map-id ds;
      inserts = map-map (λ r. r.insert) row_from r1 ∙ zip_second (λ p. p.1.1.0) os r2 e1 ∙ zip_second (λ p. p.1.0) ks r3 e2 ∙ zip_second (λ p. p.0) ds r4 e3 ∙ zip_first (λ p. p) is r5 e4 ∙ map-id is;
      actions = map-map (λ r. r.action) row_from r1 ∙ zip_second (λ p. p.1.1.1.0) os r2 e1 ∙ zip_second (λ p. p.1.1.0) ks r3 e2 ∙ zip_second (λ p. p.1.0) ds r4 e3 ∙ zip_second (λ p. p.0) is r5 e4 ∙ zip_first (λ p. p) xs r6 e5 ∙ map-id xs;
      values = map-map (λ r. r.value) row_from r1 ∙ zip_second (λ p. p.1.1.1.1.0) os r2 e1 ∙ zip_second (λ p. p.1.1.1.0) ks r3 e2 ∙ zip_second (λ p. p.1.1.0) ds r4 e3 ∙ zip_second (λ p. p.1.0) is r5 e4 ∙ zip_second (λ p. p.0) xs r6 e5 ∙ zip_first (λ p. p) vs r7 e6 ∙ map-id vs;
      succs = map-map (λ r. r.succs) row_from r1 ∙ zip_second (λ p. p.1.1.1.1.1.0) os r2 e1 ∙ zip_second (λ p. p.1.1.1.1.0) ks r3 e2 ∙ zip_second (λ p. p.1.1.1.0) ds r4 e3 ∙ zip_second (λ p. p.1.1.0) is r5 e4 ∙ zip_second (λ p. p.1.0) xs r6 e5 ∙ zip_second (λ p. p.0) vs r7 e6 ∙ zip_first (λ p. p) ss r8 e7 ∙ map-id ss;
      expands = map-map (λ r. r.expand) row_from r1 ∙ zip_second (λ p. p.1.1.1.1.1.1.0) os r2 e1 ∙ zip_second (λ p. p.1.1.1.1.1.0) ks r3 e2 ∙ zip_second (λ p. p.1.1.1.1.0) ds r4 e3 ∙ zip_second (λ p. p.1.1.1.0) is r5 e4 ∙ zip_second (λ p. p.1.1.0) xs r6 e5 ∙ zip_second (λ p. p.1.0) vs r7 e6 ∙ zip_second (λ p. p.0) ss r8 e7 ∙ zip_first (λ p. p) es ms e8 ∙ map-id es;
      marks = map-map (λ r. r.mark) row_from r1 ∙ zip_second (λ p. p.1.1.1.1.1.1.1) os r2 e1 ∙ zip_second (λ p. p.1.1.1.1.1.1) ks r3 e2 ∙ zip_second (λ p. p.1.1.1.1.1) ds r4 e3 ∙ zip_second (λ p. p.1.1.1.1) is r5 e4 ∙ zip_second (λ p. p.1.1.1) xs r6 e5 ∙ zip_second (λ p. p.1.1) vs r7 e6 ∙ zip_second (λ p. p.1) ss r8 e7 ∙ zip_second (λ p. p) es ms e8 ∙ map-id ms;
    }

pub SpellsRows-made : (actors : List (List ℕ)) (columns : List (ℕ × List ℕ)) (rows : List Row) (os : List ObjId) (ks : List Key) (ds : List OpId) (is : List Bool) (xs : List ℕ) (vs : List RawValue) (ss : List (List OpId)) (es : List Bool) (ms : List (Option (List ℕ)))
    → HasFields rows os ks ds is xs vs ss es ms
    → SpellsObjects actors (column_at columns 1) (column_at columns 2) os
    → SpellsKeys actors (column_at columns 17) (column_at columns 19) (column_at columns 21) ks
    → SpellsIds actors (column_at columns 33) (column_at columns 35) ds
    → SpellsFlags (column_at columns 52) is
    → SpellsActions (column_at columns 66) xs
    → SpellsValues (column_at columns 86) (column_at columns 87) vs
    → SpellsGroups actors (column_at columns 128) (column_at columns 129) (column_at columns 131) ss
    → SpellsFlags (column_at columns 148) es
    → SpellsTexts (column_at columns 165) ms
    → SpellsRows actors columns rows
SpellsRows-made actors columns rows os ks ds is xs vs ss es ms f sos sks sds sis sxs svs sss ses sms =
    let P1 : List ObjId → Type 0 = λ zs. SpellsObjects actors (column_at columns 1) (column_at columns 2) zs in
    let P2 : List Key → Type 0 = λ zs. SpellsKeys actors (column_at columns 17) (column_at columns 19) (column_at columns 21) zs in
    let P3 : List OpId → Type 0 = λ zs. SpellsIds actors (column_at columns 33) (column_at columns 35) zs in
    let P4 : List Bool → Type 0 = λ zs. SpellsFlags (column_at columns 52) zs in
    let P5 : List ℕ → Type 0 = λ zs. SpellsActions (column_at columns 66) zs in
    let P6 : List RawValue → Type 0 = λ zs. SpellsValues (column_at columns 86) (column_at columns 87) zs in
    let P7 : List (List OpId) → Type 0 = λ zs. SpellsGroups actors (column_at columns 128) (column_at columns 129) (column_at columns 131) zs in
    let P8 : List Bool → Type 0 = λ zs. SpellsFlags (column_at columns 148) zs in
    let P9 : List (Option (List ℕ)) → Type 0 = λ zs. SpellsTexts (column_at columns 165) zs in
    let q1 = subst P1 (sym f.objects) sos in
    let q2 = subst P2 (sym f.keys) sks in
    let q3 = subst P3 (sym f.ids) sds in
    let q4 = subst P4 (sym f.inserts) sis in
    let q5 = subst P5 (sym f.actions) sxs in
    let q6 = subst P6 (sym f.values) svs in
    let q7 = subst P7 (sym f.succs) sss in
    let q8 = subst P8 (sym f.expands) ses in
    let q9 = subst P9 (sym f.marks) sms in
    record {
      spelled = (q1.actor_column, (q1.counter_column, (q2.actor_column, (q2.counter_column, (q2.string_column, (q3.actor_column, (q3.counter_column, (q4, (q5.action_column, (q6.number_column, (q6.raw_column, (q7.group_column, ((q7.ids).actor_column, ((q7.ids).counter_column, (q8, (q9, tt))))))))))))))));
      within = record {
        objects = q1.within;
        keys = q2.within;
        ids = q3.within;
        actions = q5.known;
        values = q6.good;
        succs = (q7.ids).within;
        few = let n = q5.few in omega (arith, length-map rows (λ r. r.action));
        few_succs = q7.few;
      };
    }

-- the parts of rows that are spelled

pub objects_of : (actors : List (List ℕ)) (columns : List (ℕ × List ℕ)) (rows : List Row) → SpellsRows actors columns rows → SpellsObjects actors (column_at columns 1) (column_at columns 2) (map (λ r. r.obj) rows)
objects_of actors columns rows s = record { actor_column = (s.spelled).0; counter_column = (s.spelled).1.0; within = (s.within).objects }

pub keys_of : (actors : List (List ℕ)) (columns : List (ℕ × List ℕ)) (rows : List Row) → SpellsRows actors columns rows → SpellsKeys actors (column_at columns 17) (column_at columns 19) (column_at columns 21) (map (λ r. r.key) rows)
keys_of actors columns rows s = record { actor_column = (s.spelled).1.1.0; counter_column = (s.spelled).1.1.1.0; string_column = (s.spelled).1.1.1.1.0; within = (s.within).keys }

pub ids_of : (actors : List (List ℕ)) (columns : List (ℕ × List ℕ)) (rows : List Row) → SpellsRows actors columns rows → SpellsIds actors (column_at columns 33) (column_at columns 35) (map (λ r. r.id) rows)
ids_of actors columns rows s = record { actor_column = (s.spelled).1.1.1.1.1.0; counter_column = (s.spelled).1.1.1.1.1.1.0; within = (s.within).ids }

pub inserts_of : (actors : List (List ℕ)) (columns : List (ℕ × List ℕ)) (rows : List Row) → SpellsRows actors columns rows → SpellsFlags (column_at columns 52) (map (λ r. r.insert) rows)
inserts_of actors columns rows s = (s.spelled).1.1.1.1.1.1.1.0

pub actions_of : (actors : List (List ℕ)) (columns : List (ℕ × List ℕ)) (rows : List Row) → SpellsRows actors columns rows → SpellsActions (column_at columns 66) (map (λ r. r.action) rows)
actions_of actors columns rows s =
    let few = (s.within).few in
    record { action_column = (s.spelled).1.1.1.1.1.1.1.1.0; known = (s.within).actions; few = omega (arith, length-map rows (λ r. r.action)) }

pub values_of : (actors : List (List ℕ)) (columns : List (ℕ × List ℕ)) (rows : List Row) → SpellsRows actors columns rows → SpellsValues (column_at columns 86) (column_at columns 87) (map (λ r. r.value) rows)
values_of actors columns rows s = record { number_column = (s.spelled).1.1.1.1.1.1.1.1.1.0; raw_column = (s.spelled).1.1.1.1.1.1.1.1.1.1.0; good = (s.within).values }

pub succs_of : (actors : List (List ℕ)) (columns : List (ℕ × List ℕ)) (rows : List Row) → SpellsRows actors columns rows → SpellsGroups actors (column_at columns 128) (column_at columns 129) (column_at columns 131) (map (λ r. r.succs) rows)
succs_of actors columns rows s = record {
  group_column = (s.spelled).1.1.1.1.1.1.1.1.1.1.1.0;
  ids = record { actor_column = (s.spelled).1.1.1.1.1.1.1.1.1.1.1.1.0; counter_column = (s.spelled).1.1.1.1.1.1.1.1.1.1.1.1.1.0; within = (s.within).succs };
  few = (s.within).few_succs;
}

pub expands_of : (actors : List (List ℕ)) (columns : List (ℕ × List ℕ)) (rows : List Row) → SpellsRows actors columns rows → SpellsFlags (column_at columns 148) (map (λ r. r.expand) rows)
expands_of actors columns rows s = (s.spelled).1.1.1.1.1.1.1.1.1.1.1.1.1.1.0

pub marks_of : (actors : List (List ℕ)) (columns : List (ℕ × List ℕ)) (rows : List Row) → SpellsRows actors columns rows → SpellsTexts (column_at columns 165) (map (λ r. r.mark) rows)
marks_of actors columns rows s = (s.spelled).1.1.1.1.1.1.1.1.1.1.1.1.1.1.1.0

-- how many rows are spelled
pub count_of : (actors : List (List ℕ)) (columns : List (ℕ × List ℕ)) (rows : List Row) → SpellsRows actors columns rows → (actions : List ℕ) → SpellsActions (column_at columns 66) actions → (n : ℕ) → n ≡ length actions → length rows ≡ n
count_of actors columns rows s actions t n e =
    let same : map (λ r. r.action) rows ≡ actions = actions_one (column_at columns 66) (map (λ r. r.action) rows) actions (actions_of actors columns rows s).action_column t.action_column in
    sym (length-map rows (λ r. r.action)) ∙ ap length same ∙ sym e
