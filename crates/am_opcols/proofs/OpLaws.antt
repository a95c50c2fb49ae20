-- Operations are spelled by the columns that they are read from, and by no others.
use Rattle.std.proofs.Common.{◌≡◌, ℕ, suc, List, [], ◌∷◌, length, map, Option, Bool, refl, arith, sym, ap, ◌∙◌, subst}
use Rattle.std.specs.List.{zip}
use Rattle.std.proofs.lemmas.List.{length-map}
use Rattle.am_types.specs.declared.OpId.{OpId}
use Rattle.am_types.specs.declared.ObjId.{ObjId}
use Rattle.am_types.specs.declared.Key.{Key}
use Rattle.am_types.specs.declared.RawValue.{RawValue}
use Rattle.am_types.specs.declared.Op.{Op}
use Rattle.am_runs.specs.Typed.{JoinsUnsigned}
use Rattle.am_values.specs.Columns.{metadata}
use Rattle.am_colmeta.specs.Metadata.{column_at}
use Rattle.am_fields.specs.Columns.{SpellsFlags, SpellsTexts}
use Rattle.am_fields.specs.Spelling.{SpellsGiven, SpellsObjects, SpellsKeys, SpellsActions, SpellsValues, SpellsGroups}
use Rattle.am_fields.proofs.OneColumn.{numbers_one}
use Rattle.am_fields.proofs.ReadAs.{Reads-given, given-Reads}
use Rattle.am_fields.proofs.GroupLaws.{actions_one}
use Rattle.am_opcols.specs.Columns.{SpellsOps}
use Rattle.am_opcols.specs.Rows.{op_with, ops_from}

zip_first : {A B C : Type 0} (f : A → C) (xs : List A) (ys : List B) → length xs ≡ length ys → map (λ p. f p.0) (zip xs ys) ≡ map f xs
zip_first f [] [] e = refl
zip_first f [] (y ∷ ys) e = absurd (omega arith)
zip_first f (x ∷ xs) [] e = absurd (omega arith)
zip_first f (x ∷ xs) (y ∷ ys) e = ap (λ zs. f x ∷ zs) (zip_first f xs ys (omega arith))

zip_second : {A B C : Type 0} (f : B → C) (xs : List A) (ys : List B) → length xs ≡ length ys → map (λ p. f p.1) (zip xs ys) ≡ map f ys
zip_second f [] [] e = refl
zip_second f [] (y ∷ ys) e = absurd (omega arith)
zip_second f (x ∷ xs) [] e = absurd (omega arith)
zip_second f (x ∷ xs) (y ∷ ys) e = ap (λ zs. f y ∷ zs) (zip_second f xs ys (omega arith))

length-zip : {A B : Type 0} (xs : List A) (ys : List B) → length xs ≡ length ys → length (zip xs ys) ≡ length xs
length-zip [] ys e = refl
length-zip (x ∷ xs) [] e = absurd (omega arith)
length-zip (x ∷ xs) (y ∷ ys) e = ap suc (length-zip xs ys (omega arith))

map-map : {A B C : Type 0} (f : B → C) (g : A → B) (xs : List A) → map f (map g xs) ≡ map (λ x. f (g x)) xs
map-map f g [] = refl
map-map f g (x ∷ xs) = ap (λ zs. f (g x) ∷ zs) (map-map f g xs)

map-id : {A : Type 0} (xs : List A) → map (λ x. x) xs ≡ xs
map-id [] = refl
map-id (x ∷ xs) = ap (λ zs. x ∷ zs) (map-id xs)

-- lists of one length
pub record Even (n : ℕ) (os : List ObjId) (ks : List Key) (is : List Bool) (xs : List ℕ) (vs : List RawValue) (ps : List (List OpId)) (es : List Bool) (ms : List (Option (List ℕ))) : Type 0 where
  pub objects : length os ≡ n
  pub keys : length ks ≡ n
  pub inserts : length is ≡ n
  pub actions : length xs ≡ n
  pub values : length vs ≡ n
  pub preds : length ps ≡ n
  pub expands : length es ≡ n
  pub marks : length ms ≡ n

-- operations with these fields
pub record HasFields (ops : List Op) (os : List ObjId) (ks : List Key) (is : List Bool) (xs : List ℕ) (vs : List RawValue) (ps : List (List OpId)) (es : List Bool) (ms : List (Option (List ℕ))) : Type 0 where
  pub objects : map (λ o. o.obj) ops ≡ os
  pub keys : map (λ o. o.key) ops ≡ ks
  pub inserts : map (λ o. o.insert) ops ≡ is
  pub actions : map (λ o. o.action) ops ≡ xs
  pub values : map (λ o. o.value) ops ≡ vs
  pub preds : map (λ o. o.preds) ops ≡ ps
  pub expands : map (λ o. o.expand) ops ≡ es
  pub marks : map (λ o. o.mark) ops ≡ ms

pub fields_from : (n : ℕ) (os : List ObjId) (ks : List Key) (is : List Bool) (xs : List ℕ) (vs : List RawValue) (ps : List (List OpId)) (es : List Bool) (ms : List (Option (List ℕ))) → Even n os ks is xs vs ps es ms → HasFields (ops_from os ks is xs vs ps es ms) os ks is xs vs ps es ms
fields_from n os ks is xs vs ps es ms even =
    let r7 = zip es ms in
    let l7 : length r7 ≡ n = length-zip es ms (even.expands ∙ sym even.marks) ∙ even.expands in
    let r6 = zip ps r7 in
    let l6 : length r6 ≡ n = length-zip ps r7 (even.preds ∙ sym l7) ∙ even.preds in
    let r5 = zip vs r6 in
    let l5 : length r5 ≡ n = length-zip vs r6 (even.values ∙ sym l6) ∙ even.values in
    let r4 = zip xs r5 in
    let l4 : length r4 ≡ n = length-zip xs r5 (even.actions ∙ sym l5) ∙ even.actions in
    let r3 = zip is r4 in
    let l3 : length r3 ≡ n = length-zip is r4 (even.inserts ∙ sym l4) ∙ even.inserts in
    let r2 = zip ks r3 in
    let l2 : length r2 ≡ n = length-zip ks r3 (even.keys ∙ sym l3) ∙ even.keys in
    let r1 = zip os r2 in
    let e1 : length os ≡ length r2 = even.objects ∙ sym l2 in
    let e2 : length ks ≡ length r3 = even.keys ∙ sym l3 in
    let e3 : length is ≡ length r4 = even.inserts ∙ sym l4 in
    let e4 : length xs ≡ length r5 = even.actions ∙ sym l5 in
    let e5 : length vs ≡ length r6 = even.values ∙ sym l6 in
    let e6 : length ps ≡ length r7 = even.preds ∙ sym l7 in
    let e7 : length es ≡ length ms = even.expands ∙ sym even.marks in
    record {
      objects = map-map (λ o. o.obj) op_with r1 ∙ zip_first (λ x. x) os r2 e1 ∙ map-id os;
      keys = map-map (λ o. o.key) op_with r1 ∙ zip_second (λ p. p.0) os r2 e1 ∙ zip_first (λ x. x) ks r3 e2 ∙ map-id ks;
      inserts = map-map (λ o. o.insert) op_with r1 ∙ zip_second (λ p. p.1.0) os r2 e1 ∙ zip_second (λ p. p.0) ks r3 e2 ∙ zip_first (λ x. x) is r4 e3 ∙ map-id is;
      actions = map-map (λ o. o.action) op_with r1 ∙ zip_second (λ p. p.1.1.0) os r2 e1 ∙ zip_second (λ p. p.1.0) ks r3 e2 ∙ zip_second (λ p. p.0) is r4 e3 ∙ zip_first (λ x. x) xs r5 e4 ∙ map-id xs;
      values = map-map (λ o. o.value) op_with r1 ∙ zip_second (λ p. p.1.1.1.0) os r2 e1 ∙ zip_second (λ p. p.1.1.0) ks r3 e2 ∙ zip_second (λ p. p.1.0) is r4 e3 ∙ zip_second (λ p. p.0) xs r5 e4 ∙ zip_first (λ x. x) vs r6 e5 ∙ map-id vs;
      preds = map-map (λ o. o.preds) op_with r1 ∙ zip_second (λ p. p.1.1.1.1.0) os r2 e1 ∙ zip_second (λ p. p.1.1.1.0) ks r3 e2 ∙ zip_second (λ p. p.1.1.0) is r4 e3 ∙ zip_second (λ p. p.1.0) xs r5 e4 ∙ zip_second (λ p. p.0) vs r6 e5 ∙ zip_first (λ x. x) ps r7 e6 ∙ map-id ps;
      expands = map-map (λ o. o.expand) op_with r1 ∙ zip_second (λ p. p.1.1.1.1.1.0) os r2 e1 ∙ zip_second (λ p. p.1.1.1.1.0) ks r3 e2 ∙ zip_second (λ p. p.1.1.1.0) is r4 e3 ∙ zip_second (λ p. p.1.1.0) xs r5 e4 ∙ zip_second (λ p. p.1.0) vs r6 e5 ∙ zip_second (λ p. p.0) ps r7 e6 ∙ zip_first (λ x. x) es ms e7 ∙ map-id es;
      marks = map-map (λ o. o.mark) op_with r1 ∙ zip_second (λ p. p.1.1.1.1.1.1) os r2 e1 ∙ zip_second (λ p. p.1.1.1.1.1) ks r3 e2 ∙ zip_second (λ p. p.1.1.1.1) is r4 e3 ∙ zip_second (λ p. p.1.1.1) xs r5 e4 ∙ zip_second (λ p. p.1.1) vs r6 e5 ∙ zip_second (λ p. p.1) ps r7 e6 ∙ zip_second (λ x. x) es ms e7 ∙ map-id ms;
    }

-- there are as many operations as actions
pub length-ops : (os : List ObjId) (ks : List Key) (is : List Bool) (xs : List ℕ) (vs : List RawValue) (ps : List (List OpId)) (es : List Bool) (ms : List (Option (List ℕ))) → Even (length xs) os ks is xs vs ps es ms → length (ops_from os ks is xs vs ps es ms) ≡ length xs
length-ops os ks is xs vs ps es ms even =
    sym (length-map (ops_from os ks is xs vs ps es ms) (λ o. o.action)) ∙ ap length (fields_from (length xs) os ks is xs vs ps es ms even).actions

pub SpellsOps-made : (actors : List (List ℕ)) (columns : List (ℕ × List ℕ)) (ops : List Op) (os : List ObjId) (ks : List Key) (is : List Bool) (xs : List ℕ) (vs : List RawValue) (ps : List (List OpId)) (es : List Bool) (ms : List (Option (List ℕ)))
    → HasFields ops os ks is xs vs ps es ms
    → SpellsObjects actors (column_at columns 1) (column_at columns 2) os
    → SpellsKeys actors (column_at columns 17) (column_at columns 19) (column_at columns 21) ks
    → SpellsFlags (column_at columns 52) is
    → SpellsActions (column_at columns 66) xs
    → SpellsValues (column_at columns 86) (column_at columns 87) vs
    → SpellsGroups actors (column_at columns 112) (column_at columns 113) (column_at columns 115) ps
    → SpellsFlags (column_at columns 148) es
    → SpellsTexts (column_at columns 165) ms
    → (n : ℕ) → length vs ≡ n → SpellsGiven n (column_at columns 86) → length ps ≡ n → SpellsGiven n (column_at columns 112)
    → SpellsOps actors columns ops
SpellsOps-made actors columns ops os ks is xs vs ps es ms f so sk si sx sv sp se sm n nv gv np gp =
    let P1 : List ObjId → Type 0 = λ zs. SpellsObjects actors (column_at columns 1) (column_at columns 2) zs in
    let P2 : List Key → Type 0 = λ zs. SpellsKeys actors (column_at columns 17) (column_at columns 19) (column_at columns 21) zs in
    let P3 : List Bool → Type 0 = λ zs. SpellsFlags (column_at columns 52) zs in
    let P4 : List ℕ → Type 0 = λ zs. SpellsActions (column_at columns 66) zs in
    let P5 : List RawValue → Type 0 = λ zs. SpellsValues (column_at columns 86) (column_at columns 87) zs in
    let P6 : List (List OpId) → Type 0 = λ zs. SpellsGroups actors (column_at columns 112) (column_at columns 113) (column_at columns 115) zs in
    let P7 : List Bool → Type 0 = λ zs. SpellsFlags (column_at columns 148) zs in
    let P8 : List (Option (List ℕ)) → Type 0 = λ zs. SpellsTexts (column_at columns 165) zs in
    let o = subst P1 (sym f.objects) so in
    let k = subst P2 (sym f.keys) sk in
    let i = subst P3 (sym f.inserts) si in
    let x = subst P4 (sym f.actions) sx in
    let v = subst P5 (sym f.values) sv in
    let p = subst P6 (sym f.preds) sp in
    let e = subst P7 (sym f.expands) se in
    let m = subst P8 (sym f.marks) sm in
    let numbers = map metadata (map (λ o. o.value) ops) in
    let lengths = map length (map (λ o. o.preds) ops) in
    let ln : length gv.0 ≡ length numbers = gv.2 ∙ sym nv ∙ sym (ap length f.values) ∙ sym (length-map (map (λ o. o.value) ops) metadata) in
    let ll : length gp.0 ≡ length lengths = gp.2 ∙ sym np ∙ sym (ap length f.preds) ∙ sym (length-map (map (λ o. o.preds) ops) length) in
    let number_column = given-Reads JoinsUnsigned 0 numbers_one (column_at columns 86) numbers gv.0 v.number_column gv.1 ln in
    let group_column = given-Reads JoinsUnsigned 0 numbers_one (column_at columns 112) lengths gp.0 p.group_column gp.1 ll in
    record {
      spelled = (o.actor_column, (o.counter_column, (k.actor_column, (k.counter_column, (k.string_column, (i, (x.action_column, (number_column, (v.raw_column, (group_column, ((p.ids).actor_column, ((p.ids).counter_column, (e, (m, tt))))))))))))));
      within = record {
        objects = o.within;
        keys = k.within;
        actions = x.known;
        values = v.good;
        preds = (p.ids).within;
        few = let n = x.few in omega (arith, length-map ops (λ o. o.action));
        few_preds = p.few;
      };
    }

-- the parts of operations that are spelled

pub objects_of : (actors : List (List ℕ)) (columns : List (ℕ × List ℕ)) (ops : List Op) → SpellsOps actors columns ops → SpellsObjects actors (column_at columns 1) (column_at columns 2) (map (λ o. o.obj) ops)
objects_of actors columns ops s = record { actor_column = (s.spelled).0; counter_column = (s.spelled).1.0; within = (s.within).objects }

pub keys_of : (actors : List (List ℕ)) (columns : List (ℕ × List ℕ)) (ops : List Op) → SpellsOps actors columns ops → SpellsKeys actors (column_at columns 17) (column_at columns 19) (column_at columns 21) (map (λ o. o.key) ops)
keys_of actors columns ops s = record { actor_column = (s.spelled).1.1.0; counter_column = (s.spelled).1.1.1.0; string_column = (s.spelled).1.1.1.1.0; within = (s.within).keys }

pub inserts_of : (actors : List (List ℕ)) (columns : List (ℕ × List ℕ)) (ops : List Op) → SpellsOps actors columns ops → SpellsFlags (column_at columns 52) (map (λ o. o.insert) ops)
inserts_of actors columns ops s = (s.spelled).1.1.1.1.1.0

pub actions_of : (actors : List (List ℕ)) (columns : List (ℕ × List ℕ)) (ops : List Op) → SpellsOps actors columns ops → SpellsActions (column_at columns 66) (map (λ o. o.action) ops)
actions_of actors columns ops s =
    let few = (s.within).few in
    record { action_column = (s.spelled).1.1.1.1.1.1.0; known = (s.within).actions; few = omega (arith, length-map ops (λ o. o.action)) }

pub values_of : (actors : List (List ℕ)) (columns : List (ℕ × List ℕ)) (ops : List Op) → SpellsOps actors columns ops → SpellsValues (column_at columns 86) (column_at columns 87) (map (λ o. o.value) ops)
values_of actors columns ops s = record { number_column = Reads-given JoinsUnsigned 0 (column_at columns 86) (map metadata (map (λ o. o.value) ops)) (s.spelled).1.1.1.1.1.1.1.0; raw_column = (s.spelled).1.1.1.1.1.1.1.1.0; good = (s.within).values }

pub preds_of : (actors : List (List ℕ)) (columns : List (ℕ × List ℕ)) (ops : List Op) → SpellsOps actors columns ops → SpellsGroups actors (column_at columns 112) (column_at columns 113) (column_at columns 115) (map (λ o. o.preds) ops)
preds_of actors columns ops s = record {
  group_column = Reads-given JoinsUnsigned 0 (column_at columns 112) (map length (map (λ o. o.preds) ops)) (s.spelled).1.1.1.1.1.1.1.1.1.0;
  ids = record { actor_column = (s.spelled).1.1.1.1.1.1.1.1.1.1.0; counter_column = (s.spelled).1.1.1.1.1.1.1.1.1.1.1.0; within = (s.within).preds };
  few = (s.within).few_preds;
}

-- all metadata of values and all lengths of groups stand
pub numbers_given : (actors : List (List ℕ)) (columns : List (ℕ × List ℕ)) (ops : List Op) → SpellsOps actors columns ops → (n : ℕ) → length ops ≡ n → SpellsGiven n (column_at columns 86)
numbers_given actors columns ops s n e =
    (map metadata (map (λ o. o.value) ops), (s.spelled).1.1.1.1.1.1.1.0, length-map (map (λ o. o.value) ops) metadata ∙ length-map ops (λ o. o.value) ∙ e)

pub lengths_given : (actors : List (List ℕ)) (columns : List (ℕ × List ℕ)) (ops : List Op) → SpellsOps actors columns ops → (n : ℕ) → length ops ≡ n → SpellsGiven n (column_at columns 112)
lengths_given actors columns ops s n e =
    (map length (map (λ o. o.preds) ops), (s.spelled).1.1.1.1.1.1.1.1.1.0, length-map (map (λ o. o.preds) ops) length ∙ length-map ops (λ o. o.preds) ∙ e)

pub expands_of : (actors : List (List ℕ)) (columns : List (ℕ × List ℕ)) (ops : List Op) → SpellsOps actors columns ops → SpellsFlags (column_at columns 148) (map (λ o. o.expand) ops)
expands_of actors columns ops s = (s.spelled).1.1.1.1.1.1.1.1.1.1.1.1.0

pub marks_of : (actors : List (List ℕ)) (columns : List (ℕ × List ℕ)) (ops : List Op) → SpellsOps actors columns ops → SpellsTexts (column_at columns 165) (map (λ o. o.mark) ops)
marks_of actors columns ops s = (s.spelled).1.1.1.1.1.1.1.1.1.1.1.1.1.0

-- how many operations are spelled
pub count_of : (actors : List (List ℕ)) (columns : List (ℕ × List ℕ)) (ops : List Op) → SpellsOps actors columns ops → (actions : List ℕ) → SpellsActions (column_at columns 66) actions → (n : ℕ) → n ≡ length actions → length ops ≡ n
count_of actors columns ops s actions t n e =
    let same : map (λ o. o.action) ops ≡ actions = actions_one (column_at columns 66) (map (λ o. o.action) ops) actions (actions_of actors columns ops s).action_column t.action_column in
    sym (length-map ops (λ o. o.action)) ∙ ap length same ∙ sym e
