-- Change rows are spelled by the columns that they are read from, and by no others.
use Rattle.std.proofs.Common.{◌≡◌, ℕ, ◌^◌, List, length, map, arith, sym, ap, ◌∙◌, subst}
use Rattle.std.specs.Prelude.{ℤ}
use Rattle.std.specs.List.{zip, AllByRecursion}
use Rattle.std.proofs.lemmas.List.{length-map}
use Rattle.am_types.specs.declared.Meta.{Meta}
use Rattle.am_colmeta.specs.Metadata.{column_at}
use Rattle.am_fields.specs.Columns.{SpellsMessages}
use Rattle.am_fields.specs.Layout.{flat}
use Rattle.am_fields.specs.Limits.{IsBelow}
use Rattle.am_fields.specs.Spelling.{SpellsAuthors, SpellsWholes, SpellsTimesWithin, SpellsIndexes, SpellsExtraBytes}
use Rattle.am_fields.proofs.MetaLaws.{authors_length}
use Rattle.am_fields.proofs.Zips.{zip_first, zip_second, length-zip, map-map, map-id}
use Rattle.am_doccols.specs.Columns.{SpellsMetas}
use Rattle.am_doccols.specs.Metas.{meta_from, metas_from}

-- lists of one length
pub record Even (n : ℕ) (os : List (List ℕ)) (ks : List ℕ) (xs : List ℕ) (ts : List ℤ) (ms : List (List ℕ)) (ds : List (List ℕ)) (es : List (List ℕ)) : Type 0 where
  pub authors : length os ≡ n
  pub seqs : length ks ≡ n
  pub maxes : length xs ≡ n
  pub times : length ts ≡ n
  pub messages : length ms ≡ n
  pub deps : length ds ≡ n
  pub extras : length es ≡ n

-- rows with these fields
pub record HasFields (rows : List Meta) (os : List (List ℕ)) (ks : List ℕ) (xs : List ℕ) (ts : List ℤ) (ms : List (List ℕ)) (ds : List (List ℕ)) (es : List (List ℕ)) : Type 0 where
  pub authors : map (λ r. r.actor) rows ≡ os
  pub seqs : map (λ r. r.seq) rows ≡ ks
  pub maxes : map (λ r. r.max) rows ≡ xs
  pub times : map (λ r. r.time) rows ≡ ts
  pub messages : map (λ r. r.message) rows ≡ ms
  pub deps : map (λ r. r.deps) rows ≡ ds
  pub extras : map (λ r. r.extra) rows ≡ es

pub fields_from : (n : ℕ) (os : List (List ℕ)) (ks : List ℕ) (xs : List ℕ) (ts : List ℤ) (ms : List (List ℕ)) (ds : List (List ℕ)) (es : List (List ℕ)) → Even n os ks xs ts ms ds es → HasFields (metas_from os ks xs ts ms ds es) os ks xs ts ms ds es
fields_from n os ks xs ts ms ds es even =
    let r6 = zip ds es in
    let l6 : length r6 ≡ n = length-zip ds es (even.deps ∙ sym even.extras) ∙ even.deps in
    let r5 = zip ms r6 in
    let l5 : length r5 ≡ n = length-zip ms r6 (even.messages ∙ sym l6) ∙ even.messages in
    let r4 = zip ts r5 in
    let l4 : length r4 ≡ n = length-zip ts r5 (even.times ∙ sym l5) ∙ even.times in
    let r3 = zip xs r4 in
    let l3 : length r3 ≡ n = length-zip xs r4 (even.maxes ∙ sym l4) ∙ even.maxes in
    let r2 = zip ks r3 in
    let l2 : length r2 ≡ n = length-zip ks r3 (even.seqs ∙ sym l3) ∙ even.seqs in
    let r1 = zip os r2 in
    let e1 : length os ≡ length r2 = even.authors ∙ sym l2 in
    let e2 : length ks ≡ length r3 = even.seqs ∙ sym l3 in
    let e3 : length xs ≡ length r4 = even.maxes ∙ sym l4 in
    let e4 : length ts ≡ length r5 = even.times ∙ sym l5 in
    let e5 : length ms ≡ length r6 = even.messages ∙ sym l6 in
    let e6 : length ds ≡ length es = even.deps ∙ sym even.extras in
    record {
      authors = map-map (λ r. r.actor) meta_from r1 ∙ zip_first (λ p. p) os r2 e1 ∙ map-id os;
      seqs = map-map (λ r. r.seq) meta_from r1 ∙ zip_second (λ p. p.0) os r2 e1 ∙ zip_first (λ p. p) ks r3 e2 ∙ map-id ks;
      maxes = map-map (λ r. r.max) meta_from r1 ∙ zip_second (λ p. p.1.0) os r2 e1 ∙ zip_second (λ p. p.0) ks r3 e2 ∙ zip_first (λ p. p) xs r4 e3 ∙ map-id xs;
      times = map-map (λ r. r.time) meta_from r1 ∙ zip_second (λ p. p.1.1.0) os r2 e1 ∙ zip_second (λ p. p.1.0) ks r3 e2 ∙ zip_second (λ p. p.0) xs r4 e3 ∙ zip_first (λ p. p) ts r5 e4 ∙ map-id ts;
      messages = map-map (λ r. r.message) meta_from r1 ∙ zip_second (λ p. p.1.1.1.0) os r2 e1 ∙ zip_second (λ p. p.1.1.0) ks r3 e2 ∙ zip_second (λ p. p.1.0) xs r4 e3 ∙ zip_second (λ p. p.0) ts r5 e4 ∙ zip_first (λ p. p) ms r6 e5 ∙ map-id ms;
      deps = map-map (λ r. r.deps) meta_from r1 ∙ zip_second (λ p. p.1.1.1.1.0) os r2 e1 ∙ zip_second (λ p. p.1.1.1.0) ks r3 e2 ∙ zip_second (λ p. p.1.1.0) xs r4 e3 ∙ zip_second (λ p. p.1.0) ts r5 e4 ∙ zip_second (λ p. p.0) ms r6 e5 ∙ zip_first (λ p. p) ds es e6 ∙ map-id ds;
      extras = map-map (λ r. r.extra) meta_from r1 ∙ zip_second (λ p. p.1.1.1.1.1) os r2 e1 ∙ zip_second (λ p. p.1.1.1.1) ks r3 e2 ∙ zip_second (λ p. p.1.1.1) xs r4 e3 ∙ zip_second (λ p. p.1.1) ts r5 e4 ∙ zip_second (λ p. p.1) ms r6 e5 ∙ zip_second (λ p. p) ds es e6 ∙ map-id es;
    }

pub SpellsMetas-made : (actors : List (List ℕ)) (columns : List (ℕ × List ℕ)) (rows : List Meta) (os : List (List ℕ)) (ks : List ℕ) (xs : List ℕ) (ts : List ℤ) (ms : List (List ℕ)) (ds : List (List ℕ)) (es : List (List ℕ))
    → HasFields rows os ks xs ts ms ds es
    → (n : ℕ) → length os ≡ n
    → SpellsAuthors actors (column_at columns 1) os
    → SpellsWholes 1 (2 ^ 53) (column_at columns 3) ks
    → SpellsWholes 0 (2 ^ 53) (column_at columns 19) xs
    → SpellsTimesWithin (column_at columns 35) ts
    → SpellsMessages (column_at columns 53) ms
    → SpellsIndexes n (column_at columns 64) (column_at columns 67) ds
    → SpellsExtraBytes (column_at columns 86) (column_at columns 87) es
    → SpellsMetas actors columns rows
SpellsMetas-made actors columns rows os ks xs ts ms ds es f n count sos sks sxs sts sms sds ses =
    let same : n ≡ length rows = sym count ∙ sym (ap length f.authors) ∙ length-map rows (λ r. r.actor) in
    let P1 : List (List ℕ) → Type 0 = λ zs. SpellsAuthors actors (column_at columns 1) zs in
    let P2 : List ℕ → Type 0 = λ zs. SpellsWholes 1 (2 ^ 53) (column_at columns 3) zs in
    let P3 : List ℕ → Type 0 = λ zs. SpellsWholes 0 (2 ^ 53) (column_at columns 19) zs in
    let P4 : List ℤ → Type 0 = λ zs. SpellsTimesWithin (column_at columns 35) zs in
    let P5 : List (List ℕ) → Type 0 = λ zs. SpellsMessages (column_at columns 53) zs in
    let P6 : List (List ℕ) → Type 0 = λ zs. SpellsIndexes n (column_at columns 64) (column_at columns 67) zs in
    let P7 : List (List ℕ) → Type 0 = λ zs. SpellsExtraBytes (column_at columns 86) (column_at columns 87) zs in
    let q1 = subst P1 (sym f.authors) sos in
    let q2 = subst P2 (sym f.seqs) sks in
    let q3 = subst P3 (sym f.maxes) sxs in
    let q4 = subst P4 (sym f.times) sts in
    let q5 = subst P5 (sym f.messages) sms in
    let q6 = subst P6 (sym f.deps) sds in
    let q7 = subst P7 (sym f.extras) ses in
    let B : ℕ → Type 0 = λ k. AllByRecursion (IsBelow 0 k) (flat (map (λ r. r.deps) rows)) in
    record {
      spelled = (q1.actor_column, (q2.column, (q3.column, (q4.column, (q5, (q6.group_column, ((q6.indexes).column, (q7.number_column, (q7.raw_column, tt)))))))));
      within = record {
        authors = q1.short;
        seqs = q2.within;
        maxes = q3.within;
        times = q4.within;
        deps = subst B same (q6.indexes).within;
        extras = q7.short;
        few = let m = q1.few in omega (arith, length-map rows (λ r. r.actor));
        few_deps = q6.few;
      };
    }

-- the parts of rows that are spelled

pub authors_of : (actors : List (List ℕ)) (columns : List (ℕ × List ℕ)) (rows : List Meta) → SpellsMetas actors columns rows → SpellsAuthors actors (column_at columns 1) (map (λ r. r.actor) rows)
authors_of actors columns rows s =
    let few = (s.within).few in
    record { actor_column = (s.spelled).0; short = (s.within).authors; few = omega (arith, length-map rows (λ r. r.actor)) }

pub seqs_of : (actors : List (List ℕ)) (columns : List (ℕ × List ℕ)) (rows : List Meta) → SpellsMetas actors columns rows → SpellsWholes 1 (2 ^ 53) (column_at columns 3) (map (λ r. r.seq) rows)
seqs_of actors columns rows s = record { column = (s.spelled).1.0; within = (s.within).seqs }

pub maxes_of : (actors : List (List ℕ)) (columns : List (ℕ × List ℕ)) (rows : List Meta) → SpellsMetas actors columns rows → SpellsWholes 0 (2 ^ 53) (column_at columns 19) (map (λ r. r.max) rows)
maxes_of actors columns rows s = record { column = (s.spelled).1.1.0; within = (s.within).maxes }

pub times_of : (actors : List (List ℕ)) (columns : List (ℕ × List ℕ)) (rows : List Meta) → SpellsMetas actors columns rows → SpellsTimesWithin (column_at columns 35) (map (λ r. r.time) rows)
times_of actors columns rows s = record { column = (s.spelled).1.1.1.0; within = (s.within).times }

pub messages_of : (actors : List (List ℕ)) (columns : List (ℕ × List ℕ)) (rows : List Meta) → SpellsMetas actors columns rows → SpellsMessages (column_at columns 53) (map (λ r. r.message) rows)
messages_of actors columns rows s = (s.spelled).1.1.1.1.0

pub deps_of : (actors : List (List ℕ)) (columns : List (ℕ × List ℕ)) (rows : List Meta) → SpellsMetas actors columns rows → (n : ℕ) → length rows ≡ n → SpellsIndexes n (column_at columns 64) (column_at columns 67) (map (λ r. r.deps) rows)
deps_of actors columns rows s n e =
    let B : ℕ → Type 0 = λ k. AllByRecursion (IsBelow 0 k) (flat (map (λ r. r.deps) rows)) in
    record {
      group_column = (s.spelled).1.1.1.1.1.0;
      indexes = record { column = (s.spelled).1.1.1.1.1.1.0; within = subst B e (s.within).deps };
      few = (s.within).few_deps;
    }

pub extras_of : (actors : List (List ℕ)) (columns : List (ℕ × List ℕ)) (rows : List Meta) → SpellsMetas actors columns rows → SpellsExtraBytes (column_at columns 86) (column_at columns 87) (map (λ r. r.extra) rows)
extras_of actors columns rows s = record { number_column = (s.spelled).1.1.1.1.1.1.1.0; raw_column = (s.spelled).1.1.1.1.1.1.1.1.0; short = (s.within).extras }

-- how many rows are spelled
pub count_of : (actors : List (List ℕ)) (columns : List (ℕ × List ℕ)) (rows : List Meta) → SpellsMetas actors columns rows → (authors : List (List ℕ)) → SpellsAuthors actors (column_at columns 1) authors → (n : ℕ) → n ≡ length authors → length rows ≡ n
count_of actors columns rows s authors t n e =
    sym (length-map rows (λ r. r.actor)) ∙ authors_length actors (column_at columns 1) (map (λ r. r.actor) rows) authors (authors_of actors columns rows s) t ∙ sym e

-- there are as many rows as authors
pub length-metas : (os : List (List ℕ)) (ks : List ℕ) (xs : List ℕ) (ts : List ℤ) (ms : List (List ℕ)) (ds : List (List ℕ)) (es : List (List ℕ)) → Even (length os) os ks xs ts ms ds es → length (metas_from os ks xs ts ms ds es) ≡ length os
length-metas os ks xs ts ms ds es even =
    sym (length-map (metas_from os ks xs ts ms ds es) (λ r. r.actor)) ∙ ap length (fields_from (length os) os ks xs ts ms ds es even).authors
