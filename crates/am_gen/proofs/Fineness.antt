-- The parts of generated changes are fine.
use Rattle.std.proofs.Common.{◌≡◌, ◌≢◌, ◌≤◌, ◌<◌, ◌+◌, ◌-◌, ◌*◌, ◌%◌, ◌^◌, ◌==◌, ℕ, zero, suc, List, [], ◌∷◌, Bool, true, false, Some, None, codes, length, refl, sym, subst, ap, ◌∙◌, rules, arith, lit<}
use Rattle.std.specs.Ordering.{nat_cmp}
use Rattle.std.specs.declared.cmp.Ordering.TheVariants.{Equal}
use Rattle.std.proofs.lemmas.Cmp.{nat_cmp_total, tied_itself}
use Rattle.am_types.specs.Fine.{IsListPlace}
use Rattle.std.specs.Prelude.{IsAscii, IsUtf8, IsSome, if◌then◌else◌}
use Rattle.std.specs.List.{All}
use Rattle.std.proofs.lemmas.Str.{IsUtf8-from_ascii}
use Rattle.std.proofs.lemmas.List.Elements.{All-nil, All-cons}
use Rattle.am_leb.specs.Leb.{uleb, IsSpelling}
use Rattle.am_leb.proofs.Laws.{uleb_spells, uleb_is, length_uleb-le}
use Rattle.am_types.specs.Actors.{IsActor}
use Rattle.am_types.specs.Bytes.{IsBytes, IsHash}
use Rattle.am_types.specs.declared.Hash.{Hash}
use Rattle.am_types.specs.declared.OpId.{OpId}
use Rattle.am_types.specs.declared.Key.TheVariants.{Head, Elem}
use Rattle.am_types.specs.declared.Op.{Op}
use Rattle.am_types.specs.Numbers.{unsigned_of, signed_of}
use Rattle.am_types.specs.Values.{Good}
use Rattle.am_types.specs.Order.{id_cmp, hash_cmp, Ascends}
use Rattle.am_types.specs.Fine.{Fine, FineOp, IsId, IsKey}
use Rattle.am_types.proofs.NumberLaws.{unsigned_is_shortest}
use Rattle.am_gen.specs.Made.{actor, id, value, makes_text, sets_counter, first, last, letter, inserts, counts, set_in, set_before, sets, deletes, ends, in_round}

-- ---- texts, actors and ids

ascii_one : (n : ℕ) → n < 128 → IsAscii (n ∷ [])
ascii_one n l zero = l
ascii_one n l (suc i) = lit< tt

pub text_one : (n : ℕ) → n < 128 → IsUtf8 (n ∷ [])
text_one n l = IsUtf8-from_ascii (n ∷ []) (ascii_one n l)

pub text_name : IsUtf8 (codes "text")
unfolding lib.Utf8.encode
text_name = (codes "text", (refl, refl))

byte_one : (n : ℕ) → n < 2 ^ 8 → IsBytes (n ∷ [])
byte_one n l = All-cons (λ b. b < 2 ^ 8) n [] l (All-nil (λ b. b < 2 ^ 8))

no_bytes : IsBytes []
no_bytes = All-nil (λ b. b < 2 ^ 8)

one_of_three : (a b : Bool) → (if a then 0xa1 else (if b then 0xb2 else 0xc3)) < 2 ^ 8
one_of_three true b = lit< tt
one_of_three false true = lit< tt
one_of_three false false = lit< tt

pub actor_is : (j : ℕ) → IsActor (actor j)
actor_is j = record { some = omega arith; few = omega arith; are_bytes = byte_one _ (one_of_three (j == 0) (j == 1)) }

pub id_is : (counter j : ℕ) → 1 ≤ counter → counter < 2 ^ 53 → IsId (id counter j)
id_is counter j low high = record { low = low; high = high; actor = actor_is j }

-- ---- values

pub good_nothing : Good (value 0 [])
good_nothing = record {
  kind = omega arith;
  short = omega arith;
  bytes = no_bytes;
  empty = λ e. refl;
  unsigned = λ e. absurd (omega arith);
  signed = λ e. search rules;
  float = λ e. absurd (omega arith);
  text = λ e. absurd (omega arith);
}

pub good_zero : Good (value 8 (0 ∷ []))
unfolding signed_of Rattle.am_leb.specs.Reading.first_signed Rattle.am_leb.specs.Leb.leb Rattle.am_leb.specs.Leb.signed_digits
good_zero = record {
  kind = omega arith;
  short = omega arith;
  bytes = byte_one 0 (lit< tt);
  empty = λ e. absurd (omega arith);
  unsigned = λ e. absurd (omega arith);
  signed = λ e. refl;
  float = λ e. absurd (omega arith);
  text = λ e. absurd (omega arith);
}

pub good_one : Good (value 4 (1 ∷ []))
unfolding signed_of Rattle.am_leb.specs.Reading.first_signed Rattle.am_leb.specs.Leb.leb Rattle.am_leb.specs.Leb.signed_digits
good_one = record {
  kind = omega arith;
  short = omega arith;
  bytes = byte_one 1 (lit< tt);
  empty = λ e. absurd (omega arith);
  unsigned = λ e. absurd (omega arith);
  signed = λ e. refl;
  float = λ e. absurd (omega arith);
  text = λ e. absurd (omega arith);
}

pub good_letter : (n : ℕ) → n < 128 → Good (value 6 (n ∷ []))
good_letter n l = record {
  kind = omega arith;
  short = omega arith;
  bytes = byte_one n (omega arith);
  empty = λ e. absurd (omega arith);
  unsigned = λ e. absurd (omega arith);
  signed = λ e. search rules;
  float = λ e. absurd (omega arith);
  text = λ e. text_one n l;
}

spelling_bytes : (bytes : List ℕ) → IsSpelling bytes → IsBytes bytes
spelling_bytes [] s = absurd s
spelling_bytes (b ∷ []) s = byte_one b (omega arith)
spelling_bytes (b ∷ c ∷ bytes) s = All-cons (λ b. b < 2 ^ 8) b (c ∷ bytes) s.1 (spelling_bytes (c ∷ bytes) s.2)

is_some : (o : Rattle.std.proofs.Common.Option ℕ) (n : ℕ) → o ≡ Some n → IsSome o
is_some (Some m) n e = refl
is_some None n e = cc

pub good_number : (n : ℕ) → n ≤ 100000 → Good (value 3 (uleb n))
good_number n few =
    let bytes = spelling_bytes (uleb n) (uleb_spells n).spelling in
    let long = length_uleb-le n (omega arith) in record {
      kind = omega arith;
      short = omega arith;
      bytes = bytes;
      empty = λ e. absurd (omega arith);
      unsigned = λ e. is_some (unsigned_of (uleb n)) n ((unsigned_is_shortest (uleb n) n bytes).1 (omega arith, uleb_is n));
      signed = λ e. search rules;
      float = λ e. absurd (omega arith);
      text = λ e. absurd (omega arith);
    }

-- ---- operations

no_id : All IsId []
no_id = All-nil IsId

one_id : (i : OpId) → IsId i → All IsId (i ∷ [])
one_id i is = All-cons IsId i [] is no_id

none_ascend : Ascends id_cmp []
none_ascend = λ k d h. absurd (omega arith)

one_ascends : (i : OpId) → Ascends id_cmp (i ∷ [])
one_ascends i = λ k d h. absurd (omega arith)

fine_makes_text : FineOp makes_text
fine_makes_text = record {
  action = omega arith;
  object = tt;
  key = text_name;
  value = good_nothing;
  mark_name = tt;
  preds = no_id;
  preds_ascend = none_ascend;
  insertion = λ e. cc;
  head = λ e. cc;
  mark = λ e. absurd (omega arith);
  deletion = λ e. absurd (omega arith);
}

fine_sets_counter : FineOp sets_counter
fine_sets_counter = record {
  action = omega arith;
  object = tt;
  key = text_one 110 (lit< tt);
  value = good_zero;
  mark_name = tt;
  preds = no_id;
  preds_ascend = none_ascend;
  insertion = λ e. cc;
  head = λ e. cc;
  mark = λ e. absurd (omega arith);
  deletion = λ e. absurd (omega arith);
}

pub fine_counts : FineOp counts
fine_counts = record {
  action = omega arith;
  object = tt;
  key = text_one 110 (lit< tt);
  value = good_one;
  mark_name = tt;
  preds = one_id (id 2 0) (id_is 2 0 (omega arith) (omega arith));
  preds_ascend = one_ascends (id 2 0);
  insertion = λ e. cc;
  head = λ e. cc;
  mark = λ e. absurd (omega arith);
  deletion = λ e. absurd (omega arith);
}

low_last : (r : ℕ) → 1 ≤ r → (r == 1) ≡ false → 1 ≤ 3 * r - 3
low_last zero some other = absurd (omega arith)
low_last (suc zero) some other = cc
low_last (suc (suc r)) some other = omega arith

place_is : (r j : ℕ) → 1 ≤ r → r ≤ 100000 → IsKey (inserts r j).key
place_is r j some few = go (r == 1) refl
  where
    go : (b : Bool) → (r == 1) ≡ b → IsKey (if b then Head else Elem (last r j))
    go true e = tt
    go false e = id_is (3 * r - 3) j (low_last r some e) (omega arith)

in_list : (b : Bool) (i : OpId) → IsListPlace (if b then Head else Elem i)
in_list true i = tt
in_list false i = tt

fine_inserts : (r j : ℕ) → 1 ≤ r → r ≤ 100000 → FineOp (inserts r j)
fine_inserts r j some few = record {
  action = omega arith;
  object = id_is 1 0 (omega arith) (omega arith);
  key = place_is r j some few;
  value = good_letter (letter r j) (omega arith);
  mark_name = tt;
  preds = no_id;
  preds_ascend = none_ascend;
  insertion = λ e. record { place = in_list (r == 1) (last r j); action = (λ e. absurd (omega arith), λ e. absurd (omega arith)); preds = refl };
  head = λ e. refl;
  mark = λ e. absurd (omega arith);
  deletion = λ e. absurd (omega arith);
}

set_ids : (q : ℕ) → q ≤ 100000 → All IsId (set_in q)
set_ids q few =
    let is : (j : ℕ) → IsId (id (3 * q + 2) j) = λ j. id_is (3 * q + 2) j (omega arith) (omega arith) in
    All-cons IsId (id (3 * q + 2) 0) (id (3 * q + 2) 1 ∷ id (3 * q + 2) 2 ∷ []) (is 0) (All-cons IsId (id (3 * q + 2) 1) (id (3 * q + 2) 2 ∷ []) (is 1) (one_id (id (3 * q + 2) 2) (is 2)))

itself : (n : ℕ) → nat_cmp n n ≡ Equal
itself n = tied_itself nat_cmp_total n

set_ascends : (q : ℕ) → Ascends id_cmp (set_in q)
set_ascends q zero d h = rw (itself (3 * q + 2)) refl
set_ascends q (suc zero) d h = rw (itself (3 * q + 2)) refl
set_ascends q (suc (suc k)) d h = absurd (omega arith)

record FinePreds (preds : List OpId) : Type 0 where
  pub ids : All IsId preds
  pub ascend : Ascends id_cmp preds
  pub few : length preds ≤ 3

fine_set : (q : ℕ) → q ≤ 100000 → FinePreds (set_in q)
fine_set q few = record { ids = set_ids q few; ascend = set_ascends q; few = omega arith }

preds_before : (r : ℕ) → 1 ≤ r → r ≤ 100000 → FinePreds (set_before r)
preds_before r some few = go (r == 1) ((r - 1) % 3 == 0)
  where
    go : (a b : Bool) → FinePreds (if a then [] else (if b then set_in (r - 2) else set_in (r - 1)))
    go true b = record { ids = no_id; ascend = none_ascend; few = omega arith }
    go false true = fine_set (r - 2) (omega arith)
    go false false = fine_set (r - 1) (omega arith)

fine_sets : (r : ℕ) → 1 ≤ r → r ≤ 100000 → FineOp (sets r)
fine_sets r some few =
    let before = preds_before r some few in record {
      action = omega arith;
      object = tt;
      key = text_one 107 (lit< tt);
      value = good_number r few;
      mark_name = tt;
      preds = before.ids;
      preds_ascend = before.ascend;
      insertion = λ e. cc;
      head = λ e. cc;
      mark = λ e. absurd (omega arith);
      deletion = λ e. absurd (omega arith);
    }

after_third : (r : ℕ) → 1 ≤ r → (r % 3 == 0) ≡ true → 1 ≤ 3 * r - 3
after_third zero some third = absurd (omega arith)
after_third (suc zero) some third = cc
after_third (suc (suc r)) some third = omega arith

fine_deletes : (r j : ℕ) → 1 ≤ 3 * r - 3 → r ≤ 100000 → FineOp (deletes r j)
fine_deletes r j some few =
    let is = id_is (3 * r - 3) j some (omega arith) in record {
      action = omega arith;
      object = id_is 1 0 (omega arith) (omega arith);
      key = is;
      value = good_nothing;
      mark_name = tt;
      preds = one_id (last r j) is;
      preds_ascend = one_ascends (last r j);
      insertion = λ e. cc;
      head = λ e. cc;
      mark = λ e. absurd (omega arith);
      deletion = λ e. record { preds = omega arith; value = refl; insert = refl; expand = refl; mark = refl };
    }

record FineEnd (x : Op) : Type 0 where
  pub fine : FineOp x
  pub few : length x.preds ≤ 3

fine_ends : (r j : ℕ) → 1 ≤ r → r ≤ 100000 → FineEnd (ends r j)
fine_ends r j some few = go (r % 3 == 0) refl
  where
    go : (b : Bool) → (r % 3 == 0) ≡ b → FineEnd (if b then deletes r j else sets r)
    go true e = record { fine = fine_deletes r j (after_third r some e) few; few = omega arith }
    go false e = record { fine = fine_sets r some few; few = (preds_before r some few).few }

-- ---- changes

record GoodSeq (seq : ℕ) : Type 0 where
  pub low : 1 ≤ seq
  pub high : seq < 2 ^ 53

seq_is : (r : ℕ) → 1 ≤ r → r ≤ 100000 → (b : Bool) → GoodSeq (if b then r + 1 else r)
seq_is r some few true = record { low = omega arith; high = omega arith }
seq_is r some few false = record { low = omega arith; high = omega arith }

pub fine_first : Fine first
fine_first = record {
  deps = All-nil IsHash;
  deps_ascend = λ k d h. absurd (omega arith);
  few_deps = omega arith;
  actor = actor_is 0;
  numbers = record { seq = (omega arith, omega arith); start = omega arith; few_ops = omega arith; max = omega arith; time = (search rules, search rules) };
  message = ([], (refl, refl));
  extra = no_bytes;
  short_extra = omega arith;
  few_preds = omega arith;
  ops = All-cons FineOp makes_text (sets_counter ∷ []) fine_makes_text (All-cons FineOp sets_counter [] fine_sets_counter (All-nil FineOp));
}

pub fine_in_round : (r j : ℕ) (deps : List Hash) → 1 ≤ r → r ≤ 100000 → All IsHash deps → Ascends hash_cmp deps → length deps ≤ 3 → Fine (in_round r j deps)
fine_in_round r j deps some few are ascend short =
    let seq = seq_is r some few (j == 0) in
    let end = fine_ends r j some few in record {
      deps = are;
      deps_ascend = ascend;
      few_deps = omega arith;
      actor = actor_is j;
      numbers = record { seq = (seq.low, seq.high); start = omega arith; few_ops = omega arith; max = omega arith; time = (search rules, search rules) };
      message = ([], (refl, refl));
      extra = no_bytes;
      short_extra = omega arith;
      few_preds = (let l = end.few in omega arith);
      ops = All-cons FineOp (inserts r j) (counts ∷ ends r j ∷ []) (fine_inserts r j some few) (All-cons FineOp counts (ends r j ∷ []) fine_counts (All-cons FineOp (ends r j) [] end.fine (All-nil FineOp)));
    }
