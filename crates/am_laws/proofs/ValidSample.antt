-- A set of one change is valid: the conditions of a valid set can be met.
use Rattle.std.proofs.Common.{ℕ, ◌≡◌, ◌<◌, ◌^◌, true, List, [], ◌∷◌, nat_lt, refl, arith, rules}
use Rattle.std.specs.List.{list_all}
use Rattle.std.proofs.lemmas.Bool.{ltb-true}
use Rattle.std.proofs.lemmas.List.Elements.{All-nil, All-cons, All-weaker}
use Rattle.std.proofs.lemmas.List.Sums.{AllPass-from_list_all}
use Rattle.std.proofs.lemmas.List.Sorted.{IsPermutation-refl}
use Rattle.am_types.specs.Bytes.{IsBytes, IsHash}
use Rattle.am_types.specs.Actors.{IsActor}
use Rattle.am_types.specs.Actions as actions
use Rattle.am_laws.specs.Records.{Op, Root}
use Rattle.am_types.specs.Numbers.{unsigned_of}
use Rattle.am_types.specs.Values.{Good}
use Rattle.am_types.specs.Fine.{Fine, FineOp, IsId}
use Rattle.am_types.specs.Ancestors.{ancestors}
use Rattle.am_types.specs.Verdicts.{verdict}
use Rattle.am_types.specs.ValidSets.{Valid}
use Rattle.am_laws.proofs.SampleHashes.{h_a1}
use Rattle.am_laws.proofs.Samples.{a1, aa, op, value, key_a}

-- a test tells that all are bytes
bytes_from : (bytes : List ℕ) → list_all (λ b. nat_lt b 256) bytes ≡ true → IsBytes bytes
bytes_from bytes t = All-weaker (λ b. nat_lt b 256 ≡ true) (λ b. b < 2 ^ 8) (λ b l. ltb-true b 256 l) bytes (AllPass-from_list_all (λ b. nat_lt b 256) bytes t)

hash_fits : IsHash h_a1
hash_fits = record { length = refl; bytes = bytes_from h_a1.0 refl }

aa_actor : IsActor aa
aa_actor = record { some = omega arith; few = omega arith; are_bytes = bytes_from aa refl }

one_good : Good (value 3 (1 ∷ []))
unfolding unsigned_of Rattle.am_leb.specs.Reading.first_unsigned Rattle.am_leb.specs.Leb.uleb Rattle.am_leb.specs.Leb.digits
one_good = record {
  kind = omega arith;
  short = omega arith;
  bytes = bytes_from (1 ∷ []) refl;
  empty = λ e. absurd (omega arith);
  unsigned = λ e. refl;
  signed = λ e. search rules;
  float = λ e. absurd (omega arith);
  text = λ e. absurd (omega arith);
}

abbrev one_op : Op
one_op = op Root key_a actions.set (value 3 (1 ∷ [])) []

one_fine : FineOp one_op
unfolding lib.Utf8.encode
one_fine = record {
  action = omega arith;
  object = tt;
  key = (0x61 ∷ [], (refl, refl));
  value = one_good;
  mark_name = tt;
  preds = All-nil IsId;
  preds_ascend = λ k d h. absurd (omega arith);
  insertion = λ e. cc;
  head = λ e. cc;
  mark = λ e. absurd (omega arith);
  deletion = λ e. absurd (omega arith);
}

fine_a1 : Fine a1.change
fine_a1 = record {
  deps = All-nil IsHash;
  deps_ascend = λ k d h. absurd (omega arith);
  few_deps = omega arith;
  actor = aa_actor;
  numbers = record { seq = (omega arith, omega arith); start = omega arith; few_ops = omega arith; max = omega arith; time = (search rules, search rules) };
  message = ([], (refl, refl));
  extra = All-nil (λ b. b < 2 ^ 8);
  short_extra = omega arith;
  few_preds = omega arith;
  ops = All-cons FineOp one_op [] one_fine (All-nil FineOp);
}

valid_a1 : Valid (a1 ∷ [])
unfolding verdict ancestors
valid_a1 = record {
  listing = a1 ∷ [];
  same = IsPermutation-refl (a1 ∷ []);
  in_turn = (record { hash = hash_fits; fresh = refl; deps = refl; fine = fine_a1; fits = refl }, tt);
}
