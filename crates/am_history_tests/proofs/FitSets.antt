-- The changes of the tests are fine, and the first of them is a valid set.
use Rattle.std.proofs.Common.{ℕ, ◌≡◌, ◌<◌, ◌≤◌, ◌^◌, true, List, [], ◌∷◌, length, nat_lt, refl, sym, subst, All, arith, rules}
use Rattle.std.specs.List.{list_all}
use Rattle.std.proofs.lemmas.Bool.{ltb-true}
use Rattle.std.proofs.lemmas.List.Elements.{All-nil, All-cons, All-weaker}
use Rattle.std.proofs.lemmas.List.Sums.{AllPass-from_list_all}
use Rattle.std.proofs.lemmas.List.Sorted.{IsPermutation-refl}
use Rattle.am_types.specs.Bytes.{IsBytes, IsHash}
use Rattle.am_types.specs.Actors.{IsActor}
use Rattle.am_types.specs.declared.OpId.{OpId}
use Rattle.am_types.specs.declared.Hash.{Hash}
use Rattle.am_types.specs.declared.Change.{Change}
use Rattle.am_graph.specs.declared.Node.{Node}
use Rattle.am_types.specs.Values.{Good}
use Rattle.am_types.specs.Fine.{Fine, FineOp, IsId}
use Rattle.am_types.specs.Ancestors.{ancestors}
use Rattle.am_types.specs.Verdicts.{verdict}
use Rattle.am_types.specs.ValidSets.{Valid}
use Rattle.am_fits.specs.Indexes.{Indexed, MayJoin, MayAdmit, index_of}
use Rattle.am_history_tests.specs.FitSamples.{aa, set_a, sample, sevens, first}
use Rattle.am_graph.specs.Graphs.{nodes}

-- a test tells that all are bytes
bytes_from : (bytes : List ℕ) → list_all (λ b. nat_lt b 256) bytes ≡ true → IsBytes bytes
bytes_from bytes t = All-weaker (λ b. nat_lt b 256 ≡ true) (λ b. b < 2 ^ 8) (λ b l. ltb-true b 256 l) bytes (AllPass-from_list_all (λ b. nat_lt b 256) bytes t)

aa_actor : IsActor aa
aa_actor = record { some = omega arith; few = omega arith; are_bytes = bytes_from aa refl }

sevens_hash : IsHash sevens
sevens_hash = record { length = refl; bytes = bytes_from sevens.0 refl }

null_good : Good (record { kind = 0; raw = [] })
null_good = record {
  kind = omega arith;
  short = omega arith;
  bytes = bytes_from [] refl;
  empty = λ e. refl;
  unsigned = λ e. absurd (omega arith);
  signed = λ e. search rules;
  float = λ e. absurd (omega arith);
  text = λ e. absurd (omega arith);
}

op_fine : (preds : List OpId) → All IsId preds → length preds ≤ 1 → FineOp (set_a preds)
unfolding lib.Utf8.encode
op_fine preds ids few = record {
  action = omega arith;
  object = tt;
  key = (0x61 ∷ [], (refl, refl));
  value = null_good;
  mark_name = tt;
  preds = ids;
  preds_ascend = λ k d h. absurd (omega arith);
  insertion = λ e. cc;
  head = λ e. cc;
  mark = λ e. absurd (omega arith);
  deletion = λ e. absurd (omega arith);
}

fine_sample : (seq start : ℕ) (deps : List Hash) (preds : List OpId) → 1 ≤ seq → seq < 10 → 1 ≤ start → start < 10 → All IsHash deps → length deps ≤ 1 → All IsId preds → length preds ≤ 1 → Fine (sample seq start deps preds)
fine_sample seq start deps preds some_seq low_seq some_start low_start hashes one_dep ids one_pred = record {
  deps = hashes;
  deps_ascend = λ k d h. absurd (omega arith);
  few_deps = omega arith;
  actor = aa_actor;
  numbers = record { seq = (omega arith, omega arith); start = omega arith; few_ops = omega arith; max = omega arith; time = (search rules, search rules) };
  message = ([], (refl, refl));
  extra = All-nil (λ b. b < 2 ^ 8);
  short_extra = omega arith;
  few_preds = omega arith;
  ops = All-cons FineOp (set_a preds) [] (op_fine preds ids one_pred) (All-nil FineOp);
}

first_fine : Fine first.change
first_fine = fine_sample 1 1 [] [] (omega arith) (omega arith) (omega arith) (omega arith) (All-nil IsHash) (omega arith) (All-nil IsId) (omega arith)

pub first_valid : Valid (first ∷ [])
unfolding verdict ancestors
first_valid = record {
  listing = first ∷ [];
  same = IsPermutation-refl (first ∷ []);
  in_turn = (record { hash = sevens_hash; fresh = refl; deps = refl; fine = first_fine; fits = refl }, tt);
}

pub first_may_be_admitted : MayAdmit (index_of []) first.change
first_may_be_admitted = record { set = []; of_set = refl; valid = record { set = first ∷ []; are = refl; valid = first_valid } }

-- a change like those of the tests may be judged beside the first
pub sample_may_join : (seq start pred : ℕ) → 1 ≤ seq → seq < 10 → 1 ≤ start → start < 10 → 1 ≤ pred → pred < 10
    → MayJoin (nodes (first ∷ [])) (index_of (first.change ∷ [])) (sample seq start (sevens ∷ []) (record { counter = pred; actor = aa } ∷ []))
sample_may_join seq start pred some_seq low_seq some_start low_start some_pred low_pred = record {
  set = first ∷ [];
  of_set = record { graph = refl; index = refl };
  valid = first_valid;
  deps = refl;
  fine = fine_sample seq start (sevens ∷ []) (record { counter = pred; actor = aa } ∷ []) some_seq low_seq some_start low_start
      (All-cons IsHash sevens [] sevens_hash (All-nil IsHash)) (omega arith)
      (All-cons IsId (record { counter = pred; actor = aa }) [] (record { low = some_pred; high = omega arith; actor = aa_actor }) (All-nil IsId)) (omega arith);
}

pub may_join : (g : List (Hash × Node)) (ix : Indexed) (c : Change) (seq start pred : ℕ) → g ≡ nodes (first ∷ []) → ix ≡ index_of (first.change ∷ []) → c ≡ sample seq start (sevens ∷ []) (record { counter = pred; actor = aa } ∷ [])
    → MayJoin (nodes (first ∷ [])) (index_of (first.change ∷ [])) (sample seq start (sevens ∷ []) (record { counter = pred; actor = aa } ∷ [])) → MayJoin g ix c
may_join g ix c seq start pred graph index change may = subst (λ x. MayJoin x ix c) (sym graph) (subst (λ x. MayJoin (nodes (first ∷ [])) x c) (sym index) (subst (MayJoin (nodes (first ∷ [])) (index_of (first.change ∷ []))) (sym change) may))

pub may_admit : (ix : Indexed) (c : Change) → ix ≡ index_of [] → c ≡ first.change → MayAdmit ix c
may_admit ix c index change = subst (λ x. MayAdmit x c) (sym index) (subst (MayAdmit (index_of [])) (sym change) first_may_be_admitted)
