-- The changes of the tests may come, and what their deliveries leave.
use Rattle.std.proofs.Common.{ℕ, ◌≡◌, ◌<◌, ◌≤◌, ◌^◌, List, [], length, Option, None, refl, sym, ◌∙◌, subst, All, arith, rules}
use Rattle.std.proofs.lemmas.List.Elements.{All-nil}
use Rattle.std.proofs.lemmas.List.Sorted.{IsPermutation-refl}
use Rattle.am_types.specs.declared.Hash.{Hash}
use Rattle.am_types.specs.Bytes.{IsHash}
use Rattle.am_types.specs.Actors.{IsActor}
use Rattle.am_types.specs.Fine.{Fine, FineOp}
use Rattle.am_types.specs.Members.{Member}
use Rattle.am_types.specs.Deliver.{AreStored}
use Rattle.am_history_tests.specs.DeliverySamples.{sample, Kept}
use Rattle.am_delivery.specs.Waiting.{IsTracked}
use Rattle.am_delivery.specs.declared.Pending.{Pending}

pub fine_sample : (actor : List ℕ) (seq : ℕ) (deps : List Hash) → IsActor actor → 1 ≤ seq → seq < 10 → All IsHash deps → length deps ≤ 1 → Fine (sample actor seq deps)
fine_sample actor seq deps is some low hashes one = record {
  deps = hashes;
  deps_ascend = λ k d h. absurd (omega arith);
  few_deps = omega arith;
  actor = is;
  numbers = record { seq = (omega arith, omega arith); start = omega arith; few_ops = omega arith; max = omega arith; time = (search rules, search rules) };
  message = ([], (refl, refl));
  extra = All-nil (λ b. b < 2 ^ 8);
  short_extra = omega arith;
  few_preds = omega arith;
  ops = All-nil FineOp;
}

nothing_stored : AreStored [] []
nothing_stored = record {
  valid = record { listing = []; same = IsPermutation-refl []; in_turn = tt };
  waiting = λ k d lt. absurd (omega arith);
  hashes = λ i j d lt less. absurd (omega arith);
  settled = refl;
}

pub kept_nothing : (C B W : List Member) (pending : Option Pending) → C ≡ [] → B ≡ [] → W ≡ [] → pending ≡ None → Kept C B W pending
kept_nothing C B W pending c b w none = record {
  rest = c ∙ sym b;
  stored = subst (λ D. AreStored D W) (sym c) (subst (AreStored []) (sym w) nothing_stored);
  tracked = subst (IsTracked C W) (sym none) tt;
}
