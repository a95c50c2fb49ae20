use Rattle.std.proofs.Common.{◌≡◌, ◌≤◌, ◌-◌, true, refl, arith}
use Rattle.std.proofs.lemmas.Grind.{common_steps}
use Rattle.am_types.specs.Views.{id_of}
use Rattle.am_view.specs.Seen.{seen_by}
use Rattle.am_view.proofs.LetterRows.{all_covered, rising_covered}
use Rattle.am_view.proofs.asked.Asked.covered.Goals as goal
use Rattle.am_view.proofs.asked.Asked.covered.Goals.{in-None, in-Some}

pub returns-clause-covered : goal.returns-clause-covered
returns-clause-covered c = elim c.match-self.branch [
  | in-None w ↦ all_covered (λ i. seen_by c.args.self.now i ≡ true) _ (λ id. rw (← c.self.view_is, w.in-None.is) refl)
  | in-Some w ↦
      let few : w.min.result ≤ w.end_known-end.result - c.args.id.counter = grind (arith, common_steps) in
      let all = rising_covered w.in-Some.clock.now w.min.result (id_of c.args.id) w.end_known-end.result w.end_known-end.ensures few in
      rw (w.result-is, ← c.self.view_is, w.in-Some.is) all
]
