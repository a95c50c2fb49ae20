use Rattle.std.proofs.lemmas.Grind.{common_steps}
use Rattle.am_runs.proofs.Entries.{length-entries}
use Rattle.std.proofs.Common.{List, ℕ, ◌∷◌, length, refl, arith, ◌≡◌, []}
use Rattle.am_runs.proofs.RunsRead.{too_long, one_run_more, shorter, all_read}
use Rattle.am_runs.proofs.cursor.RunCursor.over.Goals as goal

pub returns-in-None-clause-err : goal.returns-in-None-clause-err
returns-in-None-clause-err g c = too_long _ g.met.K.Item.reads _ _ _ _ c.loop-rest.invariant.0 c.loop-rest.invariant.1 (grind (arith, common_steps)) c.in-None.ensures.none

pub loop-rest-smaller : goal.loop-rest-smaller
loop-rest-smaller g c = shorter _ _ _ _ c.in-Some.ensures.found.1

pub loop-rest-preserved : goal.loop-rest-preserved
loop-rest-preserved g c = (one_run_more _ _ _ _ _ _ c.loop-rest.invariant.0 c.in-Some.ensures.found.1, omega (arith, c.in-Some.ensures.found.0))

nothing_left : (rest : List ℕ) → length rest ≡ 0 → rest ≡ []
nothing_left [] e = refl
nothing_left (x ∷ rest) e = absurd (omega arith)

pub invariant_of-result : goal.invariant_of-result
invariant_of-result g c = (all_read _ g.met.K.Item.reads _ c.loop-rest.rest.now _ c.loop-rest.invariant.0 (nothing_left _ (grind (arith, common_steps)))).1

pub returns-clause-ok : goal.returns-clause-ok
returns-clause-ok g c =
    let w = all_read _ g.met.K.Item.reads _ c.loop-rest.rest.now _ c.loop-rest.invariant.0 (nothing_left _ (grind (arith, common_steps))) in
    (w.0, omega (arith, length-entries _ _ _ w.1))
