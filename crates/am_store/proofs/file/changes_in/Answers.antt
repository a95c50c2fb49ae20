use Rattle.std.proofs.Common.{rules, ℕ, List, [], ◌∷◌, false, length, ◌≡◌, ◌==◌, ◌<◌, ◌+◌, subst, sym, refl, arith}
use Rattle.std.proofs.lemmas.Bool.Decides.{nat_tests}
use Rattle.am_store.specs.Files.{FirstBad}
use Rattle.am_store.specs.Reading.{HasRead}
use Rattle.am_store.proofs.ReadSteps.{match_weaker, nothing_read, read_more, first_bad}
use Rattle.am_store.proofs.file.changes_in.Goals as goal

pub chunks-init : goal.chunks-init
chunks-init c = record {
  read = subst (λ ps. HasRead c.args.only_changes c.args.bytes.now c.args.bytes.now ps 1) (search rules) (nothing_read c.args.only_changes c.args.bytes.now);
  few = omega arith;
}

pub chunks-preserved : goal.chunks-preserved
chunks-preserved c =
    let at = c.chunks in
    let shorter = c.in-Ok.ensures.shorter in
    let few = at.invariant.few in
    record {
      read = read_more c.args.only_changes c.args.bytes.now at.rest.now c.in-Ok.behind.now at.changes c.read_chunk.new.changes at.number (at.number + 1) at.invariant.read c.in-Ok.ensures.ok refl;
      few = omega arith;
    }

some_left : (xs : List ℕ) → false ≡ (length xs == 0) → 0 < length xs
some_left [] e = absurd (grind (arith, nat_tests))
some_left (x ∷ xs) e = omega arith

pub returns-in-Err-clause-load : goal.returns-in-Err-clause-load
returns-in-Err-clause-load c =
    match_weaker c.refused.result _ _
    (λ e h. subst (λ k. FirstBad c.args.only_changes c.args.bytes.now k e.fault) (sym h.0) (first_bad c.args.only_changes c.args.bytes.now c.chunks.rest.now c.chunks.changes c.chunks.number e.fault c.chunks.invariant.read (some_left c.chunks.rest.now c.chunks-test.ensures) h.1))
    (c.refused.ensures c.args.only_changes c.chunks.rest.now c.in-Err.ensures.bad)
