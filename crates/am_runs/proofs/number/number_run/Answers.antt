use mir.Val.{to_z, of_z}
use Rattle.std.proofs.Common.{◌≡◌, pos, Some, sym, ap, ◌∙◌, w64}
use Rattle.std.proofs.lemmas.Int.{to_z-of_z}
use Rattle.am_runs.specs.Positions.{place_of}
use Rattle.am_runs.proofs.RunStarts.{behind_number, read_start, nulls_start, repeat_start, literal_start}
use Rattle.am_runs.proofs.number.number_run.Goals as goal

pub returns-in-Some-clause-place : goal.returns-in-Some-clause-place
returns-in-Some-clause-place g c =
    let bytes = c.args.bytes.now in
    let end = g.K.Number.end_of in
    let n = c.in-Ok.n in
    let tail = behind_number bytes c.in-Ok.len in
    let none : n ≡ pos 0 = sym (to_z-of_z w64 n c.in-Ok.ensures.found.0) ∙ ap (to_z w64) c.if-n-eq0.true in
    read_start end bytes _ n c.in-Ok.len (Some (place_of c.in-Some.at)) c.read_i.ensures.exact c.in-Ok.is
    (nulls_start end tail n (Some (place_of c.in-Some.at)) none c.in-Some.ensures)

pub returns-in-Some-repeat_run-clause-place : goal.returns-in-Some-repeat_run-clause-place
returns-in-Some-repeat_run-clause-place g c =
    let bytes = c.args.bytes.now in
    let end = g.K.Number.end_of in
    let n = c.in-Ok.n in
    let tail = behind_number bytes c.in-Ok.len in
    let same : to_z w64 (of_z w64 n) ≡ n = to_z-of_z w64 n c.in-Ok.ensures.found.0 in
    read_start end bytes _ n c.in-Ok.len (Some (place_of c.in-Some-repeat_run.at)) c.read_i.ensures.exact c.in-Ok.is
    (repeat_start end tail n (to_z w64 (of_z w64 n)) (Some (place_of c.in-Some-repeat_run.at)) same c.if-n-gt0.true c.in-Some-repeat_run.ensures.place)

pub returns-else-n-gt0-clause-place : goal.returns-else-n-gt0-clause-place
returns-else-n-gt0-clause-place g c =
    let bytes = c.args.bytes.now in
    let end = g.K.Number.end_of in
    let n = c.in-Ok.n in
    let tail = behind_number bytes c.in-Ok.len in
    let same : to_z w64 (of_z w64 n) ≡ n = to_z-of_z w64 n c.in-Ok.ensures.found.0 in
    read_start end bytes _ n c.in-Ok.len _ c.read_i.ensures.exact c.in-Ok.is
    (literal_start end tail n (to_z w64 (of_z w64 n)) c.unsigned_abs.result same (λ none. c.if-n-eq0.false (ap (of_z w64) none)) c.if-n-gt0.false c.unsigned_abs.ensures.value)
