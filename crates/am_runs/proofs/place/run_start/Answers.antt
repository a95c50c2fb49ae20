use mir.Val.{to_z, of_z}
use Rattle.std.proofs.Common.{◌≡◌, pos, sym, ap, ◌∙◌, w64}
use Rattle.std.proofs.lemmas.Int.{to_z-of_z}
use Rattle.am_runs.proofs.RunStarts.{behind_number, read_start, nulls_start, repeat_start, literal_start}
use Rattle.am_runs.proofs.place.run_start.Goals as goal

pub returns-then-n-eq0 : goal.returns-then-n-eq0
returns-then-n-eq0 g c =
    let end = g.K.Item.end_of in
    let n = c.in-Ok.n in
    let tail = behind_number c.args.bytes.now c.in-Ok.len in
    let none : n ≡ pos 0 = sym (to_z-of_z w64 n c.in-Ok.ensures.found.0) ∙ ap (to_z w64) c.if-n-eq0.true in
    read_start end c.args.bytes.now _ n c.in-Ok.len _ c.read_i.ensures.exact c.in-Ok.is
    (nulls_start end tail n _ none c.open_null_run.ensures)

pub returns-then-n-gt0 : goal.returns-then-n-gt0
returns-then-n-gt0 g c =
    let end = g.K.Item.end_of in
    let n = c.in-Ok.n in
    let tail = behind_number c.args.bytes.now c.in-Ok.len in
    let same : to_z w64 (of_z w64 n) ≡ n = to_z-of_z w64 n c.in-Ok.ensures.found.0 in
    read_start end c.args.bytes.now _ n c.in-Ok.len _ c.read_i.ensures.exact c.in-Ok.is
    (repeat_start end tail n (to_z w64 (of_z w64 n)) _ same c.if-n-gt0.true c.open_repeat_run.ensures)

pub returns-else-n-gt0 : goal.returns-else-n-gt0
returns-else-n-gt0 g c =
    let end = g.K.Item.end_of in
    let n = c.in-Ok.n in
    let tail = behind_number c.args.bytes.now c.in-Ok.len in
    let same : to_z w64 (of_z w64 n) ≡ n = to_z-of_z w64 n c.in-Ok.ensures.found.0 in
    read_start end c.args.bytes.now _ n c.in-Ok.len _ c.read_i.ensures.exact c.in-Ok.is
    (literal_start end tail n (to_z w64 (of_z w64 n)) c.unsigned_abs.result same (λ none. c.if-n-eq0.false (ap (of_z w64) none)) c.if-n-gt0.false c.unsigned_abs.ensures.value)
