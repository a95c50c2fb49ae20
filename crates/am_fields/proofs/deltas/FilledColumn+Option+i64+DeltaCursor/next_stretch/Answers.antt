use Rattle.std.proofs.Common.{◌≡◌, ◌≤◌, None, arith, length, sym, ap, ◌∙◌}
use Rattle.std.proofs.lemmas.Grind.{common_steps}
use Rattle.am_delta.specs.Deltas.{stretch}
use Rattle.am_delta.proofs.Steps.{length-stretch}
use Rattle.am_fields.proofs.Filled.{filled_piece, full_past, blanks_part, full_none, length-filled}
use Rattle.am_fields.proofs.deltas.FilledColumn+Option+i64+DeltaCursor.next_stretch.Goals as goal

pub overflow_sub-self : goal.overflow_sub-self
overflow_sub-self c =
    let s = c.in-Some in
    let next = s.ensures.next in
    (full_past c.self.inside.left s.count (stretch s.first s.difference s.count) c.self.inside.cursor _ c.self.invariant next.0 (length-stretch s.first s.difference s.count next.0) next.3).0

pub invariant_of-self : goal.invariant_of-self
invariant_of-self c =
    let s = c.in-Some in
    let next = s.ensures.next in
    (full_past c.self.inside.left s.count (stretch s.first s.difference s.count) c.self.inside.cursor _ c.self.invariant next.0 (length-stretch s.first s.difference s.count next.0) next.3).1

pub returns-in-Some-clause-next : goal.returns-in-Some-clause-next
returns-in-Some-clause-next c =
    let s = c.in-Some in
    let next = s.ensures.next in
    sym c.self.view_is ∙ filled_piece None c.self.inside.left s.count (stretch s.first s.difference s.count) c.self.inside.cursor _ c.self.invariant next.0 (length-stretch s.first s.difference s.count next.0) next.3

pub invariant_of-self-in-None : goal.invariant_of-self-in-None
invariant_of-self-in-None c = full_none _ _ c.in-None.ensures.end.1

pub returns-in-None-clause-some : goal.returns-in-None-clause-some
returns-in-None-clause-some c =
    let whole : length c.args.self.now ≡ c.self.inside.left = ap length (sym c.self.view_is) ∙ length-filled None c.self.inside.left c.self.inside.cursor c.self.invariant in
    grind (arith, common_steps)

pub returns-in-None-clause-next : goal.returns-in-None-clause-next
returns-in-None-clause-next c =
    let few : c.min-count.result ≤ c.self.inside.left = grind (arith, common_steps) in
    sym c.self.view_is ∙ blanks_part None c.self.inside.left c.min-count.result c.self.inside.cursor _ c.in-None.ensures.end.0 c.in-None.ensures.end.1 few
