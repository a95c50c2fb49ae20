use Rattle.std.proofs.Common.{◌≡◌, ◌∙◌, false, sym}
use Rattle.am_view.specs.Reads.{is_counter_row}
use Rattle.am_view.specs.Seen.{seen_by}
use Rattle.am_view.proofs.Scanned.{not_is, some_of, any_seen, removed}
use Rattle.am_view.proofs.tally.is_hidden.Goals as goal

pub returns-clause-hidden : goal.returns-clause-hidden
returns-clause-hidden c = λ plain row rest act val count.
    let see = seen_by c.args.clock.now in
    let other : is_counter_row row ≡ false = sym (c.is_counter.ensures row act val) ∙ not_is c.is_counter.result plain in
    removed see row rest other (any_seen see row.succs (c.is_everything.ensures c.if-not-is_everything.false) (some_of _ c.args.count count c.if-count-eq0.false))
