-- What the rows of a valid set show at a clock is the replay of the ancestors.
use Rattle.std.proofs.Common.{sym, ap, ◌∙◌}
use Rattle.am_types.specs.Operations.{all_operations}
use Rattle.am_types.specs.Members.{changes}
use Rattle.am_types.specs.Ancestors.{ancestors}
use Rattle.am_types.specs.Replay.{replay}
use Rattle.am_types.specs.Clocks.{covers}
use Rattle.am_laws.proofs.Covered.{anchored, operations_part}
use Rattle.am_laws.proofs.ValidSetLaws.{grounds_valid}
use Rattle.am_view.specs.Laws as law
use Rattle.am_view.proofs.Showing.{shown_is}
use Rattle.am_view.proofs.Named.{orderly}

pub reads_by_rows : law.ReadsByRows
reads_by_rows C v hs =
    let g = grounds_valid C v in
    shown_is (covers (ancestors C hs)) (all_operations (changes C)) (orderly C v) (anchored C g hs) ∙ ap replay (sym (operations_part C g hs))
