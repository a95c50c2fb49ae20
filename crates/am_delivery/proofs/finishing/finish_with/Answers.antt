use Rattle.std.proofs.Common.{Bor, map, ◌∙◌}
use Rattle.am_types.specs.declared.Change.{Change}
use Rattle.am_delivery.specs.Waiting.{waiting_of, taken_out}
use Rattle.am_delivery.proofs.AtRest.{are_changes, each_admitted, lent_some}
use Rattle.am_delivery.proofs.finishing.finish_with.Goals as goal

pub finish-requires : goal.finish-requires
finish-requires g c =
    let w = c.args.waiting.now in
    let hs = c.requires.joined.0 in
    let list = c.args.lent.now in
    record {
      joined = (
        taken_out hs (waiting_of w),
        c.requires.joined.1,
        are_changes w c.len-count.ensures.ordered hs c.requires.joined.2 (map (λ (x : Bor Change). x.now) list) (lent_some list ∙ c.requires.joined.3),
        each_admitted w c.len-count.ensures.ordered hs c.requires.joined.2 g.S.Closed.admits c.requires.admitted,
      );
    }
