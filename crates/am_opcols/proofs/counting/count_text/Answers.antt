use Rattle.std.proofs.Common.{◌^◌, None, option_map, ap, ◌∙◌}
use Rattle.std.specs.Prelude.{not}
use Rattle.am_opcols.proofs.CountingLaws.{counts_more, counts_behind, less_than, room_behind, if_none_first, no_cell}
use Rattle.am_opcols.proofs.counting.count_text.Goals as goal

pub push_alike-requires : goal.push_alike-requires
push_alike-requires c = less_than c.args.writer.now c.args.nulls.now (2 ^ 32) c.requires.room

pub push-requires : goal.push-requires
push-requires c = room_behind c.args.writer.now _ None c.args.nulls.now (2 ^ 32) (if_none_first c.args.writer.now _ _ c.in_ok-push_alike.ensures.failed) c.in_ok-push_alike.ensures.ok c.requires.room

pub returns-then-is_none-clause-counts : goal.returns-then-is_none-clause-counts
returns-then-is_none-clause-counts c = λ xs h. counts_more xs c.args.writer.now None c.args.nulls.now (option_map (λ s. s.now) c.args.text) (no_cell (λ s. s.now) c.args.text (c.is_none.ensures ∙ ap not c.if-is_none.true)) h

pub returns-clause-counts : goal.returns-clause-counts
returns-clause-counts c = λ xs h. counts_behind xs c.args.writer.now _ _ None c.args.nulls.now (option_map (λ s. s.now) c.args.text) h c.in_ok-push_alike.ensures.ok c.in_ok-push.ensures.ok
