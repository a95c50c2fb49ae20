use Rattle.std.proofs.Common.{map, ap, ◌∙◌}
use Rattle.std.proofs.lemmas.List.{take_all}
use Rattle.am_rebuild.specs.Mentions.{mention_of, row_mentions, mentions}
use Rattle.am_rebuild.specs.Names.{names_of}
use Rattle.am_rebuild.proofs.Known.{named_own, named_succs}
use Rattle.am_rebuild.proofs.Turns.{given_more}
use Rattle.am_rebuild.proofs.mention.mentioned.Goals as goal

pub push_mentions-requires-clause-own : goal.push_mentions-requires-clause-own
push_mentions-requires-clause-own c = named_own (names_of c.args.names.now) c.args.rows.now c.loop-row.row-index c.row-item.result c.requires c.loop-row-test.true c.row-item.is

pub push_mentions-requires-clause-succs : goal.push_mentions-requires-clause-succs
push_mentions-requires-clause-succs c = named_succs (names_of c.args.names.now) c.args.rows.now c.loop-row.row-index c.row-item.result c.requires c.loop-row-test.true c.row-item.is

pub loop-row-preserved : goal.loop-row-preserved
loop-row-preserved c = record {
  is = given_more row_mentions c.args.rows.now c.loop-row.row-index c.row-item.result (map mention_of c.loop-row.all.items) (map mention_of c.push_mentions.new.all.items) c.loop-row-test.true c.row-item.is c.loop-row.invariant.is
      c.in_ok-push_mentions.ensures.is;
  placed = c.in_ok-push_mentions.ensures.placed c.loop-row.invariant.placed;
}

pub returns-clause-is : goal.returns-clause-is
returns-clause-is c = c.loop-row.invariant.is ∙ ap mentions (take_all c.loop-row.row-index c.args.rows.now c.loop-row-test.false)

pub returns-clause-placed : goal.returns-clause-placed
returns-clause-placed c = c.loop-row.invariant.placed
