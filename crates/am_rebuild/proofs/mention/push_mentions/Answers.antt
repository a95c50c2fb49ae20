use Rattle.std.proofs.Common.{map, ap, ◌∙◌}
use Rattle.am_types.specs.declared.Row.{Row}
use Rattle.am_types.specs.Views.{id_of}
use Rattle.am_rebuild.specs.Mentions.{mention_of}
use Rattle.am_rebuild.specs.Names.{names_of}
use Rattle.am_rebuild.proofs.Known.{named_succ, mention_more}
use Rattle.am_rebuild.proofs.mention.push_mentions.Goals as goal

pub push_named-requires-in-loop-succ-clause-named : goal.push_named-requires-in-loop-succ-clause-named
push_named-requires-in-loop-succ-clause-named c =
    named_succ (names_of c.args.names.now) c.args.row.now.succs c.as_slice-succ-items.result.now c.loop-succ.succ-index _ (ap (map id_of) c.as_slice-succ-items.ensures.value ∙ ap (λ (r : Row). r.succs) c.row.view_is) c.requires.succs
    c.loop-succ-test.true

pub loop-succ-preserved : goal.loop-succ-preserved
loop-succ-preserved c = record {
  is = mention_more c.args.row.now (map mention_of c.push_named.new.all.items) (map mention_of c.loop-succ.all.items) (map mention_of c.push_named-in-loop-succ.new.all.items) c.as_slice-succ-items.result.now c.loop-succ.succ-index _
      c.loop-succ-test.true c.loop-succ.invariant.is c.in_ok-push_named-2.ensures.is;
  placed = λ p. c.in_ok-push_named-2.ensures.placed (c.loop-succ.invariant.placed p);
}
