use Rattle.std.proofs.lemmas.List.Sorted.{All-permutation}
use Rattle.am_rebuild.specs.Mentions.{IsPlaced}
use Rattle.am_rebuild.specs.Names.{names_of}
use Rattle.am_rebuild.proofs.Placed.{sorted_from, stable_from}
use Rattle.am_rebuild.proofs.mention.sorted_mentions.Goals as goal

pub returns-clause-are : goal.returns-clause-are
returns-clause-are c =
    let names = names_of c.args.names.now in
    let old = c.in_ok-all.all.items in
    let new = c.sort_mentions.new.all.items in
    let moved = c.in_ok-sort_mentions.ensures.permutation in
    record {
      sorted = sorted_from names c.requires.sorted new (All-permutation (IsPlaced names) old new moved c.in_ok-all.ensures.placed) c.in_ok-sort_mentions.ensures.sorted;
      unsorted = old;
      are = c.in_ok-all.ensures.is;
      moved = moved;
      stable = stable_from names c.requires.sorted old new c.in_ok-all.ensures.placed moved c.in_ok-sort_mentions.ensures.stable;
    }

pub returns-clause-placed : goal.returns-clause-placed
returns-clause-placed c = record {
  ascend = c.requires.sorted;
  placed = All-permutation (IsPlaced (names_of c.args.names.now)) c.in_ok-all.all.items c.sort_mentions.new.all.items c.in_ok-sort_mentions.ensures.permutation c.in_ok-all.ensures.placed;
  sorted = c.in_ok-sort_mentions.ensures.sorted;
}
