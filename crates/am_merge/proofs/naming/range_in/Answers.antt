use Rattle.std.proofs.Common.{rules}
use Rattle.std.specs.Ordering.{is_le, is_lt}
use Rattle.std.proofs.lemmas.List.Sorted.{IsPartitionPoint-from_clause}
use Rattle.am_types.specs.Views.{id_of, object_of}
use Rattle.am_merge.specs.Naming.{key_cmp, named_key, named_of}
use Rattle.am_merge.specs.declared.naming.Naming.{Naming}
use Rattle.am_merge.proofs.Ranges.{at_end, lt_le, parted_less, parted_up_to, range}
use Rattle.am_merge.proofs.naming.range_in.Goals as goal

pub returns-clause-named : goal.returns-clause-named
returns-clause-named c xs e =
    let o = object_of c.args.obj in
    let i = id_of c.args.id in
    let table = c.args.table.now in
    let first = c.partition_point-first.result in
    let last = c.end_from-last.result in
    let parted = parted_less named_of (o, i) table xs e in
    let less = IsPartitionPoint-from_clause (λ (n : Naming). is_lt (key_cmp (named_key (named_of n)) (o, i))) table first
    c.partition_point-first.ensures.partitioned parted (λ a r q k. search rules) in
    let up_to = at_end (λ (n : Naming). is_le (key_cmp (named_key (named_of n)) (o, i))) table last (parted_up_to named_of (o, i) table xs e)
    (λ n. is_lt (key_cmp (named_key (named_of n)) (o, i))) first (λ n. lt_le (key_cmp (named_key (named_of n)) (o, i))) less c.end_from-last.ensures.within c.end_from-last.ensures.behind in
    (range named_of o i table xs first last c.partition_point-first.ensures.bound c.end_from-last.ensures.bound e less up_to).1
