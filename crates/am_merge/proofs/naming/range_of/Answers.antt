use Rattle.std.proofs.Common.{arith}
use Rattle.std.specs.Ordering.{is_le, is_lt}
use Rattle.am_types.specs.Views.{id_of, object_of}
use Rattle.am_merge.specs.Naming.{key_cmp, named_key, named_of}
use Rattle.am_merge.specs.declared.naming.Naming.{Naming}
use Rattle.am_merge.proofs.Ranges.{at_end, at_seam, lt_le, parted_less, parted_up_to, range, within_first}
use Rattle.am_merge.proofs.naming.range_of.Goals as goal

pub returns-then-is_there-clause-named : goal.returns-then-is_there-clause-named
returns-then-is_there-clause-named c xs e =
    let o = object_of c.args.obj in
    let i = id_of c.args.id in
    let table = c.args.table.now in
    let first = c.in-Some.first in
    let last = c.end_from-last.result in
    let less = at_seam (λ (n : Naming). is_lt (key_cmp (named_key (named_of n)) (o, i))) table first (parted_less named_of (o, i) table xs e) c.in-Some.ensures.seam in
    let up_to = at_end (λ (n : Naming). is_le (key_cmp (named_key (named_of n)) (o, i))) table last (parted_up_to named_of (o, i) table xs e)
    (λ n. is_lt (key_cmp (named_key (named_of n)) (o, i))) first (λ n. lt_le (key_cmp (named_key (named_of n)) (o, i))) less
    (within_first (λ (n : Naming). is_le (key_cmp (named_key (named_of n)) (o, i))) table first last (c.in-Some.ensures.there c.if-is_there.true) c.end_from-last.ensures.within) c.end_from-last.ensures.behind in
    (range named_of o i table xs first last c.in-Some.ensures.seam.0 c.end_from-last.ensures.bound e less up_to).1

pub returns-clause-named : goal.returns-clause-named
returns-clause-named c xs e =
    let o = object_of c.args.obj in
    let i = id_of c.args.id in
    let table = c.args.table.now in
    let first = c.in-Some.first in
    let less = at_seam (λ (n : Naming). is_lt (key_cmp (named_key (named_of n)) (o, i))) table first (parted_less named_of (o, i) table xs e) c.in-Some.ensures.seam in
    let up_to = at_end (λ (n : Naming). is_le (key_cmp (named_key (named_of n)) (o, i))) table first (parted_up_to named_of (o, i) table xs e)
    (λ n. is_lt (key_cmp (named_key (named_of n)) (o, i))) first (λ n. lt_le (key_cmp (named_key (named_of n)) (o, i))) less (λ j d a b. absurd (omega (arith, a, b))) (c.in-Some.ensures.none c.if-is_there.false) in
    (range named_of o i table xs first first c.in-Some.ensures.seam.0 c.in-Some.ensures.seam.0 e less up_to).1
