use Rattle.std.proofs.Common.{subst, arith}
use Rattle.std.specs.Prelude.{replicate}
use Rattle.std.specs.Option.{option_copied}
use Rattle.std.proofs.lemmas.List.{length-replicate}
use Rattle.am_runs.specs.Typed.{AllItems}
use Rattle.am_runs.proofs.Neighbours.{took_more}
use Rattle.am_runs.proofs.Parts.{all_behind}
use Rattle.am_runs.proofs.Taken.{first_item}
use Rattle.am_runs.proofs.writer.RunWriter.take_some.Goals as goal

pub push_alike-requires-clause-item : goal.push_alike-requires-clause-item
push_alike-requires-clause-item g c =
    let end = g.K.Item.end_of in
    let took = c.in_ok-k.ensures.ok in
    let next = c.in-Some.ensures.next in
    first_item end c.in-Some.more (option_copied c.in-Some.entry) _ (omega (arith, next.0))
    (subst (AllItems end) next.2 (all_behind _ took.0 _ (subst (AllItems end) took.2 c.requires.items)).1)

pub returns-in_ok-push_alike-in-Some-clause-ok : goal.returns-in_ok-push_alike-in-Some-clause-ok
returns-in_ok-push_alike-in-Some-clause-ok g c =
    let x = option_copied c.in-Some.entry in
    took_more c.in_ok-k.k c.in-Some.more _ _ _ (replicate c.in-Some.more x) _ _ _ c.in_ok-k.ensures.ok (length-replicate c.in-Some.more x) c.in-Some.ensures.next.2 c.in_ok-push_alike-in-Some.ensures.ok
