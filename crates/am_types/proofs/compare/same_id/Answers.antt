use Rattle.std.proofs.Common.{◌≡◌, Bool, sym, ap, ◌∙◌}
use Rattle.std.specs.Ordering.{nat_cmp, is_eq, ordering_then}
use Rattle.std.proofs.lemmas.Cmp.{tied_itself, nat_cmp_total}
use Rattle.std.proofs.lemmas.Map.Text.{is_eq-slice_cmp}
use Rattle.am_types.specs.Order.{bytes_cmp}
use Rattle.am_types.specs.Records.{OpId}
use Rattle.am_types.specs.Same.{same_bytes, same_id}
use Rattle.am_types.specs.Views.{id_of}
use Rattle.am_types.proofs.compare.same_id.Goals as goal

-- where the counters are equal, the actors decide
by_actor : (a b : OpId) (r : Bool) → a.counter ≡ b.counter → r ≡ same_bytes a.actor b.actor → r ≡ same_id a b
by_actor a b r e h =
    h ∙ sym (is_eq-slice_cmp a.actor b.actor)
    ∙ ap (λ o. is_eq (ordering_then o (bytes_cmp a.actor b.actor))) (sym (ap (nat_cmp a.counter) (sym e) ∙ tied_itself nat_cmp_total a.counter))

pub returns-then-a-b : goal.returns-then-a-b
returns-then-a-b c = record { same = by_actor (id_of c.args.a) (id_of c.args.b) c.same_actor.result c.if-a-b.true c.same_actor.ensures }
