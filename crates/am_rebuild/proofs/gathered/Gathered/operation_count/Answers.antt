use Rattle.std.proofs.Common.{List, length, ap, ◌∙◌}
use Rattle.am_types.specs.declared.Totals.{Totals}
use Rattle.am_types.specs.Members.{Member, changes}
use Rattle.am_types.specs.Operations.{all_operations}
use Rattle.am_fits.specs.Indexes.{Indexed}
use Rattle.am_delivery.specs.Waiting.{members_of}
use Rattle.am_rebuild.proofs.Entries.{operation_count}
use Rattle.am_rebuild.proofs.gathered.Gathered.operation_count.Goals as goal

pub returns : goal.returns
returns c =
    ap (λ (t : Totals). t.operations) c.totals.ensures ∙ ap (λ (x : Indexed). x.totals.operations) c.self.invariant.of_set.index
    ∙ operation_count (changes (members_of c.self.inside.entries.items)) ∙ ap (λ (C : List Member). length (all_operations (changes C))) c.self.view_is
