use Rattle.std.proofs.Common.{rules, sym, ap, ◌∙◌, ◌++◌, subst, FitsSigned, w64}
use Rattle.std.proofs.lemmas.Int.{to_z-of_z}
use Rattle.am_leb.specs.Leb.{leb}
use Rattle.am_runs.specs.Items.{IsItem, signed_end}
use Rattle.am_runs.proofs.ItemIs.{signed_item}
use Rattle.am_delta.proofs.Sums.{passed}
use Rattle.am_delta.proofs.writer.put.Goals as goal

pub push-requires-in-Some-clause-item : goal.push-requires-in-Some-clause-item
push-requires-in-Some-clause-item c =
    let d = c.in-Some.difference in
    let fits : FitsSigned w64 d = search rules in
    let e = c.as_slice.ensures.value ∙ c.in_ok-push_i-in-Some.ensures.ok ∙ ap (λ l. l ++ leb (passed d)) c.clear.ensures.items in
    subst (IsItem signed_end) (sym e) (signed_item (passed d) (subst (FitsSigned w64) (sym (to_z-of_z w64 d fits)) fits))

pub push-requires-in-Some-signed_byte-clause-item : goal.push-requires-in-Some-signed_byte-clause-item
push-requires-in-Some-signed_byte-clause-item c =
    let d = c.in-Some.difference in
    let fits : FitsSigned w64 d = search rules in
    subst (IsItem signed_end) c.in-Some-signed_byte.ensures.byte (signed_item (passed d) (subst (FitsSigned w64) (sym (to_z-of_z w64 d fits)) fits))
