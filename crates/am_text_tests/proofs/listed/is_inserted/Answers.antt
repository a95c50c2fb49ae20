use Rattle.std.proofs.Common.{sym, ◌∙◌}
use Rattle.am_types.specs.declared.Key.TheVariants.{Elem}
use Rattle.am_types.proofs.SameLaws.{same_key-true}
use Rattle.am_text_tests.proofs.listed.is_inserted.Goals as goal

pub returns : goal.returns
returns c =
    let same = rw (c.lend.ensures, c.lend-2.ensures) at c.same_key.ensures.same in
    λ h. same_key-true c.args.entry.now.slot (Elem c.args.entry.now.id) (sym same ∙ h)
