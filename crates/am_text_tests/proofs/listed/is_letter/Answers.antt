use Rattle.std.proofs.Common.{sym, ◌∙◌}
use Rattle.std.proofs.lemmas.Bool.{ltb-true}
use Rattle.am_types.proofs.SameLaws.{same_object-true}
use Rattle.am_text_tests.proofs.listed.is_letter.Goals as goal

pub returns : goal.returns
returns c =
    let same = rw (c.lend.ensures, c.lend-2.ensures) at c.same_object.ensures.same in
    λ h. record {
      object = same_object-true c.args.entry.now.obj c.args.object.now (sym same ∙ c.if-not-same_object.false);
      inserted = c.is_inserted.ensures c.if-not-is_inserted.false;
      action = c.if-entry-ne-SET.false;
      value = c.sets.ensures c.if-not-sets.false;
      ascii = ltb-true c.args.letter 128 h;
    }
