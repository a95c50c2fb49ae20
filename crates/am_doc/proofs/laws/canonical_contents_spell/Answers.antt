use Rattle.am_types.specs.Documents.{table}
use Rattle.am_doc.proofs.Canonical.{contents_spell}
use Rattle.am_doc.proofs.Readable.{readable}
use Rattle.am_doc.proofs.Writable.{writable}
use Rattle.am_doc.proofs.laws.canonical_contents_spell.Goals as goal

pub returns : goal.returns
returns c = record {
  tables = contents_spell;
  sets = (
      λ C v s.
      let w = c.table_is_within.ensures C v in
      contents_spell (table C) (writable (table C) w) (readable C (c.valid_sets_keep_rules.ensures C v) w (c.actors_are_authors.ensures C v)) s);
}
