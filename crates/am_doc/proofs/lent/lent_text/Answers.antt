use Rattle.std.proofs.Common.{ℕ, List, sym, subst}
use Rattle.std.specs.List.{AllByRecursion}
use Rattle.am_colmeta.specs.Metadata.{metadata, listing, body}
use Rattle.am_doccols.specs.Columns.{written_rows}
use Rattle.am_doccols.specs.Conditions.{IsRowFor}
use Rattle.am_doc.proofs.Writers.{text_after}
use Rattle.am_doc.proofs.lent.lent_text.Goals as goal

pub push_rows-all-requires : goal.push_rows-all-requires
push_rows-all-requires c = record {
  empty = c.in_ok-writer.ensures.rows;
  all = subst (λ (a : List (List ℕ)). AllByRecursion (IsRowFor a) c.args.rows.now) (sym c.in_ok-writer.ensures.actors) c.requires.all;
  few = c.requires.few;
  few_succs = c.requires.few_succs;
}

pub returns-clause-metadata : goal.returns-clause-metadata
returns-clause-metadata c = text_after (λ t. t.0) (λ a rows. metadata (listing (written_rows a rows))) c.push_rows-all.new.writer.0 c.in_ok-writer.writer.0 c.args.actors.now c.push_rows-all.new.writer.1 c.args.rows.now c.push_rows-all.result c.finish.result c.and.result
    c.and.ensures c.push_rows-all.ensures.actors c.in_ok-writer.ensures.actors c.push_rows-all.ensures.rows c.finish.ensures.metadata

pub returns-clause-body : goal.returns-clause-body
returns-clause-body c = text_after (λ t. t.1) (λ a rows. body (written_rows a rows)) c.push_rows-all.new.writer.0 c.in_ok-writer.writer.0 c.args.actors.now c.push_rows-all.new.writer.1 c.args.rows.now c.push_rows-all.result c.finish.result c.and.result
    c.and.ensures c.push_rows-all.ensures.actors c.in_ok-writer.ensures.actors c.push_rows-all.ensures.rows c.finish.ensures.body
