use Rattle.std.proofs.Common.{rules, ◌<◌, ◌^◌, length}
use Rattle.am_types.specs.Documents.{table}
use Rattle.am_store.proofs.Reading.{contents_spell}
use Rattle.am_store.proofs.contents.doc_of.Goals as goal

pub spelled-requires : goal.spelled-requires
spelled-requires c =
    let bytes = c.args.contents.now in
    let short : length bytes < 2 ^ 64 = search rules in
    (table c.requires.0, contents_spell c.canonical_contents_spell.ensures.sets bytes short c.requires.0 c.requires.1)

pub returns : goal.returns
returns c = λ C is.
    let bytes = c.args.contents.now in
    let short : length bytes < 2 ^ 64 = search rules in
    c.one_table.ensures bytes c.spelled.result (table C) c.spelled.ensures (contents_spell c.canonical_contents_spell.ensures.sets bytes short C is)
