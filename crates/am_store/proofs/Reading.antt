-- The contents of the document of a set spell its table.
use Rattle.std.proofs.Common.{ℕ, ◌<◌, ◌^◌, List, length, sym, subst}
use Rattle.am_types.specs.Members.{Member}
use Rattle.am_types.specs.Documents.{table}
use Rattle.am_doc.specs.Spelling.{SpellsTable}
use Rattle.am_store.specs.Contents.{IsContents}
use Rattle.am_store.proofs.Inversion.{ContentsSpell}

pub contents_spell : (spell : ContentsSpell) (bytes : List ℕ) (short : length bytes < 2 ^ 64) (C : List Member) (is : IsContents C bytes) → SpellsTable bytes (table C)
contents_spell spell bytes short C is = subst (λ b. SpellsTable b (table C)) (sym is.bytes_are) (spell C is.valid (subst (λ b. length b < 2 ^ 64) is.bytes_are short))
