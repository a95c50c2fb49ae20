use Rattle.std.proofs.Common.{◌≡◌, ◌∙◌, [], ◌∷◌, ◌++◌, refl, ap}
use Rattle.am_leb.specs.Leb.{uleb, digits}
use Rattle.am_types.specs.Canonical.{order}
use Rattle.am_types.specs.Documents.{table}
use Rattle.am_types.specs.Rows.{rows}
use Rattle.am_doc.specs.Contents.{body}
use Rattle.am_store.proofs.contents.empty_contents.Goals as goal

zeros : 0 ∷ 0 ∷ 0 ∷ 0 ∷ [] ≡ body (table [])
unfolding body table uleb digits order rows
zeros = refl

pub returns : goal.returns
returns c = c.in_ok-push_slice.ensures.ok ∙ ap (λ bytes. bytes ++ 0 ∷ 0 ∷ 0 ∷ 0 ∷ []) c.new-contents.ensures ∙ zeros
