use Rattle.std.proofs.Common.{rules, ◌≡◌, ◌++◌, ℕ, List, length, refl, sym, ap, subst, ◌∙◌}
use Rattle.am_colmeta.specs.Metadata.{body}
use Rattle.am_doccols.specs.Columns.{SpellsMetas, SpellsRows}
use Rattle.am_doccols.proofs.OneReading.{metas-same}
use Rattle.am_doc.specs.Fronts.{front_bytes}
use Rattle.am_doc.specs.Reading.{front_of}
use Rattle.am_doc.specs.Spelling.{IsSuffix}
use Rattle.am_doc.proofs.doc_ref.document_with.Goals as goal

pub returns-in_default-clause-none : goal.returns-in_default-clause-none
returns-in_default-clause-none c = λ t plain plain_rows s.
    let actors = c.args.front.now.actors in
    let first = c.in_ok-metas.ensures.only s.metas (body s.rows ++ s.suffix) plain s.are_metas s.metas_listed s.joined in
    let spelled = subst (λ (cs : List (ℕ × List ℕ)). SpellsMetas actors cs t.metas) (sym first.0) s.spells_metas in
    c.in_default.ensures.err t.metas (subst (λ (os : List (List ℕ)). SpellsMetas os c.in_ok-metas.metas t.metas) (sym c.again.ensures) spelled)

pub returns-in_default-over-clause-none : goal.returns-in_default-over-clause-none
returns-in_default-over-clause-none c = λ t plain plain_rows s.
    let actors = c.args.front.now.actors in
    let first = c.in_ok-metas.ensures.only s.metas (body s.rows ++ s.suffix) plain s.are_metas s.metas_listed s.joined in
    let second = c.in_ok-rows.ensures.only s.rows s.suffix plain_rows s.are_rows s.rows_listed first.1 in
    let spelled = subst (λ (cs : List (ℕ × List ℕ)). SpellsRows actors cs t.rows) (sym second.0) s.spells_rows in
    c.in_default-over.ensures.err t.rows (subst (λ (os : List (List ℕ)). SpellsRows os c.in_ok-rows.rows t.rows) (sym c.again-2.ensures) spelled)

pub returns-then-not-is_suffix-clause-none : goal.returns-then-not-is_suffix-clause-none
returns-then-not-is_suffix-clause-none c = λ t plain plain_rows s.
    let actors = c.args.front.now.actors in
    let first = c.in_ok-metas.ensures.only s.metas (body s.rows ++ s.suffix) plain s.are_metas s.metas_listed s.joined in
    let second = c.in_ok-rows.ensures.only s.rows s.suffix plain_rows s.are_rows s.rows_listed first.1 in
    let read = subst (λ (os : List (List ℕ)). SpellsMetas os c.in_ok-metas.metas c.in-Ok.metas) c.again.ensures c.in-Ok.ensures.spelled in
    let spelled = subst (λ (cs : List (ℕ × List ℕ)). SpellsMetas actors cs t.metas) (sym first.0) s.spells_metas in
    let same : c.in-Ok.metas ≡ t.metas = metas-same actors c.in_ok-metas.metas c.in-Ok.metas t.metas read spelled in
    let count : c.count.result ≡ length c.args.front.now.heads = c.count.ensures in
    let left : c.left.result ≡ length t.metas = c.left.ensures ∙ ap length same in
    let P : ℕ → ℕ → List ℕ → Type 0 = λ h m b. IsSuffix h m b t.suffix in
    let there = subst (λ h. P h c.left.result c.in_ok-rows.suffix.now) (sym count) (subst (λ m. P (length c.args.front.now.heads) m c.in_ok-rows.suffix.now) (sym left) (subst (λ (b : List ℕ). P (length c.args.front.now.heads) (length t.metas) b) (sym second.1) s.is_suffix)) in
    absurd (cc (c.if-not-is_suffix.ensures.only t.suffix there).0)

pub invariant_of-result : goal.invariant_of-result
invariant_of-result c = record {
  bytes = front_bytes (front_of c.args.front.now) ++ c.args.rest.now;
  spelled = record {
    front = front_of c.args.front.now;
    rest = c.args.rest.now;
    is_front = c.requires;
    bytes_are = refl;
    behind = search rules;
  };
}
