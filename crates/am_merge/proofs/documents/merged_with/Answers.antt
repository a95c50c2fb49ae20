use Rattle.std.proofs.Common.{◌≡◌, ◌++◌, List, length, map, ap, ◌∙◌}
use Rattle.std.proofs.lemmas.Result.{IfOk-weaker}
use Rattle.am_types.specs.Members.{Member, hashes, heads}
use Rattle.am_types.specs.Canonical.{order}
use Rattle.am_types.specs.Documents.{metas, used_actors, suffix, unless_empty}
use Rattle.am_colmeta.specs.Metadata.{metadata, listing, body as columns_body}
use Rattle.am_doccols.specs.Columns.{written_metas}
use Rattle.am_merge.specs.ChangeRows.{turns, change_rows}
use Rattle.am_merge.specs.Places.{place_in}
use Rattle.am_merge.proofs.Merged.{written, metas_count, rows_are, turns_fine, lent_turns, body_of}
use Rattle.am_merge.proofs.documents.merged_with.Goals as goal

pub metas_text-requires : goal.metas_text-requires
metas_text-requires c =
    let C = c.requires.before in
    let E = c.requires.added in
    let m = c.requires.joins in
    let M : List Member = order (C ++ E) in
    let ordered : c.in_ok-hashes.hashes ≡ hashes M = c.in_ok-hashes.ensures.set (C ++ E) m.grown.graph in
    let places : c.in_ok-places.places ≡ hashes M = c.in_ok-places.ensures ∙ c.as_slice.ensures ∙ ordered in
    let old : c.args.old ≡ metas (order C) = m.change_rows in
    let count : c.left.result ≡ length C = c.left.ensures ∙ ap length old ∙ metas_count C in
    let told : lent_turns c.as_slice-3.result.now ≡ turns C M =
    ap lent_turns c.as_slice-3.ensures.value
    ∙ c.in_ok-turns.ensures C E (record { graph = m.grown.graph; count = count; added = m.grown.added; valid_before = m.grown.valid_before; valid = m.grown.valid }) (c.as_slice-2.ensures ∙ ordered) in
    let rows : change_rows c.in_ok-places.places (lent_turns c.as_slice-3.result.now) c.args.old ≡ metas M =
    rows_are c.metas_of_larger.ensures C E m.grown.valid_before m.grown.valid c.in_ok-places.places (lent_turns c.as_slice-3.result.now) c.args.old places told old in
    let within = written (C ++ E) (c.sets_are_writable.ensures (C ++ E) m.grown.valid) c.args.actors.now _ m.used rows in
    record {
      fine = turns_fine c.valid_sets_keep_rules.ensures C (C ++ E) m.grown.valid c.as_slice-3.result.now told;
      all = within.all;
      few = within.few;
      few_deps = within.few_deps;
    }

pub returns : goal.returns
returns c = IfOk-weaker c.joined.result _ _
    (λ bytes e C E m er es.
    let M : List Member = order (C ++ E) in
    let ordered : c.in_ok-hashes.hashes ≡ hashes M = c.in_ok-hashes.ensures.set (C ++ E) m.grown.graph in
    let places : c.in_ok-places.places ≡ hashes M = c.in_ok-places.ensures ∙ c.as_slice.ensures ∙ ordered in
    let old : c.args.old ≡ metas (order C) = m.change_rows in
    let count : c.left.result ≡ length C = c.left.ensures ∙ ap length old ∙ metas_count C in
    let told : lent_turns c.as_slice-3.result.now ≡ turns C M =
    ap lent_turns c.as_slice-3.ensures.value
    ∙ c.in_ok-turns.ensures C E (record { graph = m.grown.graph; count = count; added = m.grown.added; valid_before = m.grown.valid_before; valid = m.grown.valid }) (c.as_slice-2.ensures ∙ ordered) in
    let rows : change_rows c.in_ok-places.places (lent_turns c.as_slice-3.result.now) c.args.old ≡ metas M =
    rows_are c.metas_of_larger.ensures C E m.grown.valid_before m.grown.valid c.in_ok-places.places (lent_turns c.as_slice-3.result.now) c.args.old places told old in
    let actors : c.args.actors.now ≡ used_actors (C ++ E) = m.used in
    let stated : c.in_ok-heads.heads ≡ heads (C ++ E) = c.in_ok-heads.ensures.set (C ++ E) m.grown.graph in
    let at : c.in_ok-suffix.suffix ≡ suffix (C ++ E) = c.in_ok-suffix.ensures ∙ (λ i. unless_empty (map (λ h. place_in (places i) h) ((c.as_slice-4.ensures ∙ stated) i))) in
    e ∙ body_of (C ++ E) c.args.actors.now c.as_slice-5.result.now c.in_ok-suffix.suffix c.in_ok-metas.metas.0 c.args.rows.now.0 c.in_ok-metas.metas.1 c.args.rows.now.1
    actors (c.as_slice-5.ensures ∙ stated) at
    (c.in_ok-metas.ensures.metadata ∙ (λ i. metadata (listing (written_metas (actors i) (rows i))))) er
    (c.in_ok-metas.ensures.body ∙ (λ i. columns_body (written_metas (actors i) (rows i)))) es)
    c.joined.ensures
