use Rattle.std.proofs.Common.{◌≡◌, ◌≤◌, ◌^◌, arith, map, length, ◌∙◌, sym}
use Rattle.std.proofs.lemmas.List.{length-map}
use Rattle.am_colmeta.specs.Metadata.{column_at}
use Rattle.am_fields.proofs.MetaLaws.{wholes_wider, wholes_again, indexes_wider, indexes_again}
use Rattle.am_doccols.specs.Metas.{metas_from}
use Rattle.am_doccols.proofs.MetaLaws.{Even, fields_from, SpellsMetas-made, authors_of, seqs_of, maxes_of, times_of, messages_of, deps_of, extras_of, count_of}
use Rattle.am_doccols.proofs.metas.known.Goals as goal

pub spelled-authors-requires : goal.spelled-authors-requires
spelled-authors-requires c = rw c.find-author.ensures (map (λ r. r.actor) c.requires.0, authors_of c.args.actors.now c.args.columns.now c.requires.0 c.requires.1)

pub spelled-seqs-requires : goal.spelled-seqs-requires
spelled-seqs-requires c =
    let told = rw c.find-author.ensures at c.spelled-authors.ensures in
    let n : length c.requires.0 ≡ c.left-count.result = count_of c.args.actors.now c.args.columns.now c.requires.0 c.requires.1 c.spelled-authors.result told c.left-count.result c.left-count.ensures in
    rw c.find-seq.ensures (map (λ r. r.seq) c.requires.0, wholes_wider 1 (2 ^ 53) 0 (2 ^ 53) (omega arith) (omega arith) (column_at c.args.columns.now 3) (map (λ r. r.seq) c.requires.0) (seqs_of c.args.actors.now c.args.columns.now c.requires.0 c.requires.1), length-map c.requires.0 (λ r. r.seq) ∙ n)

pub spelled-maxes-requires : goal.spelled-maxes-requires
spelled-maxes-requires c =
    let told = rw c.find-author.ensures at c.spelled-authors.ensures in
    let n : length c.requires.0 ≡ c.left-count.result = count_of c.args.actors.now c.args.columns.now c.requires.0 c.requires.1 c.spelled-authors.result told c.left-count.result c.left-count.ensures in
    rw c.find-max.ensures (map (λ r. r.max) c.requires.0, maxes_of c.args.actors.now c.args.columns.now c.requires.0 c.requires.1, length-map c.requires.0 (λ r. r.max) ∙ n)

pub spelled-times-requires : goal.spelled-times-requires
spelled-times-requires c =
    let told = rw c.find-author.ensures at c.spelled-authors.ensures in
    let n : length c.requires.0 ≡ c.left-count.result = count_of c.args.actors.now c.args.columns.now c.requires.0 c.requires.1 c.spelled-authors.result told c.left-count.result c.left-count.ensures in
    rw c.find-time.ensures (map (λ r. r.time) c.requires.0, times_of c.args.actors.now c.args.columns.now c.requires.0 c.requires.1, length-map c.requires.0 (λ r. r.time) ∙ n)

pub spelled-messages-requires : goal.spelled-messages-requires
spelled-messages-requires c =
    let told = rw c.find-author.ensures at c.spelled-authors.ensures in
    let n : length c.requires.0 ≡ c.left-count.result = count_of c.args.actors.now c.args.columns.now c.requires.0 c.requires.1 c.spelled-authors.result told c.left-count.result c.left-count.ensures in
    rw c.find-message.ensures (map (λ r. r.message) c.requires.0, messages_of c.args.actors.now c.args.columns.now c.requires.0 c.requires.1, length-map c.requires.0 (λ r. r.message) ∙ n)

pub spelled-deps-requires : goal.spelled-deps-requires
spelled-deps-requires c =
    let told = rw c.find-author.ensures at c.spelled-authors.ensures in
    let n : length c.requires.0 ≡ c.left-count.result = count_of c.args.actors.now c.args.columns.now c.requires.0 c.requires.1 c.spelled-authors.result told c.left-count.result c.left-count.ensures in
    let few : c.left-count.result ≤ 2 ^ 53 = (let authors = c.spelled-authors.ensures.few in omega (arith, c.left-count.ensures, authors)) in
    rw (c.find-group.ensures, c.find-index.ensures) (map (λ r. r.deps) c.requires.0, indexes_wider c.left-count.result (2 ^ 53) few (column_at c.args.columns.now 64) (column_at c.args.columns.now 67) (map (λ r. r.deps) c.requires.0) (deps_of c.args.actors.now c.args.columns.now c.requires.0 c.requires.1 c.left-count.result n), length-map c.requires.0 (λ r. r.deps) ∙ n)

pub spelled-extras-requires : goal.spelled-extras-requires
spelled-extras-requires c =
    let told = rw c.find-author.ensures at c.spelled-authors.ensures in
    let n : length c.requires.0 ≡ c.left-count.result = count_of c.args.actors.now c.args.columns.now c.requires.0 c.requires.1 c.spelled-authors.result told c.left-count.result c.left-count.ensures in
    rw (c.find-numbers.ensures, c.find-raw.ensures) (map (λ r. r.extra) c.requires.0, extras_of c.args.actors.now c.args.columns.now c.requires.0 c.requires.1, length-map c.requires.0 (λ r. r.extra) ∙ n)

pub returns : goal.returns
returns c =
    let even : Even c.left-count.result c.spelled-authors.result c.spelled-seqs.result c.spelled-maxes.result c.spelled-times.result c.spelled-messages.result c.spelled-deps.result c.spelled-extras.result =
    record { authors = sym c.left-count.ensures; seqs = c.spelled-seqs.ensures.count; maxes = c.spelled-maxes.ensures.count; times = c.spelled-times.ensures.count; messages = c.spelled-messages.ensures.count; deps = c.spelled-deps.ensures.count; extras = c.spelled-extras.ensures.count } in
    let authors = rw c.find-author.ensures at c.spelled-authors.ensures in
    let told = rw c.find-author.ensures at c.spelled-authors.ensures in
    let n : length c.requires.0 ≡ c.left-count.result = count_of c.args.actors.now c.args.columns.now c.requires.0 c.requires.1 c.spelled-authors.result told c.left-count.result c.left-count.ensures in
    let wide_seqs = rw c.find-seq.ensures at c.spelled-seqs.ensures.spelled in
    let seqs = wholes_again 1 (2 ^ 53) (column_at c.args.columns.now 3) c.spelled-seqs.result wide_seqs.column (map (λ r. r.seq) c.requires.0) (seqs_of c.args.actors.now c.args.columns.now c.requires.0 c.requires.1) (c.spelled-seqs.ensures.count ∙ sym (length-map c.requires.0 (λ r. r.seq) ∙ n)) in
    let maxes = rw c.find-max.ensures at c.spelled-maxes.ensures.spelled in
    let times = rw c.find-time.ensures at c.spelled-times.ensures.spelled in
    let messages = rw c.find-message.ensures at c.spelled-messages.ensures.spelled in
    let wide_deps = rw (c.find-group.ensures, c.find-index.ensures) at c.spelled-deps.ensures.spelled in
    let deps = indexes_again c.left-count.result (2 ^ 53) (column_at c.args.columns.now 64) (column_at c.args.columns.now 67) c.spelled-deps.result wide_deps (map (λ r. r.deps) c.requires.0) (deps_of c.args.actors.now c.args.columns.now c.requires.0 c.requires.1 c.left-count.result n) (c.spelled-deps.ensures.count ∙ sym (length-map c.requires.0 (λ r. r.deps) ∙ n)) in
    let extras = rw (c.find-numbers.ensures, c.find-raw.ensures) at c.spelled-extras.ensures.spelled in
    SpellsMetas-made c.args.actors.now c.args.columns.now (metas_from c.spelled-authors.result c.spelled-seqs.result c.spelled-maxes.result c.spelled-times.result c.spelled-messages.result c.spelled-deps.result c.spelled-extras.result) c.spelled-authors.result c.spelled-seqs.result c.spelled-maxes.result c.spelled-times.result c.spelled-messages.result c.spelled-deps.result c.spelled-extras.result
    (fields_from c.left-count.result c.spelled-authors.result c.spelled-seqs.result c.spelled-maxes.result c.spelled-times.result c.spelled-messages.result c.spelled-deps.result c.spelled-extras.result even)
    c.left-count.result (sym c.left-count.ensures)
    authors seqs maxes times messages deps extras
