use Rattle.std.proofs.Common.{◌≡◌, ◌∷◌, ◌++◌, ℕ, List, Ok, Err, arith, subst, sym, ap, ◌∙◌, drop}
use Rattle.std.proofs.lemmas.List.{take-append-drop}
use Rattle.am_colmeta.specs.Metadata.{Ascend, body, listing}
use Rattle.am_colmeta.specs.Judgement.{AreKnown}
use Rattle.am_colmeta.specs.Judgement as columns
use Rattle.am_opcols.specs.Columns.{op_specifications, SpellsOps}
use Rattle.am_opcols.specs.Writing.{written_columns}
use Rattle.am_change.specs.Building.{front_of}
use Rattle.am_change.proofs.Parsing.{fits_behind, parts_behind, judged_as, ops_as, one_ops}
use Rattle.am_change.proofs.parse.behind_front.Goals as goal

pub returns-then-total-rest-clause-only : goal.returns-then-total-rest-clause-only
returns-then-total-rest-clause-only c = λ d fine s e r.
    let fits = fits_behind (front_of c.args.front.now) c.args.rest.now d e r in
    omega arith

pub returns-in_default-clause-only : goal.returns-in_default-clause-only
returns-in_default-clause-only c = λ d fine s e r.
    let f = front_of c.args.front.now in
    let parts = parts_behind f c.args.rest.now d c.total-total.result e r c.total-total.ensures.sum in
    let judged = subst (λ (l : List (ℕ × ℕ)). columns.Judges l c.split_at.result.0.now op_specifications (Err c.in_default.field-0)) c.again.ensures c.in_default.ensures.judged in
    let same = judged_as f c.split_at.result.0.now d (Err c.in_default.field-0) e (c.split_at.ensures.front ∙ parts.0) judged in
    cc

pub returns-in_default-ops-clause-only : goal.returns-in_default-ops-clause-only
returns-in_default-ops-clause-only c = λ d fine s e r.
    let f = front_of c.args.front.now in
    let parts = parts_behind f c.args.rest.now d c.total-total.result e r c.total-total.ensures.sum in
    let judged = subst (λ (l : List (ℕ × ℕ)). columns.Judges l c.split_at.result.0.now op_specifications (Ok c.in-Ok.columns)) c.again.ensures c.in-Ok.ensures.judged in
    let same = judged_as f c.split_at.result.0.now d (Ok c.in-Ok.columns) e (c.split_at.ensures.front ∙ parts.0) judged in
    let columns_are : c.in-Ok.columns ≡ written_columns d.actor d.ops = cc in
    let theirs = ops_as f c.of-columns.result d fine s e (c.of-columns.ensures ∙ columns_are) in
    c.in_default-ops.ensures.err d.ops (subst (λ (os : List (List ℕ)). SpellsOps (f.actor ∷ os) c.of-columns.result d.ops) (sym c.again-2.ensures) theirs)

pub returns-clause-spelled : goal.returns-clause-spelled
returns-clause-spelled c =
    let f = front_of c.args.front.now in
    subst (λ (os : List (List ℕ)). SpellsOps (f.actor ∷ os) c.of-columns.result c.in-Ok-ops.ops) c.again-2.ensures c.in-Ok-ops.ensures.spelled

pub returns-clause-ascend : goal.returns-clause-ascend
returns-clause-ascend c =
    let judged = c.in-Ok.ensures.judged in
    subst (λ (cs : List (ℕ × List ℕ)). Ascend (listing cs)) (sym c.of-columns.ensures) (subst Ascend (sym (judged.3).listed_are) judged.1)

pub returns-clause-are_known : goal.returns-clause-are_known
returns-clause-are_known c =
    let judged = c.in-Ok.ensures.judged in
    subst (λ (cs : List (ℕ × List ℕ)). AreKnown op_specifications (listing cs)) (sym c.of-columns.ensures) (subst (AreKnown op_specifications) (sym (judged.3).listed_are) judged.2)

pub returns-clause-listed : goal.returns-clause-listed
returns-clause-listed c = ap listing c.of-columns.ensures ∙ (c.in-Ok.ensures.judged.3).listed_are ∙ c.again.ensures

pub returns-clause-joined : goal.returns-clause-joined
returns-clause-joined c =
    sym (take-append-drop c.total-total.result c.args.rest.now)
    ∙ ap (λ b. b ++ drop c.total-total.result c.args.rest.now) (sym c.split_at.ensures.front ∙ sym (c.in-Ok.ensures.judged.3).bytes_are)
    ∙ ap (λ b. body c.in-Ok.columns ++ b) (sym c.split_at.ensures.back)
    ∙ ap (λ (cs : List (ℕ × List ℕ)). body cs ++ c.split_at.result.1.now) (sym c.of-columns.ensures)

pub returns-clause-only : goal.returns-clause-only
returns-clause-only c = λ d fine s e r.
    let f = front_of c.args.front.now in
    let parts = parts_behind f c.args.rest.now d c.total-total.result e r c.total-total.ensures.sum in
    let judged = subst (λ (l : List (ℕ × ℕ)). columns.Judges l c.split_at.result.0.now op_specifications (Ok c.in-Ok.columns)) c.again.ensures c.in-Ok.ensures.judged in
    let same = judged_as f c.split_at.result.0.now d (Ok c.in-Ok.columns) e (c.split_at.ensures.front ∙ parts.0) judged in
    let columns_are : c.in-Ok.columns ≡ written_columns d.actor d.ops = cc in
    let theirs : c.of-columns.result ≡ written_columns d.actor d.ops = c.of-columns.ensures ∙ columns_are in
    let spelled = subst (λ (os : List (List ℕ)). SpellsOps (f.actor ∷ os) c.of-columns.result c.in-Ok-ops.ops) c.again-2.ensures c.in-Ok-ops.ensures.spelled in
    (one_ops f c.of-columns.result c.in-Ok-ops.ops d fine s e theirs spelled, c.split_at.ensures.back ∙ parts.1, theirs)
