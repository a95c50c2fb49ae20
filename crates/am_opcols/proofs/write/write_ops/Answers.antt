use Rattle.std.proofs.Common.{◌≡◌, ◌∷◌, ℕ, List, map, ap, ◌∙◌, subst, arith}
use Rattle.std.proofs.lemmas.List.{length-map}
use Rattle.am_colmeta.specs.Metadata.{metadata, listing, body, not_empty}
use Rattle.am_fields.specs.Columns.{spellings}
use Rattle.am_opcols.specs.Columns.{op_columns}
use Rattle.am_opcols.specs.Others.{others}
use Rattle.am_opcols.proofs.OtherLaws.{first_of}
use Rattle.am_opcols.proofs.WrittenOps.{within}
use Rattle.am_opcols.proofs.write.write_ops.Goals as goal

pub others_of-requires : goal.others_of-requires
others_of-requires g c = within (map g.O.ReadOp.op c.args.ops.now) c.requires.fine (omega (arith, length-map c.args.ops.now g.O.ReadOp.op, c.requires.few)) c.requires.few_preds

pub returns-clause-metadata : goal.returns-clause-metadata
returns-clause-metadata g c =
    let actors_are : c.of.result ≡ c.args.author.now ∷ others c.args.author.now (map g.O.ReadOp.op c.args.ops.now) =
    first_of c.of.result c.in_ok-actors.actors.items (others c.args.author.now (map g.O.ReadOp.op c.args.ops.now)) c.in_ok-first.first c.args.author.now (c.of.ensures ∙ c.deref.ensures.value ∙ c.in_ok-insert.ensures.items) c.in_ok-first.ensures (c.in_ok-actors.ensures ∙ ap (λ a. others a (map g.O.ReadOp.op c.args.ops.now)) c.as_slice.ensures.value) in
    let P : List (List ℕ) → Type 0 = λ actors. c.in_ok-metadata.metadata ≡ metadata (listing (not_empty (spellings actors (op_columns (map g.O.ReadOp.op c.args.ops.now))))) in
    subst P actors_are c.in_ok-metadata.ensures.metadata

pub returns-clause-body : goal.returns-clause-body
returns-clause-body g c =
    let actors_are : c.of.result ≡ c.args.author.now ∷ others c.args.author.now (map g.O.ReadOp.op c.args.ops.now) =
    first_of c.of.result c.in_ok-actors.actors.items (others c.args.author.now (map g.O.ReadOp.op c.args.ops.now)) c.in_ok-first.first c.args.author.now (c.of.ensures ∙ c.deref.ensures.value ∙ c.in_ok-insert.ensures.items) c.in_ok-first.ensures (c.in_ok-actors.ensures ∙ ap (λ a. others a (map g.O.ReadOp.op c.args.ops.now)) c.as_slice.ensures.value) in
    let P : List (List ℕ) → Type 0 = λ actors. c.in_ok-metadata.body ≡ body (not_empty (spellings actors (op_columns (map g.O.ReadOp.op c.args.ops.now)))) in
    subst P actors_are c.in_ok-metadata.ensures.body
