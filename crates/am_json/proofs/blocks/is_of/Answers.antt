use Rattle.std.proofs.Common.{◌≡◌, true, length, sym, ap, ◌∙◌}
use Rattle.std.specs.Prelude.{nat_lt, ◌&&◌}
use Rattle.std.proofs.lemmas.Bool.{lt-ltb}
use Rattle.am_types.specs.Same.{same_object}
use Rattle.am_types.specs.Views.{object_of}
use Rattle.am_json.specs.Blocks.{object_at}
use Rattle.am_json.proofs.Parted.{object_in}
use Rattle.am_json.proofs.blocks.is_of.Goals as goal

pub returns-then-place-blocks : goal.returns-then-place-blocks
returns-then-place-blocks c =
    let bs = c.args.blocks.now in
    let o = object_of c.args.object in
    let there : nat_lt c.args.place (length bs) ≡ true = lt-ltb c.args.place (length bs) c.if-place-blocks.true in
    c.same_object.ensures.same ∙ (ap (λ x. same_object x o) (sym (object_in bs c.args.place _ c.if-place-blocks.true)) ∙ ap (λ b. b && same_object (object_at bs c.args.place) o) (sym there))
